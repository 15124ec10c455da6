-- The bytes so far are digits, and the number is what they write.
use Rattle.std.proofs.Common.{◌≡◌, take}
use Rattle.std.specs.Str.Parse.{AllDigits}
use Rattle.asisend.specs.Numbers.{capped, written}
use Rattle.asisend.proofs.number.value.Given as goal

abbrev pub invariant-loop-byte : goal.invariant-loop-byte
invariant-loop-byte l = AllDigits 10 (take l.byte-index l.bytes) × (l.number ≡ capped (written (take l.byte-index l.bytes)))
