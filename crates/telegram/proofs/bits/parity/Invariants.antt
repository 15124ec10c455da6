-- After k bits the sum of the first k is known.
use Rattle.std.proofs.Common.{◌≡◌, take}
use Rattle.telegram.specs.Bits.{odd}
use Rattle.telegram.proofs.bits.parity.Given as goal

abbrev pub invariant-loop-bit : goal.invariant-loop-bit
invariant-loop-bit l = l.odd ≡ odd (take l.bit-index l.bits)
