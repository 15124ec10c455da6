-- The causes of fault.
--
-- number c      the number by which a cause is known
-- fault c n t   the fault of cause c at the pulse of number n, t ticks after the first
use Rattle.std.specs.Prelude.{ℕ}
use Rattle.train.specs.declared.fault.Cause.{Cause}
use Rattle.train.specs.declared.fault.Cause.TheVariants.{Start, Timing, Alternation, NoInformation, EndBit, Parity, Length}
use Rattle.train.specs.declared.fault.Fault.{Fault}

abbrev pub number : Cause → ℕ
number Start = 1
number Timing = 2
number Alternation = 3
number NoInformation = 4
number EndBit = 5
number Parity = 6
number Length = 7

abbrev pub fault : Cause → ℕ → ℕ → Fault
fault c n t = record { cause = number c; pulse = n; t = t }
