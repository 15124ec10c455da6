-- The verdict on a whole train.
--
-- Verdict         at fault, or clean with its row
-- blamed c n t    the fault of a cause, if there is one, at the pulse of number n, t ticks after the first
-- or_else x y     x, or y where x is none
-- later_fault     the first fault of the pulses l, the first of them of number n, y being the pulse before it
-- first_fault u   the fault of its first pulse
-- fault_of u      the first fault of a train's pulses
-- last_slot u     the slot of its last pulse
-- rest_fault      the fault that the checks at the rest find
-- settled f u     the verdict on u, where f is its first fault or none
-- verdict good u  the verdict on u, where good are the good last slots
-- kind_good b     the good last slots of a kind of b bits: only 2b - 2
-- CleanAs b u     u is clean as a kind of b bits
use Rattle.std.specs.Prelude.{◌≡◌, ℕ, ◌+◌, ◌-◌, ◌*◌, ◌/◌, Bool, cond, List, [], ◌∷◌, Some, None, Option}
use Rattle.train.specs.declared.fault.Cause.{Cause}
use Rattle.train.specs.declared.fault.Cause.TheVariants.{Start}
use Rattle.train.specs.declared.fault.Fault.{Fault}
use Rattle.train.specs.declared.pulse.TimedPulse.{TimedPulse}
use Rattle.train.specs.Checks.{cause_of, rest_cause}
use Rattle.train.specs.Faults.{fault}
use Rattle.train.specs.Trains.{Train, count, last_pulse, opening, positive, row}
use Rattle.train.specs.Windows.{place}

pub data Verdict : Type 0 where
  faulty : Fault → Verdict
  clean : List Bool → Verdict

abbrev pub blamed : Option Cause → ℕ → ℕ → Option Fault
blamed None n t = None
blamed (Some c) n t = Some (fault c n t)

abbrev pub or_else : Option Fault → Option Fault → Option Fault
or_else (Some f) y = Some f
or_else None y = y

abbrev pub later_fault : ℕ → TimedPulse → List TimedPulse → Option Fault
later_fault n y [] = None
later_fault n y (x ∷ l) = or_else (blamed (cause_of y x) n x.t) (later_fault (n + 1) x l)

abbrev pub first_fault : Train → Option Fault
first_fault u = cond (positive u.first) (Some (fault Start 1 0)) None

abbrev pub fault_of : Train → Option Fault
fault_of u = or_else (first_fault u) (later_fault 2 (opening u) u.later)

abbrev pub last_slot : Train → ℕ
last_slot u = place (last_pulse u).t

abbrev pub rest_fault : List ℕ → Train → Option Fault
rest_fault good u = blamed (rest_cause good (last_slot u) (last_pulse u).polarity (row (last_slot u / 2 + 1) u)) (count u) (last_pulse u).t

abbrev pub settled : Option Fault → Train → Verdict
settled (Some f) u = faulty f
settled None u = clean (row (last_slot u / 2 + 1) u)

abbrev pub verdict : List ℕ → Train → Verdict
verdict good u = settled (or_else (fault_of u) (rest_fault good u)) u

abbrev pub kind_good : ℕ → List ℕ
kind_good b = (2 * b - 2) ∷ []

abbrev pub CleanAs : ℕ → Train → Type 0
CleanAs b u = verdict (kind_good b) u ≡ clean (row b u)
