-- When a train has which fault, with no order of checking in it but that of the causes.
--
-- AllFair y l        each of the pulses l is fair after the one before it, the first of them after y
-- FaultyAfter n y l f   the pulses l, the first of them of number n and y the one before it, have their first fault f: some of them
--                       are fair, and the next gives the cause
-- FirstFault u f     f is the first fault of u's pulses
-- Soundly u          u has none
-- Settles u          the first fault of u's pulses is the verdict on u, as a kind of however many bits
-- FaultLaws u        what the computed fault of u's pulses means
use Rattle.std.specs.Prelude.{◌≡◌, ℕ, ◌+◌, ◌⊎◌, ◌↔◌, List, [], ◌∷◌, ◌++◌, length, Some, None, Ok, Err}
use Rattle.line.specs.declared.event.Polarity.TheVariants.{Negative, Positive}
use Rattle.train.specs.declared.fault.Cause.{Cause}
use Rattle.train.specs.declared.fault.Cause.TheVariants.{Start}
use Rattle.train.specs.declared.fault.Fault.{Fault}
use Rattle.train.specs.declared.pulse.TimedPulse.{TimedPulse}
use Rattle.train.specs.Checks.{Checked}
use Rattle.train.specs.Faults.{fault}
use Rattle.train.specs.Trains.{Train, last, opening}
use Rattle.train.specs.Verdicts.{fault_of, faulty, kind_good, verdict}
use Rattle.train.specs.Windows.{place}

abbrev pub AllFair : TimedPulse → List TimedPulse → Type 0
AllFair y [] = Unit {0}
AllFair y (x ∷ l) = Checked (place y.t) y.polarity x (Ok (place x.t)) × AllFair x l

pub record FaultyAfter (n : ℕ) (y : TimedPulse) (l : List TimedPulse) (f : Fault) : Type 0 where
  pub front : List TimedPulse
  pub bad : TimedPulse
  pub back : List TimedPulse
  pub cause : Cause
  pub whole : l ≡ front ++ (bad ∷ back)
  pub fair : AllFair y front
  pub gives : Checked (place (last y front).t) (last y front).polarity bad (Err cause)
  pub is : f ≡ fault cause (length front + n) bad.t

abbrev pub FirstFault : Train → Fault → Type 0
FirstFault u f = ((u.first ≡ Positive) × (f ≡ fault Start 1 0)) ⊎ ((u.first ≡ Negative) × FaultyAfter 2 (opening u) u.later f)

abbrev pub Soundly : Train → Type 0
Soundly u = (u.first ≡ Negative) × AllFair (opening u) u.later

abbrev pub Settles : Train → Type 0
Settles u = (b : ℕ) (f : Fault) → fault_of u ≡ Some f → verdict (kind_good b) u ≡ faulty f

pub record FaultLaws (u : Train) : Type 0 where
  pub faulty : (f : Fault) → (fault_of u ≡ Some f) ↔ FirstFault u f
  pub sound : (fault_of u ≡ None) ↔ Soundly u
  pub settles : Settles u
