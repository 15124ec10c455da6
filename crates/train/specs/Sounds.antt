-- What is kept of a train that is sound so far, and what reading a train answers.
--
-- Tells s u        s is what is kept of the train u, which is sound so far
-- Outcome u r      what comes of the pulses of u: what is kept of it, or its first fault
-- Begun p r        what hearing a first pulse of polarity p answers
-- Grows s x r      what hearing one more pulse x answers, after whatever train s tells
-- more_bits n p w  the bits w, and one more for a pulse of polarity p in slot n if that is even
-- Follows s x s'   s' keeps what s keeps and one more pulse x, which is fair
-- AsKind           what reading the train u as a kind answers, where the kind has so many bits and record_of is the record of a row
-- ToldAsKind       the same of whatever train s tells
-- Rested size s r  what the checks at the rest answer of whatever train s tells, as a kind of so many bits
use Rattle.std.specs.Prelude.{◌≡◌, ℕ, ◌+◌, ◌%◌, Bool, false, cond, List, [], ◌∷◌, ◌++◌, Some, None, Ok, Err, Result, ◌==◌}
use Rattle.line.specs.declared.event.Polarity.{Polarity}
use Rattle.telegram.specs.Rows.{row_bits}
use Rattle.train.specs.declared.fault.Cause.{Cause}
use Rattle.train.specs.declared.fault.Fault.{Fault}
use Rattle.train.specs.declared.pulse.TimedPulse.{TimedPulse}
use Rattle.train.specs.declared.sound.Sound.{Sound}
use Rattle.train.specs.Checks.{Checked}
use Rattle.train.specs.Faults.{fault}
use Rattle.train.specs.Trains.{Train, ◌then◌, bits, count, last_pulse, positive, row}
use Rattle.train.specs.Verdicts.{CleanAs, fault_of, faulty, kind_good, last_slot, verdict}

pub record Tells (s : Sound) (u : Train) : Type 0 where
  pub sound : fault_of u ≡ None
  pub many : s.count ≡ count u
  pub at : s.t ≡ (last_pulse u).t
  pub reached : s.slot ≡ last_slot u
  pub side : s.polarity ≡ (last_pulse u).polarity
  pub seen : row_bits s.row ≡ false ∷ bits u.later

abbrev pub Outcome : Train → Result Sound Fault → Type 0
Outcome u (Ok s) = Tells s u
Outcome u (Err f) = fault_of u ≡ Some f

abbrev pub Begun : Polarity → Result Sound Fault → Type 0
Begun p r = Outcome (record { first = p; later = [] }) r

abbrev pub Grows : Sound → TimedPulse → Result Sound Fault → Type 0
Grows s x r = (u : Train) → Tells s u → Outcome (u then x) r

abbrev pub more_bits : ℕ → Polarity → List Bool → List Bool
more_bits n p w = cond (n % 2 == 0) (w ++ (positive p ∷ [])) w

pub record Follows (s : Sound) (x : TimedPulse) (s' : Sound) : Type 0 where
  pub fair : Checked s.slot s.polarity x (Ok s'.slot)
  pub many : s'.count ≡ s.count + 1
  pub at : s'.t ≡ x.t
  pub side : s'.polarity ≡ x.polarity
  pub seen : row_bits s'.row ≡ more_bits s'.slot x.polarity (row_bits s.row)

abbrev pub AsKind : {Record : Type 0} → ℕ → (List Bool → Record) → Train → Result Record Fault → Type 0
AsKind size record_of u (Ok r) = CleanAs size u × (r ≡ record_of (row size u))
AsKind size record_of u (Err f) = verdict (kind_good size) u ≡ faulty f

abbrev pub ToldAsKind : {Record : Type 0} → ℕ → (List Bool → Record) → Sound → Result Record Fault → Type 0
ToldAsKind size record_of s r = (u : Train) → Tells s u → AsKind size record_of u r

abbrev pub Rested : {A : Type 0} → ℕ → Sound → Result A Cause → Type 0
Rested size s (Ok x) = (u : Train) → Tells s u → CleanAs size u × (row_bits s.row ≡ row size u)
Rested size s (Err c) = (u : Train) → Tells s u → verdict (kind_good size) u ≡ faulty (fault c s.count s.t)
