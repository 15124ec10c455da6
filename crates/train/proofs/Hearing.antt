-- A whole train heard pulse by pulse: a fault stays the first, whatever pulses follow.
use Rattle.std.proofs.Common.{◌≡◌, ℕ, ◌+◌, ◌<◌, List, [], ◌∷◌, ◌++◌, length, get_or, take, drop, Some, Ok, Err, Result, take-append-drop, arith}
use Rattle.std.proofs.lemmas.List.{take_more}
use Rattle.std.proofs.lemmas.Option.{none-some}
use Rattle.line.specs.declared.event.Polarity.{Polarity}
use Rattle.train.specs.declared.fault.Fault.{Fault}
use Rattle.train.specs.declared.pulse.TimedPulse.{TimedPulse}
use Rattle.train.specs.declared.sound.Sound.{Sound}
use Rattle.train.specs.Sounds.{Grows, Outcome, Tells}
use Rattle.train.specs.Trains.{Train, opening}
use Rattle.train.specs.Verdicts.{fault_of, later_fault}

-- a fault stays the first, whatever pulses follow
later_more : (n : ℕ) (y : TimedPulse) (l r : List TimedPulse) (f : Fault) → later_fault n y l ≡ Some f → later_fault n y (l ++ r) ≡ Some f
later_more n y [] r f e = absurd (none-some f e)
later_more n y (x ∷ l) r f e = grind (arith, later_more (n + 1) x l r f)

module _ (p : Polarity) (l : List TimedPulse) where
  abbrev first_pulses : ℕ → Train
  first_pulses k = record { first = p; later = take k l }

  -- what comes of one more of the pulses l, heard after the first i
  outcome_next : (s : Sound) (r : Result Sound Fault) (i : ℕ) (d : TimedPulse) → i < length l → Tells s (first_pulses i) → Grows s (get_or l i d) r → Outcome (first_pulses (i + 1)) r
  outcome_next s r i d h t g = rw (take_more l i d h) (g _ t)

  pub tells_next : (s s' : Sound) (i : ℕ) (d : TimedPulse) → i < length l → Tells s (record { first = p; later = take i l }) → Grows s (get_or l i d) (Ok s') → Tells s' (record { first = p; later = take (i + 1) l })
  tells_next s s' i d h t g = outcome_next s (Ok s') i d h t g

  pub errs_next : (s : Sound) (f : Fault) (i : ℕ) (d : TimedPulse) → i < length l → Tells s (record { first = p; later = take i l }) → Grows s (get_or l i d) (Err f) → fault_of (record { first = p; later = l }) ≡ Some f
  errs_next s f i d h t g =
      let heard = later_more 2 (opening (first_pulses 0)) (take (i + 1) l) (drop (i + 1) l) f in
      grind (arith, outcome_next s (Err f) i d h t g, take-append-drop (i + 1) l)
