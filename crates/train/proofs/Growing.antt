-- One more pulse at the end of a sound train: all that is kept of a train goes by its last pulse, and a fault there is the first.
use Rattle.std.proofs.Common.{◌≡◌, ℕ, ◌+◌, List, [], ◌∷◌, ◌++◌, length, Some, None, Err, sym, refl, arith}
use Rattle.std.proofs.lemmas.List.{length_push}
use Rattle.train.specs.declared.fault.Cause.{Cause}
use Rattle.train.specs.declared.pulse.TimedPulse.{TimedPulse}
use Rattle.train.specs.declared.sound.Sound.{Sound}
use Rattle.train.specs.Checks.{Checked, cause_of, check}
use Rattle.train.specs.Faults.{fault}
use Rattle.train.specs.Sounds.{Follows, Tells, more_bits}
use Rattle.train.specs.Trains.{Train, ◌then◌, bits, last, opening}
use Rattle.train.specs.Verdicts.{blamed, fault_of, first_fault, later_fault}
use Rattle.train.specs.Windows.{place}
use Rattle.train.proofs.Carrying.{none_at}
use Rattle.train.proofs.Checking.{checked_err, checked_ok}
use Rattle.train.proofs.Cleaning.{both_none}

later_fault-push : (n : ℕ) (y x : TimedPulse) (l : List TimedPulse) → later_fault n y l ≡ None → later_fault n y (l ++ (x ∷ [])) ≡ blamed (cause_of (last y l) x) (n + length l) x.t
later_fault-push n y x [] e = grind arith
later_fault-push n y x (z ∷ l) e = let s = none_at n y z l e in grind (arith, later_fault-push (n + 1) z x l s.1)

last-push : (y x : TimedPulse) (l : List TimedPulse) → last y (l ++ (x ∷ [])) ≡ x
last-push y x [] = refl
last-push y x (z ∷ l) = last-push z x l

bits-push : (x : TimedPulse) (l : List TimedPulse) → bits (l ++ (x ∷ [])) ≡ more_bits (place x.t) x.polarity (bits l)
bits-push x [] = refl
bits-push x (z ∷ l) = grind (arith, bits-push x l)

-- the fault of a sound train with one more pulse is that pulse's
fault_of-then : (s : Sound) (u : Train) (x : TimedPulse) → Tells s u → fault_of (u then x) ≡ blamed (check s.slot s.polarity x) (s.count + 1) x.t
fault_of-then s u x h =
    let n = both_none (first_fault u) _ h.sound in
    let many : 2 + length u.later ≡ s.count + 1 = omega (arith, h.many) in
    grind (arith, later_fault-push 2 (opening u) x u.later n.1, h.reached, h.side)

pub spoils : (s : Sound) (x : TimedPulse) (c : Cause) → Checked s.slot s.polarity x (Err c) → (u : Train) → Tells s u → fault_of (u then x) ≡ Some (fault c (s.count + 1) x.t)
spoils s x c e u h = grind (arith, fault_of-then s u x h, checked_err _ _ x c e)

pub keeps : (s s' : Sound) (x : TimedPulse) → Follows s x s' → (u : Train) → Tells s u → Tells s' (u then x)
keeps s s' x f u h =
    let ok = checked_ok _ s'.slot _ x f.fair in
    let final_is = last-push (opening u) x u.later in
    record {
      sound = grind (arith, fault_of-then s u x h, ok);
      many = omega (arith, f.many, h.many, length_push u.later x);
      at = rw final_is f.at;
      reached = rw final_is (sym ok.1);
      side = rw final_is f.side;
      seen = grind (arith, f.seen, ok.1, h.seen, bits-push x u.later);
    }
