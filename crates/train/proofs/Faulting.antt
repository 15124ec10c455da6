-- The computed fault of a train's pulses is the first in the order of the pulses, and among the causes of a pulse.
use Rattle.std.proofs.Common.{◌≡◌, ℕ, ◌+◌, ◌/◌, Bool, true, false, ◌&&◌, ltb, List, [], ◌∷◌, ◌++◌, length, Some, None, Ok, Err, Option, sym, refl, ap, ◌∙◌, subst, inr, true≢false, arith}
use Rattle.std.proofs.lemmas.Bool.{ltb-false, ltb-true}
use Rattle.std.proofs.lemmas.Option.{none-some}
use Rattle.line.specs.declared.event.Polarity.{Polarity}
use Rattle.line.specs.declared.event.Polarity.TheVariants.{Negative, Positive}
use Rattle.train.specs.declared.fault.Cause.{Cause}
use Rattle.train.specs.declared.fault.Fault.{Fault}
use Rattle.train.specs.declared.pulse.TimedPulse.{TimedPulse}
use Rattle.train.specs.Checks.{Checked, alike, cause_of, check, next_even, top}
use Rattle.train.specs.Faulted.{AllFair, FaultLaws, FaultyAfter, Settles}
use Rattle.train.specs.Faults.{fault}
use Rattle.train.specs.Trains.{Train, last}
use Rattle.train.specs.Verdicts.{blamed, kind_good, later_fault, or_else, rest_fault, settled}
use Rattle.train.specs.Windows.{in_slot, place}
use Rattle.train.proofs.Carrying.{none_at}
use Rattle.train.proofs.Checking.{after_tells, after_true, chain, checked_err, checked_ok}

-- what the computed check means
abbrev Meant : ℕ → Polarity → TimedPulse → Option Cause → Type 0
Meant m p x None = Checked m p x (Ok (place x.t))
Meant m p x (Some c) = Checked m p x (Err c)

meant : (m : ℕ) (p : Polarity) (x : TimedPulse) → Meant m p x (check m p x)
meant m p x = go (in_slot (place x.t) x.t && ltb m (place x.t)) (ltb top (place x.t)) (alike p x.polarity) (ltb (next_even m) (place x.t)) refl refl refl refl
  where
    go : (a b c d : Bool) → in_slot (place x.t) x.t && ltb m (place x.t) ≡ a → ltb top (place x.t) ≡ b → alike p x.polarity ≡ c → ltb (next_even m) (place x.t) ≡ d → Meant m p x (chain a b c d)
    go false b c d ea eb ec ed = λ k h. true≢false (sym (after_true m k x.t h) ∙ ea)
    go true true c d ea eb ec ed = (place x.t, after_tells m x.t ea, ltb-true _ _ eb)
    go true false true d ea eb ec ed = (place x.t, after_tells m x.t ea, ltb-false _ _ eb, ec)
    go true false false true ea eb ec ed =
        let far = ltb-true _ _ ed in
        (place x.t, after_tells m x.t ea, ltb-false _ _ eb, ec, (m / 2 + 1, omega arith, omega arith))
    go true false false false ea eb ec ed = (after_tells m x.t ea, ltb-false _ _ eb, ec, λ k. omega (arith, ltb-false _ _ ed, k.1, k.2))

-- fair pulses are those without a fault

none_fair : (n : ℕ) (y : TimedPulse) (l : List TimedPulse) → later_fault n y l ≡ None → AllFair y l
none_fair n y [] e = tt
none_fair n y (x ∷ l) e =
    let s = none_at n y x l e in
    (subst (Meant (place y.t) y.polarity x) s.0 (meant (place y.t) y.polarity x), none_fair (n + 1) x l s.1)

fair_none : (n : ℕ) (y : TimedPulse) (l : List TimedPulse) → AllFair y l → later_fault n y l ≡ None
fair_none n y [] h = refl
fair_none n y (x ∷ l) h = grind (arith, checked_ok _ _ _ x h.0, fair_none (n + 1) x l h.1)

-- the first fault is at the pulse after the fair ones

faulty_some : (n : ℕ) (y : TimedPulse) (l : List TimedPulse) (x : TimedPulse) (r : List TimedPulse) (c : Cause) → AllFair y l → Checked (place (last y l).t) (last y l).polarity x (Err c) → later_fault n y (l ++ (x ∷ r)) ≡ Some (fault c (length l + n) x.t)
faulty_some n y [] x r c h e = grind (arith, checked_err _ _ x c e)
faulty_some n y (z ∷ l) x r c h e = grind (arith, checked_ok _ _ _ z h.0, faulty_some (n + 1) z l x r c h.1 e)

some_found : (n : ℕ) (y : TimedPulse) (l : List TimedPulse) (f : Fault) → later_fault n y l ≡ Some f → FaultyAfter n y l f
some_found n y [] f e = absurd (none-some f e)
some_found n y (x ∷ l) f e = go (cause_of y x) (meant (place y.t) y.polarity x) e (some_found (n + 1) x l f)
  where
    go : (o : Option Cause) → Meant (place y.t) y.polarity x o → or_else (blamed o n x.t) (later_fault (n + 1) x l) ≡ Some f → (later_fault (n + 1) x l ≡ Some f → FaultyAfter (n + 1) x l f) → FaultyAfter n y (x ∷ l) f
    go (Some c) h g ih =
        record { front = []; bad = x; back = l; cause = c; whole = refl; fair = tt; gives = h; is = grind arith }
    go None h g ih =
        let r = ih g in
        record {
          front = x ∷ r.front;
          bad = r.bad;
          back = r.back;
          cause = r.cause;
          whole = rw (← r.whole);
          fair = (h, r.fair);
          gives = r.gives;
          is = grind (arith, r.is);
        }

-- a fault of the pulses leaves nothing to the checks at the rest
settles : (u : Train) → Settles u
settles u b f e = ap (λ o. settled (or_else o (rest_fault (kind_good b) u)) u) e

laws_of : (p : Polarity) (l : List TimedPulse) → FaultLaws (record { first = p; later = l })
laws_of Positive l = record {
  faulty = λ f. (λ e. grind arith, λ h. grind arith);
  sound = (λ e. grind arith, λ h. grind arith);
  settles = settles (record { first = Positive; later = l });
}
laws_of Negative l = record {
  faulty = λ f. (λ e. inr (refl, some_found 2 _ l f e), λ h. grind (arith, back f));
  sound = (λ e. (refl, none_fair 2 _ l e), λ h. fair_none 2 _ l h.1);
  settles = settles (record { first = Negative; later = l });
}
  where
    back : (f : Fault) → FaultyAfter 2 (record { t = 0; polarity = Negative }) l f → later_fault 2 (record { t = 0; polarity = Negative }) l ≡ Some f
    back f r = rw (r.whole, r.is) (faulty_some 2 (record { t = 0; polarity = Negative }) r.front r.bad r.back r.cause r.fair r.gives)

pub fault_laws : (u : Train) → FaultLaws u
fault_laws u = laws_of u.first u.later
