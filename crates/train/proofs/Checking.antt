-- The check of one later pulse, as a computation and by its meaning.
use Rattle.std.proofs.Common.{◌≡◌, ℕ, ◌+◌, ◌*◌, ◌/◌, ◌<◌, ◌≤◌, Bool, true, false, cond, ◌&&◌, ltb, Some, None, Ok, Err, Option, Result, sym, subst, arith}
use Rattle.std.proofs.lemmas.Bool.Decides.{nat_tests}
use Rattle.std.specs.Bool.{then_some}
use Rattle.std.specs.Option.{MatchOption}
use Rattle.line.specs.declared.event.Polarity.{Polarity}
use Rattle.line.specs.Turns.{opposite}
use Rattle.train.specs.declared.fault.Cause.{Cause}
use Rattle.train.specs.declared.fault.Cause.TheVariants.{Start, Timing, Alternation, NoInformation, EndBit, Parity, Length}
use Rattle.train.specs.declared.pulse.TimedPulse.{TimedPulse}
use Rattle.train.specs.Checks.{After, CheckLaws, Checked, SlotAfter, alike, caught, check, top}
use Rattle.train.specs.Windows.{InSlot, Slot, WindowLaws, in_slot, place}

-- a time is in one slot at most

pub place_is : (n t : ℕ) → InSlot n t → place t ≡ n
place_is n t h = omega (arith, h.early, h.late)

pub in_slot_is : (n t : ℕ) → InSlot n t → in_slot n t ≡ true
in_slot_is n t h = grind (arith, nat_tests, h.later, h.early, h.late)

pub in_slot_tells : (n t : ℕ) → in_slot n t ≡ true → InSlot n t
in_slot_tells n t e = grind (arith, nat_tests)

pub window_laws : (t : ℕ) → WindowLaws t
window_laws t = record { tested = λ n. (in_slot_is n t, in_slot_tells n t); one = λ n h. grind (arith, place_is n t h) }

pub in_slot_other : (n m t : ℕ) → InSlot n t → (m ≡ n → ⊥) → in_slot m t ≡ false
in_slot_other n m t h ne = grind (arith, nat_tests, h.early, h.late, h.later)

-- a polarity that is not alike is the opposite one

pub not_alike : (p q : Polarity) → alike p q ≡ false → q ≡ opposite p
not_alike p q e = grind arith

pub opposite_alike : (p : Polarity) → alike p (opposite p) ≡ false
opposite_alike p = grind arith

pub opposite_twice : (p : Polarity) → opposite (opposite p) ≡ p
opposite_twice p = grind arith

-- A later pulse x is fair after a pulse of polarity p in slot m
pub record Fair (m : ℕ) (p : Polarity) (x : TimedPulse) : Type 0 where
  pub within : InSlot (place x.t) x.t
  pub past : m < place x.t
  pub low : place x.t ≤ top
  pub turned : x.polarity ≡ opposite p
  pub near : place x.t ≤ 2 * (m / 2) + 2

-- the four tests in their order
abbrev pub chain : Bool → Bool → Bool → Bool → Option Cause
chain a b c d = cond a (cond b (Some Length) (cond c (Some Alternation) (cond d (Some NoInformation) None))) (Some Timing)

pub fair : (m : ℕ) (p : Polarity) (x : TimedPulse) → check m p x ≡ None → Fair m p x
fair m p x e = grind (arith, nat_tests, in_slot_tells (place x.t) x.t, not_alike p x.polarity)

pub after_tells : (m t : ℕ) → in_slot (place t) t && ltb m (place t) ≡ true → After m (place t) t
after_tells m t e = grind (arith, nat_tests, in_slot_tells (place t) t)

pub after_true : (m n t : ℕ) → After m n t → in_slot (place t) t && ltb m (place t) ≡ true
after_true m n t h = grind (arith, nat_tests, place_is n t h.0, in_slot_is n t h.0, h.1)

after_false : (m t : ℕ) → ((n : ℕ) → After m n t → ⊥) → in_slot (place t) t && ltb m (place t) ≡ false
after_false m t h = grind (arith, nat_tests, in_slot_tells (place t) t, h (place t))

pub fair_check : (m n : ℕ) (p : Polarity) (x : TimedPulse) → InSlot n x.t → m < n → n ≤ top → x.polarity ≡ opposite p → n ≤ 2 * (m / 2) + 2 → check m p x ≡ None
fair_check m n p x h l t o e = grind (arith, nat_tests, place_is n x.t h, in_slot_is n x.t h, opposite_alike p)

-- what the code's check answers is what the computation gives

pub checked_ok : (m n : ℕ) (p : Polarity) (x : TimedPulse) → Checked m p x (Ok n) → (check m p x ≡ None) × (place x.t ≡ n)
checked_ok m n p x h =
    let within = h.0.0 in
    let over = λ (far : 2 * (m / 2) + 2 < n). h.3 (m / 2 + 1, omega arith, omega arith) in
    grind (arith, nat_tests, place_is n x.t within, in_slot_is n x.t within)

pub checked_err : (m : ℕ) (p : Polarity) (x : TimedPulse) (c : Cause) → Checked m p x (Err c) → check m p x ≡ Some c
checked_err m p x Timing h = grind (arith, nat_tests, after_false m x.t h)
checked_err m p x Length h = grind (arith, nat_tests, after_true m h.0 x.t h.1, place_is h.0 x.t h.1.0)
checked_err m p x Alternation h = grind (arith, nat_tests, after_true m h.0 x.t h.1, place_is h.0 x.t h.1.0)
checked_err m p x NoInformation h = grind (arith, nat_tests, after_true m h.0 x.t h.1, place_is h.0 x.t h.1.0)
checked_err m p x Start h = absurd h
checked_err m p x EndBit h = absurd h
checked_err m p x Parity h = absurd h

pub check_laws : (m : ℕ) (p : Polarity) (x : TimedPulse) → CheckLaws m p x
check_laws m p x = record {
  computed = computed;
  timing = λ t e le. ((λ h n i. grind (arith, h n, i.early, i.late)), (λ h n a. omega (arith, h n a.0, a.1)));
}
  where
    computed : (r : Result ℕ Cause) → Checked m p x r → caught r ≡ check m p x
    computed (Ok n) h = sym (checked_ok m n p x h).0
    computed (Err c) h = sym (checked_err m p x c h)

-- the slot at t, kept where it is past m
pub filter_after : {R : ℕ → Bool → Type 0} → (m t : ℕ) (o r : Option ℕ) → ((x : ℕ) (b : Bool) → R x b → b ≡ ltb m x) → Slot t o → MatchOption o (r ≡ None) (λ x. (b : Bool) × R x b × (r ≡ then_some b x)) → SlotAfter m t r
filter_after m t None r test h e = subst (SlotAfter m t) (sym e) (λ n a. h n a.0)
filter_after m t (Some x) r test h e = subst (SlotAfter m t) (sym e.2) (go e.0 (test x e.0 e.1))
  where
    go : (b : Bool) → b ≡ ltb m x → SlotAfter m t (then_some b x)
    go true k = (h, grind (arith, nat_tests))
    go false k = λ n a. grind (arith, nat_tests, place_is n t a.0, place_is x t h, a.1)
