-- What the slots of a train of a row hold: what the coding puts there; so the row can be read off its slots.
use Rattle.std.proofs.Common.{◌≡◌, ℕ, zero, suc, ◌+◌, ◌*◌, ◌<◌, Bool, false, List, [], ◌∷◌, length, get_or, Some, None, Option, refl, ap, arith}
use Rattle.std.proofs.lemmas.Bool.Decides.{nat_tests}
use Rattle.line.specs.declared.event.Polarity.{Polarity}
use Rattle.telegram.specs.Coding.{after, held, slots}
use Rattle.telegram.specs.Numbers.{listed_is}
use Rattle.train.specs.declared.pulse.TimedPulse.{TimedPulse}
use Rattle.train.specs.Carried.{Stands, TrainOf}
use Rattle.train.specs.Trains.{Train, held_later, high, holds, row}
use Rattle.train.proofs.Carrying.{positive_is}
use Rattle.train.proofs.Checking.{in_slot_is, in_slot_other}

-- no pulse is in a slot before the first
held_none : (s : List (Option Polarity)) (l : List TimedPulse) (m n : ℕ) → Stands m s l → n < m → held_later n l ≡ None
held_none [] [] m n h lt = refl
held_none [] (x ∷ l) m n h lt = absurd h
held_none (None ∷ s) l m n h lt = held_none s l (m + 1) n h (omega arith)
held_none (Some p ∷ s) [] m n h lt = absurd h
held_none (Some p ∷ s) (x ∷ l) m n h lt =
    grind (arith, in_slot_other m n x.t h.0, held_none s l (m + 1) n h.2)

held_is : (s : List (Option Polarity)) (l : List TimedPulse) (m i n : ℕ) → Stands m s l → n ≡ m + i → held_later n l ≡ held s i
held_is [] [] m i n h e = refl
held_is [] (x ∷ l) m i n h e = absurd h
held_is (None ∷ s) l m zero n h e = held_none s l (m + 1) n h (omega arith)
held_is (None ∷ s) l m (suc i) n h e = held_is s l (m + 1) i n h (omega arith)
held_is (Some p ∷ s) [] m i n h e = absurd h
held_is (Some p ∷ s) (x ∷ l) m zero n h e =
    let here : n ≡ m = omega arith in
    grind (arith, in_slot_is m x.t h.0, h.1)
held_is (Some p ∷ s) (x ∷ l) m (suc i) n h e =
    grind (arith, in_slot_other m n x.t h.0, held_is s l (m + 1) i n h.2)

pub holds_is : (w : List Bool) (u : Train) → TrainOf w u → (n : ℕ) → holds u n ≡ held (slots w) n
holds_is [] u h n = absurd h
holds_is (b ∷ w) u h zero = ap Some h.0
holds_is (b ∷ w) u h (suc i) = grind (arith, nat_tests, held_is (after b w) u.later 1 i (suc i) h.1)

-- a bit is 1 where its slot holds a positive pulse

two : (k : ℕ) → 2 * suc k ≡ suc (suc (2 * k))
two k = omega arith

high_after : (a : Bool) (w : List Bool) (k : ℕ) → high (held (after a w) (suc (2 * k))) ≡ get_or w k false
high_after a [] k = refl
high_after a (b ∷ w) zero = positive_is b
high_after a (b ∷ w) (suc k) = rw (two k) (high_after b w k)

high_slots : (w : List Bool) (k : ℕ) → high (held (slots w) (2 * k)) ≡ get_or w k false
high_slots [] k = refl
high_slots (b ∷ w) zero = positive_is b
high_slots (b ∷ w) (suc k) = rw (two k) (high_after b w k)

pub row_is : (b : ℕ) (w : List Bool) (u : Train) → length w ≡ b → TrainOf w u → row b u ≡ w
row_is b w u l h =
    rw (← l) (listed_is w (λ k. high (holds u (2 * k))) (λ k. rw (holds_is w u h (2 * k)) (high_slots w k)))
