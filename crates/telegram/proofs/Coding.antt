-- The slots of a row, one by one.
use Rattle.std.proofs.Common.{◌≡◌, ℕ, zero, suc, ◌+◌, ◌*◌, ◌/◌, ◌%◌, ◌<◌, ◌≤◌, Bool, false, List, [], ◌∷◌, length, get_or, drop, Some, None, sym, refl, ap, ◌∙◌, arith}
use Rattle.line.specs.declared.event.Event.TheVariants.{Quiet}
use Rattle.line.specs.declared.event.Height.{Height}
use Rattle.line.specs.declared.event.Ticks.{Ticks}
use Rattle.telegram.specs.Coding.{Coded, after, gap, held, polarity, slots}
use Rattle.telegram.specs.Sending.{onward}

-- two slots more for one bit more
two : (k : ℕ) → 2 * suc k ≡ suc (suc (2 * k))
two k = omega arith

-- the slots after a bit a: those of the bits w, and those between neighbours

after_bit : (a : Bool) (w : List Bool) (k : ℕ) → k < length w → held (after a w) (suc (2 * k)) ≡ Some (polarity (get_or w k false))
after_bit a [] k h = absurd (omega arith)
after_bit a (b ∷ w) zero h = refl
after_bit a (b ∷ w) (suc k) h = ap (λ n. held (after a (b ∷ w)) (suc n)) (two k) ∙ after_bit b w k (omega arith)

after_gap : (a : Bool) (w : List Bool) (k : ℕ) → k < length w → held (after a w) (2 * k) ≡ gap (get_or (a ∷ w) k false) (get_or w k false)
after_gap a [] k h = absurd (omega arith)
after_gap a (b ∷ w) zero h = refl
after_gap a (b ∷ w) (suc k) h = ap (held (after a (b ∷ w))) (two k) ∙ after_gap b w k (omega arith)

after_past : (a : Bool) (w : List Bool) (n : ℕ) → 2 * length w ≤ n → held (after a w) n ≡ None
after_past a [] n h = refl
after_past a (b ∷ w) zero h = absurd (omega arith)
after_past a (b ∷ w) (suc zero) h = absurd (omega arith)
after_past a (b ∷ w) (suc (suc n)) h = after_past b w n (omega arith)

pub bit_held : (w : List Bool) (k : ℕ) → k < length w → held (slots w) (2 * k) ≡ Some (polarity (get_or w k false))
bit_held [] k h = absurd (omega arith)
bit_held (b ∷ w) zero h = refl
bit_held (b ∷ w) (suc k) h = ap (held (slots (b ∷ w))) (two k) ∙ after_bit b w k (omega arith)

gap_held : (w : List Bool) (k : ℕ) → suc k < length w → held (slots w) (suc (2 * k)) ≡ gap (get_or w k false) (get_or w (suc k) false)
gap_held [] k h = absurd (omega arith)
gap_held (b ∷ w) k h = after_gap b w k (omega arith)

-- what a slot holds, by its number

pub slots_bit : (w : List Bool) (n : ℕ) → n % 2 ≡ 0 → n / 2 < length w → held (slots w) n ≡ Some (polarity (get_or w (n / 2) false))
slots_bit w n e l = ap (held (slots w)) (omega arith) ∙ bit_held w (n / 2) l

pub slots_gap : (w : List Bool) (n : ℕ) → n % 2 ≡ 1 → n / 2 + 1 < length w → held (slots w) n ≡ gap (get_or w (n / 2) false) (get_or w (n / 2 + 1) false)
slots_gap w n e l =
    ap (held (slots w)) (omega arith) ∙ gap_held w (n / 2) (omega arith) ∙ ap (λ k. gap (get_or w (n / 2) false) (get_or w k false)) (omega arith)

pub slots_past : (w : List Bool) (n : ℕ) → 2 * length w ≤ n + 1 → held (slots w) n ≡ None
slots_past [] n h = refl
slots_past (b ∷ w) zero h = absurd (omega arith)
slots_past (b ∷ w) (suc n) h = after_past b w n (omega arith)

pub coded : (w : List Bool) → Coded w
coded w = record { even = slots_bit w; odd = slots_gap w; past = slots_past w }

-- two empty slots on end are past the last pulse
drop_after : (a : Bool) (w : List Bool) (n : ℕ) → held (after a w) n ≡ None → held (after a w) (suc n) ≡ None → drop n (after a w) ≡ []
drop_after a [] zero h k = refl
drop_after a [] (suc n) h k = refl
drop_after a (b ∷ w) zero h k = cc
drop_after a (b ∷ w) (suc zero) h k = cc
drop_after a (b ∷ w) (suc (suc n)) h k = drop_after b w n h k

drop_slots : (w : List Bool) (n : ℕ) → held (slots w) (suc n) ≡ None → held (slots w) (suc (suc n)) ≡ None → drop (suc n) (slots w) ≡ []
drop_slots [] n h k = refl
drop_slots (b ∷ w) n h k = drop_after b w n h k

-- then only the closing quiet is left to hand over
pub next_none : (w : List Bool) (n : ℕ) → held (slots w) (n + 1) ≡ None → held (slots w) (n + 2) ≡ None → (h : Height) (c : Ticks) → onward h c 1 (drop (n + 1) (slots w)) ≡ Quiet c ∷ []
next_none w n e k h c =
    let one : suc n ≡ n + 1 = omega arith in
    let two : suc (suc n) ≡ n + 2 = omega arith in
    ap (onward h c 1) (ap (λ k. drop k (slots w)) (sym one) ∙ drop_slots w n (ap (held (slots w)) one ∙ e) (ap (held (slots w)) two ∙ k))
