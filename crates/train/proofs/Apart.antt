-- Proper rows that differ have slots that differ in four places or more. Where they part, a gap and a bit differ, and where
-- they meet again, a gap: that is three. The fourth is a second bit: if one alone differed, not both sums would be even.
use Rattle.std.proofs.Common.{◌≡◌, ℕ, zero, suc, ◌+◌, ◌-◌, ◌*◌, ◌%◌, ◌<◌, ◌≤◌, Bool, cond, List, [], ◌∷◌, length, take, Some, Option, refl, ap, arith}
use mathlib.Core.Path.{fun_ext}
use Rattle.line.specs.declared.event.Polarity.{Polarity}
use Rattle.telegram.specs.Bits.{Proper, final, ones}
use Rattle.telegram.specs.Coding.{counted, differing, gap, held, polarity, slots, unlike}

pub near : (n : ℕ) (f g : ℕ → Option Polarity) → ((k : ℕ) → f k ≡ g k) → differing n f g ≡ 0
unfolding counted
near zero f g h = refl
near (suc n) f g h = let rest = near n (λ k. f (suc k)) (λ k. g (suc k)) (λ k. h (suc k)) in grind (arith, h 0)

-- 1 where two slots differ, and where the pulses of two bits do
abbrev off : Option Polarity → Option Polarity → ℕ
off x y = cond (unlike x y) 1 0

abbrev odds : Bool → Bool → ℕ
odds p q = off (Some (polarity p)) (Some (polarity q))

alike : (p q : Bool) → odds p q ≡ 0 → p ≡ q
alike p q h = grind arith

-- a gap differs where just one of the bits beside it does; two bits that differ have an odd sum
bits : (p q b c : Bool) → (odds p q ≤ odds b c + off (gap p b) (gap q c)) × (odds b c ≤ odds p q + off (gap p b) (gap q c)) × ((cond p 1 0 + cond q 1 0 + odds p q) % 2 ≡ 0)
bits p q b c = (grind arith, grind arith, grind arith)

-- first bits that differ count once more, for the gap before them, and an odd sum counts once, for another bit that differs
core : (n : ℕ) (p q : Bool) (w v : List Bool) → length w ≡ length v → final p w ≡ final q v → 2 * length w ≤ n → odds p q + differing (suc n) (held (slots (p ∷ w))) (held (slots (q ∷ v))) + (ones (p ∷ w) + ones (q ∷ v)) % 2 < 4 → (p ∷ w) ≡ (q ∷ v)
unfolding counted
core n p q [] [] l e r few = ap (λ b. b ∷ []) e
core n p q [] (c ∷ v) l e r few = absurd (omega arith)
core n p q (b ∷ w) [] l e r few = absurd (omega arith)
core zero p q (b ∷ w) (c ∷ v) l e r few = absurd (omega arith)
core (suc zero) p q (b ∷ w) (c ∷ v) l e r few = absurd (omega arith)
core (suc (suc n)) p q (b ∷ w) (c ∷ v) l e r few =
    let here = bits p q b c in
    let rest = core n b c w v (omega arith) e (omega arith) (omega arith) in
    let first = alike p q (omega (arith, ap ones rest)) in
    cc

ones_final : (b : Bool) (t : List Bool) → ones (b ∷ t) ≡ ones (take (length t) (b ∷ t)) + cond (final b t) 1 0
ones_final b [] = omega arith
ones_final b (c ∷ t) = omega (arith, ones_final c t)

-- the ends add 1 to the even sum between them
odd_sum : (n : ℕ) (w : List Bool) → 4 ≤ n → Proper n w → ones w % 2 ≡ 1
odd_sum n [] l p = absurd (omega arith)
odd_sum n (a ∷ []) l p = absurd (omega arith)
odd_sum n (a ∷ b ∷ t) l p =
    let cut : suc (suc (length t)) - 2 ≡ length t = omega arith in
    grind (arith, ones_final b t, rw cut at p.even)

pub far : (n : ℕ) (w v : List Bool) (f g : ℕ → Option Polarity) → 4 ≤ n → n ≤ 14 → Proper n w → Proper n v → ((k : ℕ) → f k ≡ held (slots w) k) → ((k : ℕ) → g k ≡ held (slots v) k) → differing 27 f g < 4 → w ≡ v
far n [] v f g least most pw pv hf hg few = absurd (omega arith)
far n (a ∷ w) [] f g least most pw pv hf hg few = absurd (omega arith)
far n (a ∷ w) (b ∷ v) f g least most pw pv hf hg few =
    core 26 a b w v (omega arith) (cc) (omega arith)
    (grind (arith, rw (fun_ext hf, fun_ext hg) at few, odd_sum n (a ∷ w) least pw, odd_sum n (b ∷ v) least pv))
