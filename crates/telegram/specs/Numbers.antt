-- Proofs about bits and the numbers that they write: each number below 2 to the k has just one row of k bits.
-- They stand among the definitions because the proofs of a kind's laws, in Frames, rest on them.
--
-- value-digits             the k low bits of n write n modulo 2 to the k
-- digits-value             the bits of the number that a row writes are that row
-- ones-push, odd-push, value-push   the sum, the parity and the number of a row with one bit more at its end
-- listed_more, listed_is   a list made by number, one longer; a list is what it holds by number
use Rattle.std.specs.Prelude.{◌≡◌, ℕ, zero, suc, ◌+◌, ◌*◌, ◌/◌, ◌%◌, ◌^◌, ◌<◌, Bool, true, false, cond, not, List, [], ◌∷◌, ◌++◌, length, ◌==◌, ◌≢◌, slice_index_or, refl}
use Rattle.std.specs.Bool.{beq}
use Rattle.std.proofs.Common.{sym, ap, ◌∙◌, mod-eq_of_lt, arith}
use Rattle.std.proofs.lemmas.Nat.{mod-pow-add}
use mir.Val.{bool_byte}
use Rattle.std.proofs.lemmas.List.{length_push}
use Rattle.std.proofs.lemmas.Bool.Decides.{nat_tests}
use Rattle.telegram.specs.Bits.{odd, ones}
use Rattle.telegram.specs.Digits.{digit, digits, double, listed, value, value_lt}

length-digits : (k n : ℕ) → length (digits k n) ≡ k
length-digits zero n = refl
length-digits (suc k) n = ap suc (length-digits k n)

bit_times : (x p : ℕ) → x < 2 → cond (x == 1) p 0 ≡ x * p
bit_times zero p h = omega arith
bit_times (suc zero) p h = omega arith
bit_times (suc (suc x)) p h = absurd (omega arith)

pub value-digits : (k n : ℕ) → value (digits k n) ≡ n % 2 ^ k
value-digits zero n = omega arith
value-digits (suc k) n =
    let more : n % 2 ^ suc k ≡ (n / 2 ^ k % 2) * 2 ^ k + n % 2 ^ k = ap (λ i. n % 2 ^ i) (omega arith) ∙ mod-pow-add n 1 k in
    ap (λ i. cond (digit n k) (2 ^ i) 0 + value (digits k n)) (length-digits k n)
    ∙ ap (λ i. cond (digit n k) (2 ^ k) 0 + i) (value-digits k n)
    ∙ ap (λ i. i + n % 2 ^ k) (bit_times (n / 2 ^ k % 2) (2 ^ k) (omega arith))
    ∙ sym more

-- a row that begins with 1 writes more than one of its length that begins with 0
larger : (w v : List Bool) → length w ≡ length v → value w ≢ 2 ^ length v + value v
larger w v l e = omega (arith, value_lt w, ap (λ i. 2 ^ i) l)

value_inj : (w v : List Bool) → length w ≡ length v → value w ≡ value v → w ≡ v
value_inj [] [] l e = refl
value_inj [] (b ∷ v) l e = absurd (omega arith)
value_inj (a ∷ w) [] l e = absurd (omega arith)
value_inj (false ∷ w) (false ∷ v) l e = ap (λ x. false ∷ x) (value_inj w v (omega arith) (omega arith))
value_inj (true ∷ w) (true ∷ v) l e =
    let m : length w ≡ length v = omega arith in
    ap (λ x. true ∷ x) (value_inj w v m (omega (arith, ap (λ i. 2 ^ i) m)))
value_inj (false ∷ w) (true ∷ v) l e = absurd (larger w v (omega arith) (omega arith))
value_inj (true ∷ w) (false ∷ v) l e = absurd (larger v w (omega arith) (omega arith))

pub digits-value : (w : List Bool) → digits (length w) (value w) ≡ w
digits-value w = value_inj _ w (length-digits (length w) (value w)) (value-digits (length w) (value w) ∙ mod-eq_of_lt (value_lt w))

-- one bit more at the end

pub ones-push : (w : List Bool) (b : Bool) → ones (w ++ (b ∷ [])) ≡ ones w + cond b 1 0
ones-push [] b = omega arith
ones-push (a ∷ w) b = omega (arith, ones-push w b)

pub odd-push : (w : List Bool) (b : Bool) → odd (w ++ (b ∷ [])) ≡ not (beq (odd w) b)
odd-push w false = let e = ones-push w false in grind (arith, nat_tests)
odd-push w true = let e = ones-push w true in grind (arith, nat_tests)

pub value-push : (w : List Bool) (b : Bool) → value (w ++ (b ∷ [])) ≡ 2 * value w + bool_byte b
value-push [] false = refl
value-push [] true = refl
value-push (false ∷ w) b = omega (arith, value-push w b)
value-push (true ∷ w) b =
    let grown : 2 ^ length (w ++ (b ∷ [])) ≡ 2 * 2 ^ length w = ap (λ n. 2 ^ n) (length_push w b ∙ omega arith) ∙ double (length w) in
    omega (arith, value-push w b, grown)

pub listed_more : (f : ℕ → Bool) (n : ℕ) → listed f (suc n) ≡ listed f n ++ (f n ∷ [])
listed_more f zero = refl
listed_more f (suc n) = ap (λ w. f 0 ∷ w) (listed_more (λ k. f (suc k)) n)

pub listed_is : (w : List Bool) (f : ℕ → Bool) → ((k : ℕ) → f k ≡ slice_index_or w k false) → listed f (length w) ≡ w
listed_is [] f h = refl
listed_is (b ∷ w) f h = ap (λ a. a ∷ listed (λ k. f (suc k)) (length w)) (h 0) ∙ ap (λ l. b ∷ l) (listed_is w (λ k. f (suc k)) (λ k. h (suc k)))
