-- Numbers as bits, the highest bit first.
--
-- digit n k    bit k of n
-- digits k n   the k low bits of n
-- value w      the number that the bits w write
-- listed f n   f 0, f 1 and so on, n of them
-- part j k w   k bits of w from bit j on, with 0 for each that w lacks
-- framed w     a start 0, the bits w, their parity bit and an end 1
-- double, value_lt, length-listed, part_lt   facts without which the records of rows could not be written down
use Rattle.std.specs.Prelude.{◌≡◌, ℕ, zero, suc, ◌+◌, ◌*◌, ◌/◌, ◌%◌, ◌^◌, ◌<◌, Bool, true, false, cond, List, [], ◌∷◌, ◌++◌, length, ◌==◌, slice_index_or, refl}
use Rattle.std.proofs.Common.{ap, subst, ◌∙◌, arith, pow-add}
use Rattle.telegram.specs.Bits.{odd}

abbrev pub digit : ℕ → ℕ → Bool
digit n k = n / 2 ^ k % 2 == 1

abbrev pub digits : ℕ → ℕ → List Bool
digits zero n = []
digits (suc k) n = digit n k ∷ digits k n

abbrev pub value : List Bool → ℕ
value [] = 0
value (b ∷ w) = cond b (2 ^ length w) 0 + value w

abbrev pub listed : (ℕ → Bool) → ℕ → List Bool
listed f zero = []
listed f (suc n) = f 0 ∷ listed (λ k. f (suc k)) n

abbrev pub part : ℕ → ℕ → List Bool → List Bool
part j k w = listed (λ i. slice_index_or w (j + i) false) k

abbrev pub framed : List Bool → List Bool
framed w = false ∷ (w ++ (odd w ∷ true ∷ []))

-- The number of k bits is below 2 to the k, which the records below need to stand.

pub double : (k : ℕ) → 2 ^ suc k ≡ 2 * 2 ^ k
double k = ap (λ n. 2 ^ n) (omega arith) ∙ pow-add 2 1 k

pub value_lt : (w : List Bool) → value w < 2 ^ length w
value_lt [] = omega arith
value_lt (false ∷ w) = omega (arith, value_lt w, double (length w))
value_lt (true ∷ w) = omega (arith, value_lt w, double (length w))

pub length-listed : (f : ℕ → Bool) (n : ℕ) → length (listed f n) ≡ n
length-listed f zero = refl
length-listed f (suc n) = ap suc (length-listed (λ k. f (suc k)) n)

pub part_lt : (j k : ℕ) (w : List Bool) → value (part j k w) < 2 ^ k
part_lt j k w = subst (λ n. value (part j k w) < 2 ^ n) (length-listed (λ i. slice_index_or w (j + i) false) k) (value_lt (part j k w))
