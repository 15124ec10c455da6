-- Lists of bits, and which of them a telegram's row may be.
--
-- ones w       the sum of the bits
-- odd w        whether it is odd
-- between w    the bits between the first and the last
-- final d w    the last bit, or d where there is none
-- Ends w       w begins with 0 and ends with 1
-- Even w       the bits between these two have an even sum
-- Proper n w   w has n bits and both properties
use Rattle.std.specs.Prelude.{◌≡◌, ℕ, ◌+◌, ◌-◌, ◌%◌, Bool, true, false, cond, List, [], ◌∷◌, length, take, drop, ◌==◌, slice_index_or}

abbrev pub ones : List Bool → ℕ
ones [] = 0
ones (b ∷ w) = cond b 1 0 + ones w

abbrev pub odd : List Bool → Bool
odd w = ones w % 2 == 1

abbrev pub between : List Bool → List Bool
between w = take (length w - 2) (drop 1 w)

abbrev pub final : Bool → List Bool → Bool
final d [] = d
final d (b ∷ w) = final b w

pub record Ends (w : List Bool) : Type 0 where
  pub start : slice_index_or w 0 true ≡ false
  pub end : final false w ≡ true

abbrev pub Even : List Bool → Type 0
Even w = ones (between w) % 2 ≡ 0

pub record Proper (n : ℕ) (w : List Bool) : Type 0 where
  pub long : length w ≡ n
  pub ends : Ends w
  pub even : Even w
