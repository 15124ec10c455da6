-- What a row holds.
--
-- row_bits r        the bits of a row
-- Front r           how the bits of a row lie in its array
-- Pushed w b r w'   adding b to the bits w answered r and left w'
use Rattle.std.specs.Prelude.{◌≡◌, ℕ, ◌+◌, ◌-◌, ◌<◌, ◌≤◌, Bool, false, List, [], ◌∷◌, ◌++◌, length, take, slice_index_or, slice_range, Ok, Err, Result}
use Rattle.telegram.specs.declared.row.Row.{Row}
use Rattle.telegram.specs.declared.row.growing.Full.{Full}
use Rattle.telegram.specs.Bits.{between}

abbrev pub row_bits : Row → List Bool
row_bits r = take r.count r.bits

pub record Front (r : Row) : Type 0 where
  pub inside : (k : ℕ) → k < r.count → slice_index_or (row_bits r) k false ≡ slice_index_or r.bits k false
  pub outside : (k : ℕ) → r.count ≤ k → slice_index_or (row_bits r) k false ≡ false
  pub middle : 2 ≤ r.count → between (row_bits r) ≡ slice_range r.bits 1 (r.count - 1)
  pub short : r.count < 2 → between (row_bits r) ≡ []

abbrev pub Pushed : List Bool → Bool → Result (Unit {0}) Full → List Bool → Type 0
Pushed w b (Ok u) w' = (length w < 14) × (w' ≡ w ++ (b ∷ [])) × (length w' ≡ length w + 1)
Pushed w b (Err e) w' = (length w ≡ 14) × (w' ≡ w)
