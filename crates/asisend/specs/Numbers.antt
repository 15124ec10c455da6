-- Plain decimal numbers.
--
-- Plain ds       ds are the decimal digits of a number, of which only 0 itself begins with 0
-- written ds     the number that they write
-- greatest       the number that is read for every greater one
-- capped n       n, or `greatest` where n is more
-- Digited bs r   what reading bs as digits answers
-- Numbered bs r  what reading bs as a plain number answers
use Rattle.std.specs.Prelude.{◌≡◌, ℕ, ◌<◌, min, List, length, Some, None, Ok, Err, Option, Result, slice_index_or}
use Rattle.std.specs.Str.Parse.{AllDigits, digits_value}
use Rattle.telegram.specs.declared.refusal.Refusal.{Refusal}
use Rattle.telegram.specs.Refusals.{number}

pub record Plain (ds : List ℕ) : Type 0 where
  pub digits : AllDigits 10 ds
  pub some : 0 < length ds
  pub lead : slice_index_or ds 0 0 ≡ 48 → length ds ≡ 1

abbrev pub written : List ℕ → ℕ
written ds = digits_value 10 ds

abbrev pub greatest : ℕ
greatest = 65535

abbrev pub capped : ℕ → ℕ
capped n = min n greatest

abbrev pub Digited : List ℕ → Option ℕ → Type 0
Digited bs (Some v) = AllDigits 10 bs × (v ≡ capped (written bs))
Digited bs None = AllDigits 10 bs → ⊥

abbrev pub Numbered : List ℕ → Result ℕ Refusal → Type 0
Numbered bs (Ok v) = Plain bs × (v ≡ capped (written bs))
Numbered bs (Err e) = (Plain bs → ⊥) × (number e ≡ 9)
