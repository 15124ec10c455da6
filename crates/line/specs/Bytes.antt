-- Words out of bytes.
--
-- word_at bs k          the word of number k in bs: its bytes 4k to 4k + 3, the lowest first
-- words_of bs           all words of bs, one for every four bytes
-- Packed bs ws n ws'    the words of bs were written over ws: n of them, as many as there are or fit, and then what ws held
use Rattle.std.specs.Prelude.{◌≡◌, ℕ, ◌+◌, ◌*◌, ◌/◌, min, List, ◌++◌, map, length, take, drop, slice_index}
use Rattle.std.specs.List.{range_with_len}

abbrev pub word_at : List ℕ → ℕ → ℕ
word_at bs k = slice_index bs (4 * k) + slice_index bs (4 * k + 1) * 256 + slice_index bs (4 * k + 2) * 65536 + slice_index bs (4 * k + 3) * 16777216

unfoldable pub words_of : List ℕ → List ℕ
words_of bs = map (word_at bs) (range_with_len 0 (length bs / 4))

pub record Packed (bs ws : List ℕ) (n : ℕ) (ws' : List ℕ) : Type 0 where
  pub count : n ≡ min (length bs / 4) (length ws)
  pub after : ws' ≡ take n (words_of bs) ++ drop n ws
