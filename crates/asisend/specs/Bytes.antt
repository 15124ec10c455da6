-- Words as bytes.
--
-- word_bytes w    the four bytes of a word, the lowest first
-- bytes_of ws     the bytes of all words
-- Written ws bs   bs are the bytes of ws, and reading them gives ws
use Rattle.std.specs.Prelude.{◌≡◌, ℕ, ◌/◌, ◌%◌, List, [], ◌∷◌}
use Rattle.std.specs.List.{flat_map}
use Rattle.line.specs.Bytes.{words_of}

abbrev pub word_bytes : ℕ → List ℕ
word_bytes w = (w % 256) ∷ (w / 256 % 256) ∷ (w / 65536 % 256) ∷ (w / 16777216 % 256) ∷ []

abbrev pub bytes_of : List ℕ → List ℕ
bytes_of ws = flat_map word_bytes ws

pub record Written (ws bs : List ℕ) : Type 0 where
  pub value : bs ≡ bytes_of ws
  pub back : words_of bs ≡ ws
