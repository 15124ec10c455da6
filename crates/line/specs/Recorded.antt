-- What a recorder writes, as a relation between words and events, with no reading order in it.
--
-- Ends n ws end          ws, the words from number n on, hold no event more, and end the line by end
-- Recorded n ws es end   ws, the words from number n on, are the words of es and then some rest, which ends so
-- Records ws c           c is what ws record, and nothing else is
use Rattle.std.specs.Prelude.{◌≡◌, ℕ, ◌+◌, List, [], ◌∷◌, ◌++◌, map, length, None, Ok, Err}
use Rattle.line.specs.Endings.{Ending}
use Rattle.line.specs.declared.event.Event.{Event}
use Rattle.line.specs.declared.recording.Flaw.{Flaw}
use Rattle.line.specs.declared.recording.Flaw.TheVariants.{NoEnd}
use Rattle.line.specs.Decoding.{Content}
use Rattle.line.specs.Words.{Says, fault, word_of}

abbrev pub Ends : ℕ → List ℕ → Ending → Type 0
Ends n [] end = end ≡ Err (fault NoEnd n)
Ends n (w ∷ ws) (Ok u) = Says n w (Ok None)
Ends n (w ∷ ws) (Err b) = (f : Flaw) × Says n w (Err f) × (b ≡ fault f n)

abbrev pub Recorded : ℕ → List ℕ → List Event → Ending → Type 0
Recorded n ws es end = (rest : List ℕ) × (ws ≡ map word_of es ++ rest) × Ends (n + length es) rest end

pub record Records (ws : List ℕ) (c : Content) : Type 0 where
  pub stands : Recorded 0 ws c.events c.ending
  pub alone : (es : List Event) (end : Ending) → Recorded 0 ws es end → (es ≡ c.events) × (end ≡ c.ending)
