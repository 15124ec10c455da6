-- Bytes cut in two at a mark, and text cut into lines.
--
-- Lacks m bs      no byte of bs is m
-- Cuts m bs f b   f stands before the first m in bs, and b after it
-- FirstLine t l r   l is the first line of the text t without the byte 10 that ends it, and r what stands after that byte;
--                   the last line may lack the byte
-- LineIn p l        the part p of a text is the line l and the byte 10, or l alone, which the byte does not end
use Rattle.std.specs.Prelude.{◌≡◌, ℕ, ◌⊎◌, List, [], ◌∷◌, ◌++◌, All, ◌≢◌}

abbrev pub Lacks : ℕ → List ℕ → Type 0
Lacks m bs = All (λ b. b ≢ m) bs

pub record Cuts (m : ℕ) (bs f b : List ℕ) : Type 0 where
  pub whole : bs ≡ f ++ (m ∷ b)
  pub first : Lacks m f

pub record FirstLine (t l r : List ℕ) : Type 0 where
  pub whole : (t ≡ l ++ (10 ∷ r)) ⊎ ((t ≡ l) × (r ≡ []))
  pub first : Lacks 10 l

abbrev pub LineIn : List ℕ → List ℕ → Type 0
LineIn p l = (p ≡ l ++ (10 ∷ [])) ⊎ ((p ≡ l) × ((front : List ℕ) → p ≢ front ++ (10 ∷ [])))
