-- Lists cut at a mark: there is one first mark, and a part up to it holds the first line.
use Rattle.std.proofs.Common.{◌≡◌, ℕ, List, [], ◌∷◌, ◌++◌, length, get_or, take, min, ◌+◌, ◌≤◌, false, ◌==◌, sym, inl, inr, ap, ◌∙◌, refl, ◌≢◌, arith}
use Rattle.std.proofs.lemmas.List.{append_assoc, append-nil, length-append, nil_from_length, take_at, take_more}
use Rattle.std.proofs.Math.Seq.{get_or-append_seam}
use Rattle.std.proofs.Math.ListN.{get_or-append}
use Rattle.std.proofs.lemmas.Bool.Decides.{nat_tests}
use Rattle.std.proofs.lemmas.List.Elements.{All-tail}
use Rattle.std.specs.List.{AllWithin, IsFirstMatchOrLen}
use Rattle.std.proofs.lemmas.Bool.{cases_lt}
use Rattle.asisend.specs.Cutting.{FirstLine, Lacks, LineIn}

pub lacks_none : (m : ℕ) (a x : List ℕ) → Lacks m (a ++ (m ∷ x)) → ⊥
lacks_none m a x h = h (length a) m (omega (arith, length-append a (m ∷ x))) (get_or-append_seam a m x m)

-- there is one first mark
pub same_cut : (m : ℕ) (a b x y : List ℕ) → Lacks m a → Lacks m b → a ++ (m ∷ x) ≡ b ++ (m ∷ y) → (a ≡ b) × (x ≡ y)
same_cut m [] [] x y la lb e = (refl, cc)
same_cut m [] (c ∷ b) x y la lb e = let f : c ≡ m = cc in absurd (lb 0 m (omega arith) f)
same_cut m (d ∷ a) [] x y la lb e = let f : d ≡ m = cc in absurd (la 0 m (omega arith) f)
same_cut m (d ∷ a) (c ∷ b) x y la lb e =
    let f : d ≡ c = cc in
    let g : a ++ (m ∷ x) ≡ b ++ (m ∷ y) = cc in
    let u = same_cut m a b x y (All-tail (λ z. z ≢ m) d a la) (All-tail (λ z. z ≢ m) c b lb) g in
    ((λ i. f i ∷ u.0 i), u.1)

unmarked : (t l y : List ℕ) (i : ℕ) → t ≡ l ++ y → length l ≤ i → AllWithin (λ b. (b == 10) ≡ false) t 0 i → Lacks 10 l
unmarked t l y i whole few none k d h q =
    let no = none k d (omega arith) (omega arith) in
    let same : get_or t k d ≡ 10 = ap (λ x. get_or x k d) whole ∙ get_or-append l y d k h ∙ q in
    grind (arith, nat_tests)

-- a part that ends with the first mark, or is all there is, holds the first line
pub first_part : (t p r l : List ℕ) (i : ℕ) → t ≡ p ++ r → length p ≡ min (i + 1) (length t) → IsFirstMatchOrLen (λ b. b == 10) t i → LineIn p l → FirstLine t l r
first_part t p r l i whole many at (inl e) =
    let all : t ≡ l ++ (10 ∷ r) = whole ∙ ap (λ x. x ++ r) e ∙ append_assoc l (10 ∷ []) r in
    record { whole = inl all; first = unmarked t l (10 ∷ r) i all (omega (arith, ap length e, length-append l (10 ∷ []))) at.0 }
first_part t p r l i whole many at (inr e) =
    let long = ap length whole ∙ length-append p r in
    elim (cases_lt i (length t)) [
      | inl h ↦
          let mark : get_or t i 0 ≡ 10 = let is = at.1 h 0 in grind (arith, nat_tests) in
          let front = sym (ap (take (i + 1)) whole ∙ take_at p r (i + 1) (omega arith)) ∙ take_more t i 0 h in
          absurd (e.1 (take i t) (front ∙ ap (λ b. take i t ++ (b ∷ [])) mark))
      | inr h ↦
          let none : r ≡ [] = nil_from_length r (omega arith) in
          let all : t ≡ l ++ r = whole ∙ ap (λ x. x ++ r) e.0 in
          record { whole = inr (all ∙ ap (λ x. l ++ x) none ∙ append-nil l, none); first = unmarked t l r i all (omega (arith, ap length e.0)) at.0 }
    ]
