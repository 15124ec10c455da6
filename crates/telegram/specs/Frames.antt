-- Requests and answers keep the laws of a kind: a row with the first two properties is the frame of its fields.
-- These proofs stand among the definitions because an implementation of a kind names the proof of each law.
--
-- answer_back, answer_forth   the third and the fourth law, of answers
-- request_even, request_back, request_forth   the second, the third and the fourth law, of requests
-- same_answer, same_request   records with the same fields are the same
use Rattle.std.specs.Prelude.{◌≡◌, ℕ, ◌%◌, ◌<◌, Bool, true, false, List, [], ◌∷◌, ◌++◌, length, slice_index_or, refl}
use Rattle.std.proofs.Common.{sym, ap, subst, ◌∙◌, mod-eq_of_lt, arith}
use mathlib.Core.HLevel.{is_prop→PathP}
use Rattle.std.proofs.Math.Bridge.{le_prop}
use Rattle.std.proofs.lemmas.Bool.{eqb-false, eqb-true}
use Rattle.std.proofs.lemmas.Bool.Decides.{nat_tests}
use Rattle.telegram.specs.declared.answer.Answer.{Answer}
use Rattle.telegram.specs.declared.request.Request.{Request}
use Rattle.telegram.specs.Bits.{Even, Proper, odd, ones}
use Rattle.telegram.specs.Digits.{digits, framed, listed, value}
use Rattle.telegram.specs.Records.{answer_record, answer_row, request_record, request_row}
use Rattle.telegram.specs.Numbers.{digits-value, listed_is, ones-push, value-digits}

-- with their parity, bits have an even sum
parity_even : (ds : List Bool) → ones (ds ++ (odd ds ∷ [])) % 2 ≡ 0
parity_even ds = go (odd ds) refl
  where
    go : (p : Bool) → odd ds ≡ p → ones (ds ++ (p ∷ [])) % 2 ≡ 0
    go false e = omega (arith, ones-push ds false, eqb-false _ _ e)
    go true e = omega (arith, ones-push ds true, eqb-true _ _ e)

-- a start 0, bits with one that makes their sum even, and an end 1 are a frame
frame_is : (ds : List Bool) (s p q : Bool) → s ≡ false → q ≡ true → ones (ds ++ (p ∷ [])) % 2 ≡ 0 → framed ds ≡ s ∷ (ds ++ (p ∷ q ∷ []))
frame_is ds s p q es eq even =
    let is : odd ds ≡ p = parity_is p even in
    cc (es, eq, is)
  where
    parity_is : (p : Bool) → ones (ds ++ (p ∷ [])) % 2 ≡ 0 → odd ds ≡ p
    parity_is false e = let f = ones-push ds false in grind (arith, nat_tests)
    parity_is true e = let f = ones-push ds true in grind (arith, nat_tests)

-- a list of n bits, one by one
spelt : (n : ℕ) (w : List Bool) → length w ≡ n → listed (λ k. slice_index_or w k false) n ≡ w
spelt n w e = ap (listed (λ k. slice_index_or w k false)) (sym e) ∙ listed_is w (λ k. slice_index_or w k false) (λ k. refl)

pub same_answer : (a b : Answer) → a.nibble ≡ b.nibble → a ≡ b
same_answer a b e = λ i. record { nibble = e i; low = is_prop→PathP (λ j. e j < 16) (λ j. le_prop) a.low b.low i }

pub answer_back : (r : Answer) → answer_record (answer_row r) ≡ r
answer_back r = same_answer _ r (value-digits 4 r.nibble ∙ mod-eq_of_lt r.low)

answer_spelt : (f : ℕ → Bool) → Proper 7 (listed f 7) → answer_row (answer_record (listed f 7)) ≡ listed f 7
answer_spelt f p =
    let ds = f 1 ∷ f 2 ∷ f 3 ∷ f 4 ∷ [] in
    ap framed (digits-value ds) ∙ frame_is ds (f 0) (f 5) (f 6) p.ends.start p.ends.end p.even

pub answer_forth : (w : List Bool) → Proper 7 w → answer_row (answer_record w) ≡ w
answer_forth w p =
    let P : List Bool → Type 0 = λ v. Proper 7 v → answer_row (answer_record v) ≡ v in
    subst P (spelt 7 w p.long) (answer_spelt (λ k. slice_index_or w k false)) p

pub same_request : (p q : Request) → p.control ≡ q.control → p.address ≡ q.address → p.information ≡ q.information → p ≡ q
same_request p q c a n = λ i. record {
  control = c i;
  address = a i;
  information = n i;
  one = is_prop→PathP (λ j. c j < 2) (λ j. le_prop) p.one q.one i;
  low = is_prop→PathP (λ j. a j < 32) (λ j. le_prop) p.low q.low i;
  few = is_prop→PathP (λ j. n j < 32) (λ j. le_prop) p.few q.few i;
}

pub request_even : (r : Request) → Even (request_row r)
request_even r = parity_even (digits 1 r.control ++ (digits 5 r.address ++ digits 5 r.information))

pub request_back : (r : Request) → request_record (request_row r) ≡ r
request_back r =
    same_request _ r
    (value-digits 1 r.control ∙ mod-eq_of_lt r.one)
    (value-digits 5 r.address ∙ mod-eq_of_lt r.low)
    (value-digits 5 r.information ∙ mod-eq_of_lt r.few)

request_spelt : (f : ℕ → Bool) → Proper 14 (listed f 14) → request_row (request_record (listed f 14)) ≡ listed f 14
request_spelt f p =
    let cs = f 1 ∷ [] in
    let ads = f 2 ∷ f 3 ∷ f 4 ∷ f 5 ∷ f 6 ∷ [] in
    let ins = f 7 ∷ f 8 ∷ f 9 ∷ f 10 ∷ f 11 ∷ [] in
    ap (λ x. framed (x ++ (digits 5 (value ads) ++ digits 5 (value ins)))) (digits-value cs)
    ∙ ap (λ x. framed (cs ++ (x ++ digits 5 (value ins)))) (digits-value ads)
    ∙ ap (λ x. framed (cs ++ (ads ++ x))) (digits-value ins)
    ∙ frame_is (cs ++ (ads ++ ins)) (f 0) (f 12) (f 13) p.ends.start p.ends.end p.even

pub request_forth : (w : List Bool) → Proper 14 w → request_row (request_record w) ≡ w
request_forth w p =
    let P : List Bool → Type 0 = λ v. Proper 14 v → request_row (request_record v) ≡ v in
    subst P (spelt 14 w p.long) (request_spelt (λ k. slice_index_or w k false)) p
