-- The rows of requests and answers, what any row means as one of them, and when a record is made.
--
-- request_row r      a start 0, the control bit, five bits of address, five of information, the parity bit, an end 1
-- request_record w   the request in the fields of w
-- answer_row r       a start 0, four bits of the nibble, the parity bit, an end 1
-- answer_record w    the answer in the fields of w
-- RequestIn c a i    the fields c, a, i are in their ranges
-- RequestMade c a i  what making a request of c, a, i answers
-- AnswerMade n       what making an answer of the nibble n answers
use Rattle.std.specs.Prelude.{◌≡◌, ℕ, ◌<◌, ◌≤◌, Bool, List, ◌++◌, Ok, Err, Result}
use Rattle.telegram.specs.declared.answer.Answer.{Answer}
use Rattle.telegram.specs.declared.refusal.Refusal.{Refusal}
use Rattle.telegram.specs.declared.request.Request.{Request}
use Rattle.telegram.specs.Digits.{digits, framed, part, part_lt, value}
use Rattle.telegram.specs.Refusals.{number}

abbrev pub request_row : Request → List Bool
request_row r = framed (digits 1 r.control ++ (digits 5 r.address ++ digits 5 r.information))

abbrev pub request_record : List Bool → Request
request_record w = record {
  control = value (part 1 1 w);
  address = value (part 2 5 w);
  information = value (part 7 5 w);
  one = part_lt 1 1 w;
  low = part_lt 2 5 w;
  few = part_lt 7 5 w;
}

abbrev pub answer_row : Answer → List Bool
answer_row r = framed (digits 4 r.nibble)

abbrev pub answer_record : List Bool → Answer
answer_record w = record { nibble = value (part 1 4 w); low = part_lt 1 4 w }

abbrev pub RequestIn : ℕ → ℕ → ℕ → Type 0
RequestIn c a i = (c < 2) × (a < 32) × (i < 32)

abbrev pub RequestMade : ℕ → ℕ → ℕ → Result Request Refusal → Type 0
RequestMade c a i (Ok r) = (r.control ≡ c) × (r.address ≡ a) × (r.information ≡ i)
RequestMade c a i (Err e) = (RequestIn c a i → ⊥) × (number e ≡ 9)

abbrev pub AnswerMade : ℕ → Result Answer Refusal → Type 0
AnswerMade n (Ok r) = r.nibble ≡ n
AnswerMade n (Err e) = (16 ≤ n) × (number e ≡ 9)
