-- Commands as lines of text.
--
-- request_fields r q   the fields of a request, a space after each, and then q
-- answer_fields a q    the same of an answer
-- telegram_text t q    the name of a telegram's kind, a space, its fields with a space after each, and then q
-- command_text c       the line that writes a command
-- Fielded bs v r       bs begin with a plain number that is read as v, a space follows, and r stands after it
-- Unfielded bs         bs begin with no plain number that a space follows
-- Shape text bs        bs are the text of some telegram with a closing quiet in plain decimals, however large
-- Misread text bs e    why bs are not read: refused by 9, they have no such shape; by 10, they have, and the quiet is out of range
-- Made t n r           what making a command of t and n ticks answers
-- RequestRead bs r     what reading bs as a request's fields answers
-- AnswerRead bs r      what reading bs as an answer's fields answers
-- LineRead bs r        what reading a line answers
use Rattle.std.specs.Prelude.{◌≡◌, ℕ, ◌⊎◌, List, ◌∷◌, ◌++◌, Ok, Err, codes, decimal, Result, ◌≢◌}
use Rattle.telegram.specs.declared.answer.Answer.{Answer}
use Rattle.telegram.specs.declared.refusal.Refusal.{Refusal}
use Rattle.telegram.specs.declared.request.Request.{Request}
use Rattle.telegram.specs.Closings.{Unclosing, closing_ticks}
use Rattle.telegram.specs.Refusals.{number}
use Rattle.asisend.specs.declared.command.Command.{Command}
use Rattle.asisend.specs.declared.command.Telegram.{Telegram}
use Rattle.asisend.specs.declared.command.Telegram.TheVariants as telegram
use Rattle.asisend.specs.Numbers.{Plain, capped, written}

abbrev pub request_fields : Request → List ℕ → List ℕ
request_fields r q = decimal r.control ++ (32 ∷ (decimal r.address ++ (32 ∷ (decimal r.information ++ (32 ∷ q)))))

abbrev pub answer_fields : Answer → List ℕ → List ℕ
answer_fields a q = decimal a.nibble ++ (32 ∷ q)

abbrev pub telegram_text : Telegram → List ℕ → List ℕ
telegram_text (telegram.Request r) q = codes "request " ++ request_fields r q
telegram_text (telegram.Answer a) q = codes "answer " ++ answer_fields a q

abbrev pub command_text : Command → List ℕ
command_text c = telegram_text c.telegram (decimal (closing_ticks c.closing))

pub record Fielded (bs : List ℕ) (v : ℕ) (r : List ℕ) : Type 0 where
  pub digits : List ℕ
  pub plain : Plain digits
  pub whole : bs ≡ digits ++ (32 ∷ r)
  pub value : v ≡ capped (written digits)

abbrev pub Unfielded : List ℕ → Type 0
Unfielded bs = (ds r : List ℕ) → Plain ds → bs ≢ ds ++ (32 ∷ r)

pub record Shape {T : Type 0} (text : T → List ℕ → List ℕ) (bs : List ℕ) : Type 0 where
  pub telegram : T
  pub quiet : List ℕ
  pub plain : Plain quiet
  pub whole : bs ≡ text telegram quiet

abbrev pub Misread : {T : Type 0} → (T → List ℕ → List ℕ) → List ℕ → Refusal → Type 0
Misread text bs e = ((number e ≡ 9) × (Shape text bs → ⊥)) ⊎ ((number e ≡ 10) × ((s : Shape text bs) × Unclosing (written s.quiet)))

abbrev pub Made : Telegram → ℕ → Result Command Refusal → Type 0
Made t n (Ok c) = (c.telegram ≡ t) × (closing_ticks c.closing ≡ n)
Made t n (Err e) = Unclosing n × (number e ≡ 10)

abbrev pub RequestRead : List ℕ → Result Command Refusal → Type 0
RequestRead bs (Ok c) = (r : Request) × (c.telegram ≡ telegram.Request r) × (bs ≡ request_fields r (decimal (closing_ticks c.closing)))
RequestRead bs (Err e) = Misread request_fields bs e

abbrev pub AnswerRead : List ℕ → Result Command Refusal → Type 0
AnswerRead bs (Ok c) = (a : Answer) × (c.telegram ≡ telegram.Answer a) × (bs ≡ answer_fields a (decimal (closing_ticks c.closing)))
AnswerRead bs (Err e) = Misread answer_fields bs e

abbrev pub LineRead : List ℕ → Result Command Refusal → Type 0
LineRead bs (Ok c) = bs ≡ command_text c
LineRead bs (Err e) = Misread telegram_text bs e
