-- Whole texts, and what spoils them.
--
-- script_text cs     the lines of the commands cs, each with the byte 10 that ends it
-- Writes t cs        the text t writes the commands cs; the last line may lack its byte 10
-- Begins t cs r      the same of what stands before the rest r of the text
-- Bad t n e          the line of number n is the first of t that writes no command, and e says why
-- CommandAdded cs l cs'   cs' are the commands cs and then the one that the line l writes
-- LineFailed cs l e  why the line l, which stands after those of cs, is not read
-- ScriptFailed t e   why the text t is not read
-- RecordFailed es e  why es are not recorded
-- failure_text e     what is told of a failure
use Rattle.std.specs.Prelude.{◌≡◌, ℕ, ◌+◌, ◌^◌, ◌<◌, ◌≤◌, ◌⊎◌, List, [], ◌∷◌, ◌++◌, length, codes, decimal}
use Rattle.std.specs.List.{flat_map}
use Rattle.line.specs.declared.event.Event.{Event}
use Rattle.telegram.specs.declared.refusal.Refusal.{Refusal}
use Rattle.telegram.specs.Refusals.{number}
use Rattle.asisend.specs.declared.command.Command.{Command}
use Rattle.asisend.specs.declared.failure.Failure.{Failure}
use Rattle.asisend.specs.declared.failure.Failure.TheVariants.{Memory, TooLong, TooManyWords, BadLine}
use Rattle.asisend.specs.Commands.{Misread, command_text, telegram_text}
use Rattle.asisend.specs.Cutting.{FirstLine}

abbrev pub script_text : List Command → List ℕ
script_text cs = flat_map (λ c. command_text c ++ (10 ∷ [])) cs

abbrev pub Writes : List ℕ → List Command → Type 0
Writes t cs = (t ≡ script_text cs) ⊎ (t ++ (10 ∷ []) ≡ script_text cs)

abbrev pub Begins : List ℕ → List Command → List ℕ → Type 0
Begins t cs r = (t ≡ script_text cs ++ r) ⊎ ((t ++ (10 ∷ []) ≡ script_text cs) × (r ≡ []))

pub record Bad (t : List ℕ) (n : ℕ) (e : Refusal) : Type 0 where
  pub good : List Command
  pub rest : List ℕ
  pub line : List ℕ
  pub after : List ℕ
  pub begins : t ≡ script_text good ++ rest
  pub some : 0 < length rest
  pub first : FirstLine rest line after
  pub place : n ≡ length good + 1
  pub why : Misread telegram_text line e

abbrev pub CommandAdded : List Command → List ℕ → List Command → Type 0
CommandAdded cs l cs' = (c : Command) × (l ≡ command_text c) × (cs' ≡ cs ++ (c ∷ []))

abbrev pub LineFailed : List Command → List ℕ → Failure → Type 0
LineFailed cs l Memory = Unit {0}
LineFailed cs l TooLong = ⊥
LineFailed cs l TooManyWords = ⊥
LineFailed cs l (BadLine n e) = (n ≡ length cs + 1) × Misread telegram_text l e

abbrev pub ScriptFailed : List ℕ → Failure → Type 0
ScriptFailed t Memory = Unit {0}
ScriptFailed t TooLong = ⊥
ScriptFailed t TooManyWords = ⊥
ScriptFailed t (BadLine n e) = Bad t n e

abbrev pub RecordFailed : List Event → Failure → Type 0
RecordFailed es Memory = Unit {0}
RecordFailed es TooLong = ⊥
RecordFailed es TooManyWords = 2 ^ 30 ≤ length es
RecordFailed es (BadLine n e) = ⊥

abbrev pub failure_text : Failure → List ℕ
failure_text Memory = codes "out of memory"
failure_text TooLong = codes "input longer than 65536 bytes"
failure_text TooManyWords = codes "too many words for one recording"
failure_text (BadLine n e) = codes "line " ++ (decimal n ++ (codes ": refused by " ++ decimal (number e)))
