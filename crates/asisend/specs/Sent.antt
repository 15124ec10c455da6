-- What the program makes of its input.
--
-- most            the most bytes of text that are taken
-- Sent t bs       t writes some commands, and bs are the bytes of words that record just what is sent for them
-- SendFailed t e  why nothing is made of t
use Rattle.std.specs.Prelude.{ℕ, ◌<◌, ◌≤◌, List, length}
use Rattle.asisend.specs.declared.command.Command.{Command}
use Rattle.asisend.specs.declared.failure.Failure.{Failure}
use Rattle.asisend.specs.declared.failure.Failure.TheVariants.{Memory, TooLong, TooManyWords, BadLine}
use Rattle.asisend.specs.Bytes.{Written}
use Rattle.asisend.specs.Recording.{Recording, script_events}
use Rattle.asisend.specs.Scripts.{Bad, RecordFailed, Writes}

abbrev pub most : ℕ
most = 65536

pub record Sent (t bs : List ℕ) : Type 0 where
  pub fits : length t ≤ most
  pub commands : List Command
  pub writes : Writes t commands
  pub words : List ℕ
  pub recording : Recording (script_events commands) words
  pub bytes : Written words bs

abbrev pub SendFailed : List ℕ → Failure → Type 0
SendFailed t Memory = Unit {0}
SendFailed t TooLong = most < length t
SendFailed t TooManyWords = (length t ≤ most) × ((cs : List Command) × Writes t cs × RecordFailed (script_events cs) TooManyWords)
SendFailed t (BadLine n e) = (length t ≤ most) × Bad t n e
