-- The recording of commands.
--
-- pulse_mv            the height of all pulses, in millivolts
-- telegram_row t      the bits of a telegram
-- row_events w n      what is sent for the row w with a closing quiet of n ticks
-- command_events c    what is sent for a command
-- script_events cs    what is sent for all commands in order
-- end_word n          the word that ends a recording of n words before it
-- Recording es ws     ws are the words of es and then the end word, so that reading them gives just es
-- EventsPushed ws es ws'   adding the words of es made ws' of ws
use Rattle.std.specs.Prelude.{◌≡◌, ℕ, ◌+◌, ◌^◌, Bool, List, [], ◌∷◌, ◌++◌, map, length}
use Rattle.std.specs.List.{flat_map}
use Rattle.line.specs.Endings.{dry}
use Rattle.line.specs.declared.event.Event.{Event}
use Rattle.line.specs.Events.{height, ticks}
use Rattle.line.specs.Recorded.{Recorded}
use Rattle.line.specs.Words.{word_of}
use Rattle.telegram.specs.Closings.{closing_ticks}
use Rattle.telegram.specs.Coding.{slots}
use Rattle.telegram.specs.Records.{answer_row, request_row}
use Rattle.telegram.specs.Sending.{sent}
use Rattle.asisend.specs.declared.command.Command.{Command}
use Rattle.asisend.specs.declared.command.Telegram.{Telegram}
use Rattle.asisend.specs.declared.command.Telegram.TheVariants.{Request, Answer}

abbrev pub pulse_mv : ℕ
pulse_mv = 4000

abbrev pub telegram_row : Telegram → List Bool
telegram_row (Request r) = request_row r
telegram_row (Answer r) = answer_row r

unfoldable pub row_events : List Bool → ℕ → List Event
row_events w n = sent (height pulse_mv) (ticks n) (slots w)

abbrev pub command_events : Command → List Event
command_events c = row_events (telegram_row c.telegram) (closing_ticks c.closing)

abbrev pub script_events : List Command → List Event
script_events cs = flat_map command_events cs

abbrev pub end_word : ℕ → ℕ
end_word n = 2 ^ 31 + n

pub record Recording (es : List Event) (ws : List ℕ) : Type 0 where
  pub words : ws ≡ map word_of es ++ (end_word (length es) ∷ [])
  pub recorded : Recorded 0 ws es dry

abbrev pub EventsPushed : List ℕ → List Event → List ℕ → Type 0
EventsPushed ws es ws' = ws' ≡ ws ++ map word_of es
