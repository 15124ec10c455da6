-- The listing of a line.
--
-- event_line e      the text of an event on a line that byte 10 ends
-- event_lines es    the lines of all events
-- ending_line end   the text of an ending, on such a line
-- listing es end    the lines of all events, then the line of the ending
-- room              how many words of its input the program reads at most: those of 65,536 bytes
-- recorded ws       the listing of the recording in ws
-- dump bs           the listing of the recording in the bytes bs
use Rattle.std.specs.Prelude.{ℕ, List, [], ◌∷◌, ◌++◌, take}
use Rattle.std.specs.List.{flat_map}
use Rattle.line.specs.Endings.{Ending}
use Rattle.line.specs.declared.event.Event.{Event}
use Rattle.line.specs.Bytes.{words_of}
use Rattle.line.specs.Decoding.{content}
use Rattle.asidump.specs.Text.{ending_text, event_text}

abbrev pub event_line : Event → List ℕ
event_line e = event_text e ++ (10 ∷ [])

abbrev pub event_lines : List Event → List ℕ
event_lines es = flat_map event_line es

abbrev pub ending_line : Ending → List ℕ
ending_line end = ending_text end ++ (10 ∷ [])

abbrev pub listing : List Event → Ending → List ℕ
listing es end = event_lines es ++ ending_line end

abbrev pub room : ℕ
room = 16384

abbrev pub recorded : List ℕ → List ℕ
recorded ws = listing (content 0 ws).events (content 0 ws).ending

abbrev pub dump : List ℕ → List ℕ
dump bs = recorded (take room (words_of bs))
