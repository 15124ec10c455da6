-- The lines of a listing as text, without the byte that ends each.
--
-- sign_text p     the sign of a polarity
-- event_text e    the text of an event
-- ending_text e   the text of an ending
-- text_of e       the text of either
use Rattle.std.specs.Prelude.{ℕ, List, ◌++◌, codes, decimal, Ok, Err}
use Rattle.line.specs.Endings.{Ending}
use Rattle.line.specs.declared.event.Event.{Event}
use Rattle.line.specs.declared.event.Event.TheVariants.{Pulse, Quiet}
use Rattle.line.specs.declared.event.Polarity.{Polarity}
use Rattle.line.specs.declared.event.Polarity.TheVariants.{Negative, Positive}
use Rattle.asidump.specs.declared.text.Item.{Item}
use Rattle.asidump.specs.declared.text.Item.TheVariants as item

abbrev pub sign_text : Polarity → List ℕ
sign_text Negative = codes "-"
sign_text Positive = codes "+"

abbrev pub event_text : Event → List ℕ
event_text (Pulse p h) = codes "pulse " ++ (sign_text p ++ (codes " " ++ decimal h.mv))
event_text (Quiet t) = codes "quiet " ++ decimal t.count

abbrev pub ending_text : Ending → List ℕ
ending_text (Ok u) = codes "end"
ending_text (Err f) = codes "broken " ++ (decimal f.cause ++ (codes " " ++ decimal f.place))

abbrev pub text_of : Item → List ℕ
text_of (item.Event e) = event_text e
text_of (item.Ending e) = ending_text e
