-- Turns, by the events of the line below.
--
-- opposite p   the other polarity
-- turned e     e with its polarity changed
use Rattle.line.specs.declared.event.Event.{Event}
use Rattle.line.specs.declared.event.Event.TheVariants.{Pulse, Quiet}
use Rattle.line.specs.declared.event.Polarity.{Polarity}
use Rattle.line.specs.declared.event.Polarity.TheVariants.{Negative, Positive}

abbrev pub opposite : Polarity → Polarity
opposite Negative = Positive
opposite Positive = Negative

abbrev pub turned : Event → Event
turned (Pulse p h) = Pulse (opposite p) h
turned (Quiet n) = Quiet n
