-- Polarities and truth values.
--
-- polarity_of b   the polarity of a truth value: positive for true
use Rattle.std.specs.Prelude.{Bool, true, false}
use Rattle.line.specs.declared.event.Polarity.{Polarity}
use Rattle.line.specs.declared.event.Polarity.TheVariants.{Negative, Positive}

abbrev pub polarity_of : Bool → Polarity
polarity_of false = Negative
polarity_of true = Positive
