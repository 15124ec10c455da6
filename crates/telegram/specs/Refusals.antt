-- The refusals of this layer.
--
-- number            the number by which a refusal is known
-- event_refused e   what refusing a height or ticks by e is here: a height, or a closing quiet
use Rattle.std.specs.Prelude.{ℕ}
use Rattle.line.specs.declared.refusal.Refusal as line
use Rattle.line.specs.declared.refusal.Refusal.TheVariants as event
use Rattle.telegram.specs.declared.refusal.Refusal.{Refusal}
use Rattle.telegram.specs.declared.refusal.Refusal.TheVariants.{HeightOutOfRange, FieldOutOfRange, ClosingOutOfRange}

abbrev pub number : Refusal → ℕ
number HeightOutOfRange = 1
number FieldOutOfRange = 9
number ClosingOutOfRange = 10

abbrev pub event_refused : line.Refusal → Refusal
event_refused event.HeightOutOfRange = HeightOutOfRange
event_refused event.TicksOutOfRange = ClosingOutOfRange
