-- The refusals of this layer.
--
-- number   the number by which a refusal is known
use Rattle.std.specs.Prelude.{ℕ}
use Rattle.line.specs.declared.refusal.Refusal.{Refusal}
use Rattle.line.specs.declared.refusal.Refusal.TheVariants.{HeightOutOfRange, TicksOutOfRange}

abbrev pub number : Refusal → ℕ
number HeightOutOfRange = 1
number TicksOutOfRange = 2
