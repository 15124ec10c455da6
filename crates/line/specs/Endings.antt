-- How a line ends.
--
-- Ending   an ending: dry, or broken by a fault
-- dry      the ending of a line of which all was said; the ending by a fault f is Err f
use Rattle.std.specs.Prelude.{Ok, Result}
use Rattle.line.specs.declared.ending.LineFault.{LineFault}

abbrev pub Ending : Type 0
Ending = Result (Unit {0}) LineFault

abbrev pub dry : Ending
dry = Ok tt
