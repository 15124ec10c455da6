-- The limits of an event.
--
-- highest   the greatest height of a pulse, in millivolts
-- longest   the most ticks that one quiet has
use Rattle.std.specs.Prelude.{ℕ}

abbrev pub highest : ℕ
highest = 8191

abbrev pub longest : ℕ
longest = 1073741823
