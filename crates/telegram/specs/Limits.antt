-- The limits of a closing quiet, in ticks.
use Rattle.std.specs.Prelude.{ℕ}

abbrev pub shortest_closing : ℕ
shortest_closing = 72

abbrev pub longest_closing : ℕ
longest_closing = 4000
