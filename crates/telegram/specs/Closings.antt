-- Closing quiets.
--
-- closing_ticks c    the ticks of a closing quiet
-- Unclosing n        n ticks are no closing quiet
-- ClosingMade n r    what making a closing quiet of n ticks answers
use Rattle.std.specs.Prelude.{◌≡◌, ℕ, ◌<◌, ◌≤◌, ◌⊎◌, Ok, Err, Result}
use Rattle.telegram.specs.declared.closing.Closing.{Closing}
use Rattle.telegram.specs.declared.refusal.Refusal.{Refusal}
use Rattle.telegram.specs.Limits.{longest_closing, shortest_closing}
use Rattle.telegram.specs.Refusals.{number}

abbrev pub closing_ticks : Closing → ℕ
closing_ticks c = c.ticks.count

abbrev pub Unclosing : ℕ → Type 0
Unclosing n = (n < shortest_closing) ⊎ (longest_closing < n)

abbrev pub ClosingMade : ℕ → Result Closing Refusal → Type 0
ClosingMade n (Ok c) = (shortest_closing ≤ n) × (n ≤ longest_closing) × (closing_ticks c ≡ n)
ClosingMade n (Err e) = Unclosing n × (number e ≡ 10)
