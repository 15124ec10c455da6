-- Two heights of one number are one height, and so for ticks: their limits are facts with one proof.
use Rattle.std.proofs.Common.{◌≡◌, ◌≤◌}
use mathlib.Core.HLevel.{is_prop→PathP}
use Rattle.std.proofs.Math.Bridge.{le_prop}
use Rattle.line.specs.declared.event.Height.{Height}
use Rattle.line.specs.declared.event.Ticks.{Ticks}
use Rattle.line.specs.Limits.{highest, longest}

pub same_height : (a b : Height) → a.mv ≡ b.mv → a ≡ b
same_height a b p = λ i. record { mv = p i; low = is_prop→PathP (λ j. p j ≤ highest) (λ j. le_prop) a.low b.low i }

pub same_ticks : (a b : Ticks) → a.count ≡ b.count → a ≡ b
same_ticks a b p = λ i. record {
  count = p i;
  some = is_prop→PathP (λ j. 1 ≤ p j) (λ j. le_prop) a.some b.some i;
  few = is_prop→PathP (λ j. p j ≤ longest) (λ j. le_prop) a.few b.few i;
}
