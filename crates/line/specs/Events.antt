-- The parts of an event, and when they are made.
--
-- height n       the height in the low 13 bits of n: n itself, up to 8,191
-- ticks n        the ticks in the low 30 bits of n: n itself, from 1 to 1,073,741,823. No quiet is empty, so 0 is taken for 1;
--                the decoding never asks for it
-- HeightIn f n   what making something answers whose height, by f, is to be n millivolts
-- HeightMade n   what making a height of n millivolts answers
-- TicksMade n    what making a quiet's ticks of n answers
use Rattle.std.specs.Prelude.{◌≡◌, ℕ, ◌<◌, ◌≤◌, max, ◌⊎◌, Ok, Err, Result}
use Rattle.std.proofs.Common.{arith}
use Rattle.line.specs.declared.event.Height.{Height}
use Rattle.line.specs.declared.event.Ticks.{Ticks}
use Rattle.line.specs.declared.refusal.Refusal.{Refusal}
use Rattle.line.specs.Limits.{highest, longest}
use Rattle.line.specs.Refusals.{number}
use Rattle.line.specs.Words.{amount, level}

abbrev pub height : ℕ → Height
height n = record { mv = level n; low = omega arith }

abbrev pub ticks : ℕ → Ticks
ticks n = record { count = max 1 (amount n); some = omega arith; few = omega arith }

abbrev pub HeightIn : {T : Type 0} → (T → ℕ) → ℕ → Result T Refusal → Type 0
HeightIn f n (Ok t) = (n ≤ highest) × (f t ≡ n)
HeightIn f n (Err e) = (highest < n) × (number e ≡ 1)

abbrev pub HeightMade : ℕ → Result Height Refusal → Type 0
HeightMade n r = HeightIn (λ h. h.mv) n r

abbrev pub TicksMade : ℕ → Result Ticks Refusal → Type 0
TicksMade n (Ok t) = (1 ≤ n) × (n ≤ longest) × (t.count ≡ n)
TicksMade n (Err e) = ((n < 1) ⊎ (longest < n)) × (number e ≡ 2)
