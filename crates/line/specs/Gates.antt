-- Gates, by the list of the line below.
--
-- ThresholdMade n   what making a threshold of n millivolts answers
-- admits t h        a height of at least the threshold
-- passes t e        a quiet, or a pulse whose height the threshold admits
-- gated t es        es without the pulses lower than the threshold
use Rattle.std.specs.Prelude.{ℕ, Bool, true, List, filter, Result, nat_le}
use Rattle.line.specs.declared.event.Event.{Event}
use Rattle.line.specs.declared.event.Event.TheVariants.{Pulse, Quiet}
use Rattle.line.specs.declared.event.Height.{Height}
use Rattle.line.specs.declared.refusal.Refusal.{Refusal}
use Rattle.line.specs.declared.threshold.Threshold.{Threshold}
use Rattle.line.specs.Events.{HeightIn}

abbrev pub ThresholdMade : ℕ → Result Threshold Refusal → Type 0
ThresholdMade n r = HeightIn (λ t. t.least.mv) n r

abbrev pub admits : Threshold → Height → Bool
admits t h = nat_le t.least.mv h.mv

abbrev pub passes : Threshold → Event → Bool
passes t (Pulse p h) = admits t h
passes t (Quiet n) = true

abbrev pub gated : Threshold → List Event → List Event
gated t es = filter (passes t) es
