-- Which trains are trains of a row.
--
-- Stands n s l   the pulses l stand in the slots s, the first of them slot n: one in the window of each slot that holds a pulse,
--                of that polarity, and no others
-- Opens s u      the train u stands in the slots s, its first pulse in slot 0
-- on_time n s    the pulses of the slots s, the first of them slot n, each on its slot's tick
-- TrainOf w u    u is a train of the row w: its pulses are those of w by slot and polarity, each later one anywhere in its window
use Rattle.std.specs.Prelude.{◌≡◌, ℕ, ◌+◌, ◌*◌, Bool, List, [], ◌∷◌, Some, None, Option}
use Rattle.line.specs.declared.event.Polarity.{Polarity}
use Rattle.telegram.specs.Coding.{slots}
use Rattle.telegram.specs.Sending.{slot_ticks}
use Rattle.train.specs.declared.pulse.TimedPulse.{TimedPulse}
use Rattle.train.specs.Trains.{Train}
use Rattle.train.specs.Windows.{InSlot}

abbrev pub Stands : ℕ → List (Option Polarity) → List TimedPulse → Type 0
Stands n [] [] = Unit {0}
Stands n [] (x ∷ l) = ⊥
Stands n (None ∷ s) l = Stands (n + 1) s l
Stands n (Some p ∷ s) [] = ⊥
Stands n (Some p ∷ s) (x ∷ l) = InSlot n x.t × (x.polarity ≡ p) × Stands (n + 1) s l

abbrev pub Opens : List (Option Polarity) → Train → Type 0
Opens [] u = ⊥
Opens (None ∷ s) u = ⊥
Opens (Some p ∷ s) u = (u.first ≡ p) × Stands 1 s u.later

abbrev pub TrainOf : List Bool → Train → Type 0
TrainOf w u = Opens (slots w) u

abbrev pub on_time : ℕ → List (Option Polarity) → List TimedPulse
on_time n [] = []
on_time n (None ∷ s) = on_time (n + 1) s
on_time n (Some p ∷ s) = record { t = slot_ticks * n; polarity = p } ∷ on_time (n + 1) s
