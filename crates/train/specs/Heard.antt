-- When a list of events is heard as one train by a listener at rest.
--
-- rest          how many ticks without a pulse end a train
-- stamps c es   the pulses of es, each with the ticks that have gone by when it comes, c at the beginning
-- clock c es    the ticks that have gone by after es
-- Tight y l     fewer ticks than end a train lie between y and the first of the pulses l, and between each two neighbours of l
-- Hears es u    es begins with the first pulse of u, has just the pulses of u, and brings u to its end
use Rattle.std.specs.Prelude.{◌≡◌, ℕ, ◌+◌, ◌<◌, ◌≤◌, List, [], ◌∷◌}
use Rattle.line.specs.declared.event.Event.{Event}
use Rattle.line.specs.declared.event.Event.TheVariants.{Pulse, Quiet}
use Rattle.train.specs.declared.pulse.TimedPulse.{TimedPulse}
use Rattle.train.specs.Trains.{Train, last_pulse, opening}

abbrev pub rest : ℕ
rest = 72

abbrev pub stamps : ℕ → List Event → List TimedPulse
stamps c [] = []
stamps c (Pulse p h ∷ es) = record { t = c; polarity = p } ∷ stamps c es
stamps c (Quiet n ∷ es) = stamps (c + n.count) es

abbrev pub clock : ℕ → List Event → ℕ
clock c [] = c
clock c (Pulse p h ∷ es) = clock c es
clock c (Quiet n ∷ es) = clock (c + n.count) es

abbrev pub Tight : TimedPulse → List TimedPulse → Type 0
Tight y [] = Unit {0}
Tight y (x ∷ l) = (x.t < y.t + rest) × Tight x l

pub record Hears (es : List Event) (u : Train) : Type 0 where
  pub pulses : stamps 0 es ≡ opening u ∷ u.later
  pub tight : Tight (opening u) u.later
  pub over : (last_pulse u).t + rest ≤ clock 0 es
