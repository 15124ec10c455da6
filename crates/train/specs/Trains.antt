-- Trains, and what they hold.
--
-- Train          a train: the polarity of its first pulse, and its later pulses in order
-- opening u      its first pulse, at 0 ticks
-- last y l       the last of the pulses l, or y where there is none
-- last_pulse u   its last pulse
-- count u        how many pulses it has
-- u then x       the train u with one more pulse x
-- held_later     what slot n holds of later pulses
-- holds u n      what slot n of a train holds
-- positive p     whether a polarity is positive
-- high x         whether a slot holds a positive pulse
-- row b u        its row of b bits: bit k is 1 for a positive pulse in slot 2k, and else 0
-- bits l         the bits of those of the pulses l that are in even slots, in their order
-- apart u v      in how many of the slots 0 to 26, which are all that a clean train has, two trains differ
use Rattle.std.specs.Prelude.{ℕ, ◌+◌, ◌*◌, ◌%◌, Bool, true, false, cond, List, [], ◌∷◌, ◌++◌, length, Some, None, Option, ◌==◌}
use Rattle.line.specs.declared.event.Polarity.{Polarity}
use Rattle.line.specs.declared.event.Polarity.TheVariants.{Negative, Positive}
use Rattle.telegram.specs.Coding.{differing}
use Rattle.telegram.specs.Digits.{listed}
use Rattle.train.specs.declared.pulse.TimedPulse.{TimedPulse}
use Rattle.train.specs.Windows.{in_slot, place}

pub record Train : Type 0 where
  pub first : Polarity
  pub later : List TimedPulse

abbrev pub opening : Train → TimedPulse
opening u = record { t = 0; polarity = u.first }

abbrev pub last : TimedPulse → List TimedPulse → TimedPulse
last y [] = y
last y (x ∷ l) = last x l

abbrev pub last_pulse : Train → TimedPulse
last_pulse u = last (opening u) u.later

abbrev pub count : Train → ℕ
count u = length u.later + 1

infixl 30 ◌then◌
abbrev pub ◌then◌ : Train → TimedPulse → Train
u then x = record { first = u.first; later = u.later ++ (x ∷ []) }

abbrev pub held_later : ℕ → List TimedPulse → Option Polarity
held_later n [] = None
held_later n (x ∷ l) = cond (in_slot n x.t) (Some x.polarity) (held_later n l)

abbrev pub holds : Train → ℕ → Option Polarity
holds u n = cond (n == 0) (Some u.first) (held_later n u.later)

abbrev pub positive : Polarity → Bool
positive Negative = false
positive Positive = true

abbrev pub high : Option Polarity → Bool
high None = false
high (Some p) = positive p

abbrev pub row : ℕ → Train → List Bool
row b u = listed (λ k. high (holds u (2 * k))) b

abbrev pub bits : List TimedPulse → List Bool
bits [] = []
bits (x ∷ l) = cond (place x.t % 2 == 0) (positive x.polarity ∷ bits l) (bits l)

abbrev pub apart : Train → Train → ℕ
apart u v = differing 27 (holds u) (holds v)
