-- The one decoding of a recording's words.
--
-- polarity n          the polarity of a number
-- quiet_decoded w     what a word of kind 0 says
-- pulse_decoded w     what a word of kind 1 says
-- end_decoded n w     what a word of kind 2 says as the word of number n
-- decoded n w         what any word says as the word of number n
-- Content             the events of a line, and its ending
-- then x n c          what the word of number n means, where it says x, together with the content c of the words after it
-- content n ws        what ws mean, the first of them the word of number n
-- from n ws           what ws mean from the word of number n on
-- Stands n k x        x was read off a word: n, its number, is one of the first k
-- Begins n ws x       what ws mean from the word of number n on begins with x
use Rattle.std.specs.Prelude.{◌≡◌, ℕ, ◌+◌, ◌<◌, cond, List, [], ◌∷◌, length, drop, ◌==◌, Some, None, Ok, Err}
use Rattle.line.specs.Endings.{Ending, dry}
use Rattle.line.specs.declared.event.Event.{Event}
use Rattle.line.specs.declared.event.Event.TheVariants.{Pulse, Quiet}
use Rattle.line.specs.declared.event.Polarity.{Polarity}
use Rattle.line.specs.declared.event.Polarity.TheVariants.{Negative, Positive}
use Rattle.line.specs.declared.recording.Flaw.TheVariants.{UnknownKind, EmptyQuiet, UsedSpareBits, NoEnd, WrongCount}
use Rattle.line.specs.Events.{height, ticks}
use Rattle.line.specs.Words.{Word, amount, fault, kind, side, spare}

abbrev pub polarity : ℕ → Polarity
polarity n = cond (n == 1) Positive Negative

abbrev pub quiet_decoded : ℕ → Word
quiet_decoded w = cond (amount w == 0) (Err EmptyQuiet) (Ok (Some (Quiet (ticks w))))

abbrev pub pulse_decoded : ℕ → Word
pulse_decoded w = cond (spare w == 0) (Ok (Some (Pulse (polarity (side w)) (height w)))) (Err UsedSpareBits)

abbrev pub end_decoded : ℕ → ℕ → Word
end_decoded n w = cond (amount w == n) (Ok None) (Err WrongCount)

abbrev pub decoded : ℕ → ℕ → Word
decoded n w = cond (kind w == 0) (quiet_decoded w) (cond (kind w == 1) (pulse_decoded w) (cond (kind w == 2) (end_decoded n w) (Err UnknownKind)))

pub record Content : Type 0 where
  pub events : List Event
  pub ending : Ending

abbrev pub then : Word → ℕ → Content → Content
then (Ok (Some e)) n c = record { events = e ∷ c.events; ending = c.ending }
then (Ok None) n c = record { events = []; ending = dry }
then (Err f) n c = record { events = []; ending = Err (fault f n) }

abbrev pub content : ℕ → List ℕ → Content
content n [] = record { events = []; ending = Err (fault NoEnd n) }
content n (w ∷ ws) = then (decoded n w) n (content (n + 1) ws)

abbrev pub from : ℕ → List ℕ → Content
from n ws = content n (drop n ws)

abbrev pub Stands : ℕ → ℕ → Word → Type 0
Stands n k (Ok x) = n < k
Stands n k (Err f) = Unit {0}

pub record Begins (n : ℕ) (ws : List ℕ) (x : Word) : Type 0 where
  pub stands : Stands n (length ws) x
  pub events : (from n ws).events ≡ (then x n (from (n + 1) ws)).events
  pub ending : (from n ws).ending ≡ (then x n (from (n + 1) ws)).ending
