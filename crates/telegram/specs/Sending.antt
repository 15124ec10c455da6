-- What a sender hands over.
--
-- slot_ticks          the ticks of a slot
-- onward h c g s      what follows on a pulse, when g slots later the slots s come: up to the next pulse one quiet for all
--                     slots from the one to the other, and so on; after the last pulse the closing quiet c. h is the height of all
--                     pulses
-- sent h c s          all that is handed over for the slots s of a row
-- Sends               a sender of the row w, made for pulses of mv millivolts and a closing quiet of so many ticks: h and c are
--                     its height and its closing quiet, es what waits in it
-- SenderRefused       why a sender is not made: the height first, then the closing quiet
use Rattle.std.specs.Prelude.{◌≡◌, ℕ, ◌+◌, ◌*◌, ◌<◌, ◌≤◌, Bool, ◌⊎◌, List, [], ◌∷◌, Some, None, Option}
use Rattle.line.specs.declared.event.Event.{Event}
use Rattle.line.specs.declared.event.Event.TheVariants.{Pulse, Quiet}
use Rattle.line.specs.declared.event.Height.{Height}
use Rattle.line.specs.declared.event.Polarity.{Polarity}
use Rattle.line.specs.declared.event.Ticks.{Ticks}
use Rattle.line.specs.Events.{ticks}
use Rattle.line.specs.Limits.{highest}
use Rattle.telegram.specs.declared.refusal.Refusal.{Refusal}
use Rattle.telegram.specs.Closings.{Unclosing}
use Rattle.telegram.specs.Coding.{slots}
pub use Rattle.telegram.specs.Limits.{longest_closing, shortest_closing}
use Rattle.telegram.specs.Refusals.{number}

abbrev pub slot_ticks : ℕ
slot_ticks = 24

abbrev pub onward : Height → Ticks → ℕ → List (Option Polarity) → List Event
onward h c g [] = Quiet c ∷ []
onward h c g (None ∷ s) = onward h c (g + 1) s
onward h c g (Some p ∷ s) = Quiet (ticks (slot_ticks * g)) ∷ Pulse p h ∷ onward h c 1 s

abbrev pub sent : Height → Ticks → List (Option Polarity) → List Event
sent h c [] = []
sent h c (None ∷ s) = sent h c s
sent h c (Some p ∷ s) = Pulse p h ∷ onward h c 1 s

pub record Sends (h : Height) (c : Ticks) (es : List Event) (w : List Bool) (mv closing : ℕ) : Type 0 where
  pub high : h.mv ≡ mv
  pub long : c.count ≡ closing
  pub within : (shortest_closing ≤ closing) × (closing ≤ longest_closing)
  pub list : es ≡ sent h c (slots w)

abbrev pub SenderRefused : ℕ → ℕ → Refusal → Type 0
SenderRefused mv closing e = ((highest < mv) × (number e ≡ 1)) ⊎ ((mv ≤ highest) × Unclosing closing × (number e ≡ 10))
