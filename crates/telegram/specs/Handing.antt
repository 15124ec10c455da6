-- What a sender still hands over, by what it keeps.
--
-- waiting h c d n w   what a sender of the row w still hands over, where d is due: the pulse of slot n, what follows on it, or nothing. h is
--                     the height of all pulses, c the closing quiet
-- First w d           d is what is due first of the row w, if anything is
-- Onward n w x        after slot n of the row w comes a pulse, some slots further on
-- Next n w x          what comes after slot n of the row w: such a pulse, or the closing quiet
use Rattle.std.specs.Prelude.{◌≡◌, ℕ, ◌+◌, ◌*◌, ◌≤◌, Bool, List, [], ◌∷◌, drop, Some, None, Option}
use Rattle.line.specs.declared.event.Event.{Event}
use Rattle.line.specs.declared.event.Event.TheVariants.{Pulse, Quiet}
use Rattle.line.specs.declared.event.Height.{Height}
use Rattle.line.specs.declared.event.Ticks.{Ticks}
use Rattle.line.specs.Events.{ticks}
use Rattle.telegram.specs.declared.sender.Due.{Due}
use Rattle.telegram.specs.declared.sender.Due.TheVariants as due
use Rattle.telegram.specs.declared.sender.Step.{Step}
use Rattle.telegram.specs.Coding.{slots}
use Rattle.telegram.specs.Sending.{onward, sent, slot_ticks}

abbrev pub waiting : Height → Ticks → Option Due → ℕ → List Bool → List Event
waiting h c (Some (due.Pulse p)) n w = Pulse p h ∷ onward h c 1 (drop (n + 1) (slots w))
waiting h c (Some due.Quiet) n w = onward h c 1 (drop (n + 1) (slots w))
waiting h c None n w = []

abbrev pub First : List Bool → Option Due → Type 0
First w d = (h : Height) (c : Ticks) → waiting h c d 0 w ≡ sent h c (slots w)

abbrev pub Onward : ℕ → List Bool → Step → Type 0
Onward n w x = (h : Height) (c : Ticks) → waiting h c (Some due.Quiet) n w ≡ Quiet (ticks (slot_ticks * x.slots)) ∷ waiting h c (Some (due.Pulse x.polarity)) (n + x.slots) w

abbrev pub Next : ℕ → List Bool → Option Step → Type 0
Next n w (Some x) = (n + x.slots ≤ 26) × (1 ≤ x.slots) × (x.slots ≤ 2) × Onward n w x
Next n w None = (h : Height) (c : Ticks) → waiting h c (Some due.Quiet) n w ≡ Quiet c ∷ []
