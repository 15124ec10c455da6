-- Whole lines, put where events are kept.
--
-- Poured   what putting the events of a line did: what waits in a line, how a line ends and what an event is kept as; the line l with
--          the numbers ns kept before, the answer, the line l' with the numbers ns' kept after
use Rattle.std.specs.Prelude.{◌≡◌, ℕ, List, [], ◌++◌}
use Rattle.std.specs.List.{flat_map}
use Rattle.line.specs.Endings.{Ending}
use Rattle.line.specs.declared.event.Event.{Event}

pub record Poured {L : Type 0} (waits : L → List Event) (ending : L → Ending) (kept_as : Event → List ℕ) (l : L) (ns : List ℕ) (answer : Ending) (l' : L) (ns' : List ℕ) : Type 0 where
  pub value : answer ≡ ending l
  pub kept : ns' ≡ ns ++ flat_map kept_as (waits l)
  pub left : waits l' ≡ []
  pub same : ending l' ≡ ending l
