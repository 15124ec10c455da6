-- A pile of three layers over any line.
--
-- bottom p       the line under a gate over a turn over a gate
-- piled p es     what waits in the pile p where es wait at its bottom
-- PileTakes      what taking from the pile means, by what waits at its bottom and how that ends
use Rattle.std.specs.Prelude.{List, map, Option, Result}
use Rattle.line.specs.Endings.{Ending}
use Rattle.line.specs.declared.ending.LineFault.{LineFault}
use Rattle.line.specs.declared.event.Event.{Event}
use Rattle.line.specs.declared.gate.Gate.{Gate}
use Rattle.line.specs.declared.turn.Turn.{Turn}
use Rattle.line.specs.Gates.{gated}
use Rattle.line.specs.Lines.{Takes}
use Rattle.line.specs.Turns.{turned}

module _ {L : Type 0} where
  abbrev pub bottom : Gate (Turn (Gate L)) → L
  bottom p = p.below.below.below

  abbrev pub piled : Gate (Turn (Gate L)) → List Event → List Event
  piled p es = gated p.threshold (map turned (gated p.below.below.threshold es))

  abbrev pub PileTakes : (L → List Event) → (L → Ending) → Gate (Turn (Gate L)) → Result (Option Event) LineFault → Gate (Turn (Gate L)) → Type 0
  PileTakes waits ending p r p' = Takes (λ q. piled q (waits (bottom q))) (λ q. ending (bottom q)) p r p'
