-- What taking from a line means.
--
-- Took es end r es' end'   a line in which es waited, and that ends by end, answered r and now has es' and end':
--                            an event   it was the first that waited, just that one is gone, and the ending stays;
--                            none       nothing waited, the line is dry, and stays so;
--                            a fault    nothing waited, the line is broken by it, and stays so
-- Takes waits ending l r l'   the same of a line l that became l', by what waits in each and how each ends
use Rattle.std.specs.Prelude.{◌≡◌, List, [], ◌∷◌, Some, None, Ok, Err, Option, Result}
use Rattle.line.specs.Endings.{Ending, dry}
use Rattle.line.specs.declared.ending.LineFault.{LineFault}
use Rattle.line.specs.declared.event.Event.{Event}

abbrev pub Took : List Event → Ending → Result (Option Event) LineFault → List Event → Ending → Type 0
Took es end (Ok (Some e)) es' end' = (es ≡ e ∷ es') × (end' ≡ end)
Took es end (Ok None) es' end' = (es ≡ []) × (end ≡ dry) × (es' ≡ []) × (end' ≡ dry)
Took es end (Err f) es' end' = (es ≡ []) × (end ≡ Err f) × (es' ≡ []) × (end' ≡ Err f)

abbrev pub Takes : {L : Type 0} → (L → List Event) → (L → Ending) → L → Result (Option Event) LineFault → L → Type 0
Takes waits ending l r l' = Took (waits l) (ending l) r (waits l') (ending l')
