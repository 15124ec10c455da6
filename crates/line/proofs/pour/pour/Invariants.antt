-- What is kept and what is still to be put stay one list, and each turn leaves one event fewer.
use Rattle.std.proofs.Common.{◌≡◌, ◌++◌, length}
use Rattle.std.specs.List.{flat_map}
use Rattle.line.proofs.pour.pour.Given as goal

abbrev pub invariant-loop-taken : goal.invariant-loop-taken
invariant-loop-taken g l =
    (g.S.Sink.kept l.sink ++ flat_map g.S.Sink.kept_as (g.L.Line.waits l.line) ≡ g.S.Sink.kept l.initial.sink ++ flat_map g.S.Sink.kept_as (g.L.Line.waits l.initial.line)) ×
    (g.L.Line.ending l.line ≡ g.L.Line.ending l.initial.line)

abbrev pub decreases-loop-taken : goal.decreases-loop-taken
decreases-loop-taken g l = length (g.L.Line.waits l.line)
