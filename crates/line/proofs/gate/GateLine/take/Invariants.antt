-- What the gate means stays while it drops pulses, and each dropped one leaves fewer below.
use Rattle.std.proofs.Common.{◌≡◌, length}
use Rattle.line.specs.Gates.{gated}
use Rattle.line.proofs.gate.GateLine.take.Given as goal

abbrev pub invariant-loop-event : goal.invariant-loop-event
invariant-loop-event g l =
    (l.self.threshold ≡ l.initial.self.threshold) ×
    (gated l.self.threshold (g.L.Line.waits l.self.below) ≡ gated l.initial.self.threshold (g.L.Line.waits l.initial.self.below)) ×
    (g.L.Line.ending l.self.below ≡ g.L.Line.ending l.initial.self.below)

abbrev pub decreases-loop-event : goal.decreases-loop-event
decreases-loop-event g l = length (g.L.Line.waits l.self.below)
