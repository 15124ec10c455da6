-- The text of a bad line is what is written.
use Rattle.asisend.proofs.failure.FailureDisplay.fmt.Goals as goal

pub returns-in-BadLine-clause-writes : goal.returns-in-BadLine-clause-writes
returns-in-BadLine-clause-writes g c = rw (c.in-BadLine.is, ← c.number-number.ensures) c.write-in-BadLine.ensures.writes
