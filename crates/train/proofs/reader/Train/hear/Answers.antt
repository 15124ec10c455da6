-- The first k pulses and the next one are the first k + 1.
use Rattle.std.proofs.Common.{rules}
use Rattle.train.proofs.Hearing.{errs_next, tells_next}
use Rattle.train.proofs.reader.Train.hear.Goals as goal

pub returns-in_err-sound-2 : goal.returns-in_err-sound-2
returns-in_err-sound-2 c =
    let first = errs_next _ _ _ _ _ _ c.loop-pulse-test.true c.loop-pulse.invariant c.in_err-sound-2.ensures.value in
    search rules

pub loop-pulse-preserved : goal.loop-pulse-preserved
loop-pulse-preserved c = tells_next _ _ _ _ _ _ c.loop-pulse-test.true c.loop-pulse.invariant c.in_ok-sound-2.ensures.value
