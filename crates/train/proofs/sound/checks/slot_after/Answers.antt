-- A pulse is in one slot at most.
use Rattle.std.proofs.Common.{rules}
use Rattle.train.proofs.Checking.{filter_after}
use Rattle.train.proofs.sound.checks.slot_after.Goals as goal

pub returns : goal.returns
returns c = filter_after _ _ _ _ (λ x b k. search rules) c.slot_of.ensures.value c.filter.ensures
