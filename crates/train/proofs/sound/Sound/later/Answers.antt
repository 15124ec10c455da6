-- What is kept of a train goes by its last pulse.
use Rattle.train.proofs.Growing.{keeps}
use Rattle.train.proofs.sound.Sound.later.Goals as goal

pub returns-clause-value : goal.returns-clause-value
returns-clause-value c = keeps _ _ _ c.with.ensures
