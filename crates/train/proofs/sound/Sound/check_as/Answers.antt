-- The bits kept are the row of the train where its last slot is good.
use Rattle.std.proofs.Common.{arith}
use Rattle.train.proofs.Resting.{rested_at}
use Rattle.train.proofs.sound.Sound.check_as.Goals as goal

pub returns : goal.returns
returns g c = let k = g.met.K.Kind in rested_at _ _ _ _ (omega (arith, k.least)) k.most c.good_slot.ensures c.check_rest.ensures
