-- Each law of reading follows from the laws of the kind.
use Rattle.train.proofs.Reading.{reading}
use Rattle.train.proofs.reader.Train.read.Goals as goal

pub returns-in_err-hear-clause-laws : goal.returns-in_err-hear-clause-laws
returns-in_err-hear-clause-laws g c = let laws = g.met.K.Kind in reading _ _ _ laws.least laws.most laws.long laws.ends laws.even laws.back laws.forth
