-- Each law of reading follows from the laws of the kind.
use Rattle.train.specs.Laws.{Reads}
use Rattle.train.proofs.Reading.{reading}
use Rattle.train.proofs.sound.Sound.read.Given.{Over}
use Rattle.train.proofs.sound.Sound.read.Goals as goal

laws : (g : Over) → Reads g.K.Kind.BITS g.K.Kind.row_of g.K.Kind.record_of
laws g = let k = g.met.K.Kind in reading _ _ _ k.least k.most k.long k.ends k.even k.back k.forth

pub returns-clause-laws : goal.returns-clause-laws
returns-clause-laws g c = laws g

pub returns-in_err-map_err-clause-laws : goal.returns-in_err-map_err-clause-laws
returns-in_err-map_err-clause-laws g c = laws g
