-- After k pulses what is kept tells the train of the first k.
use Rattle.std.proofs.Common.{take}
use Rattle.train.specs.Sounds.{Tells}
use Rattle.train.proofs.reader.Train.hear.Given as goal

abbrev pub invariant-loop-pulse : goal.invariant-loop-pulse
invariant-loop-pulse l = Tells l.sound (record { first = l.self.first; later = take l.pulse-index l.pulse-items })
