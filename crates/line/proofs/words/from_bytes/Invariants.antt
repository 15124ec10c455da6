-- After k turns the first k words are written, and the others are as they were.
use Rattle.std.proofs.Common.{◌≡◌, ◌++◌, take, drop}
use Rattle.line.specs.Bytes.{words_of}
use Rattle.line.proofs.words.from_bytes.Given as goal

abbrev pub invariant-loop-k : goal.invariant-loop-k
invariant-loop-k l = l.words ≡ take l.k (words_of l.bytes) ++ drop l.k l.initial.words
