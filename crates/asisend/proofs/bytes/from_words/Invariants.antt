-- The bytes so far are those of the words so far.
use Rattle.std.proofs.Common.{◌≡◌, take, vec_items}
use Rattle.asisend.specs.Bytes.{bytes_of}
use Rattle.asisend.proofs.bytes.from_words.Given as goal

abbrev pub invariant-loop-word : goal.invariant-loop-word
invariant-loop-word l = vec_items l.bytes ≡ bytes_of (take l.word-index l.words)
