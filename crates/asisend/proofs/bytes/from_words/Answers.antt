-- The bytes of all words are written, and each word fits 32 bits.
use Rattle.std.proofs.Common.{vec_items}
use Rattle.asisend.proofs.LowFirst.{written}
use Rattle.asisend.proofs.bytes.from_words.Goals as goal

pub returns : goal.returns
returns c = written _ (vec_items c.loop-word.bytes) _ c.loop-word-test.false c.loop-word.invariant c.type_inv.words
