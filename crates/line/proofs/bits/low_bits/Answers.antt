-- A mask of low ones keeps the remainder by its power of two.
use Rattle.std.proofs.Common.{◌-◌, ap, ◌∙◌}
use lib.Bits.{bit_and}
use Rattle.std.proofs.lemmas.Nat.{and_mask, one_shl}
use Rattle.line.proofs.bits.low_bits.Goals as goal

pub returns : goal.returns
returns c = ap (λ m. bit_and c.args.word (m - 1)) (one_shl c.args.count 32 c.requires) ∙ and_mask c.args.word c.args.count
