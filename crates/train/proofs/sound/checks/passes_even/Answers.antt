-- The first even slot past slot m is 2 (m / 2) + 2.
use Rattle.std.proofs.Common.{◌+◌, ◌/◌, arith}
use Rattle.std.proofs.lemmas.Bool.Decides.{nat_tests}
use Rattle.train.proofs.sound.checks.passes_even.Goals as goal

pub returns-clause-value : goal.returns-clause-value
returns-clause-value c =
    (λ e. (c.args.before / 2 + 1, grind (arith, nat_tests), grind (arith, nat_tests)), λ k. grind (arith, nat_tests, k.1, k.2))
