-- One bit more turns the parity of the sum if it is 1.
use Rattle.std.proofs.Common.{false, not, get_or, sym, ap, ◌∙◌}
use mathlib.Core.Bool.{beq}
use Rattle.std.proofs.lemmas.List.{take_more}
use Rattle.telegram.specs.Bits.{odd}
use Rattle.telegram.specs.Numbers.{odd-push}
use Rattle.telegram.proofs.bits.parity.Goals as goal

pub loop-bit-preserved : goal.loop-bit-preserved
loop-bit-preserved c =
    let i = c.loop-bit.bit-index in
    let bits = c.args.bits.now in
    ap (λ o. not (beq o (get_or bits i false))) c.loop-bit.invariant ∙ sym (ap odd (take_more bits i false c.loop-bit-test.true) ∙ odd-push _ _)
