-- One bit more doubles the number and adds the bit.
use Rattle.std.proofs.Common.{◌≡◌, ◌+◌, ◌*◌, ◌≤◌, false, get_or, ap, ◌∙◌, add-one, arith, pow_mono}
use mir.Val.{bool_byte}
use Rattle.telegram.specs.Digits.{part, part_lt, value}
use Rattle.telegram.specs.Rows.{row_bits}
use Rattle.telegram.specs.Numbers.{listed_more, value-push}
use Rattle.telegram.proofs.row.Row.field.Goals as goal

pub loop-k-preserved : goal.loop-k-preserved
loop-k-preserved c =
    let w = row_bits c.args.self.now in
    let from = c.args.from in
    let k = c.loop-k.k in
    let more = ap value (ap (λ n. part from n w) (add-one k) ∙ listed_more (λ i. get_or w (from + i) false) k) ∙ value-push (part from k w) (get_or w (from + k) false) in
    let bit = ap bool_byte c.bit.ensures in
    let same : 2 * c.loop-k.number + c.from.result ≡ value (part from (k + 1) w) = omega (arith, more, bit, c.from.ensures, c.loop-k.invariant.0) in
    let room : k + 1 ≤ 8 = omega arith in
    (same, omega (arith, part_lt from (k + 1) w, pow_mono room))

pub returns : goal.returns
returns c =
    let w = row_bits c.args.self.now in
    let all : value (part c.args.from c.loop-k.k w) ≡ value (part c.args.from c.args.width w) = ap (λ n. value (part c.args.from n w)) (omega arith) in
    let is = c.loop-k.invariant.0 ∙ all in
    record { value = is; low = omega (arith, is, part_lt c.args.from c.args.width w) }
