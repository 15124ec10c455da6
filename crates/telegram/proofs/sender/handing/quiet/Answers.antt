-- Quiets of as many ticks are one quiet.
use Rattle.std.proofs.Common.{◌≡◌, ◌*◌, ◌%◌, ◌^◌, ap, subst, mod-eq_of_lt, arith}
use Rattle.line.specs.declared.event.Event.TheVariants.{Quiet}
use Rattle.line.specs.Events.{TicksMade}
use Rattle.line.proofs.Same.{same_ticks}
use Rattle.telegram.proofs.sender.handing.quiet.Goals as goal

pub returns : goal.returns
returns c =
    let made = subst (TicksMade _) c.unwrap.ensures c.try_from.ensures in
    let few = c.requires.1 in
    let whole : 24 * c.args.slots % 2 ^ 30 ≡ 24 * c.args.slots = mod-eq_of_lt (omega arith) in
    ap Quiet (same_ticks _ _ (omega (arith, made.2, whole)))
