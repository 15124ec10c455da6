-- Each part holds the first line of what is left.
use Rattle.std.proofs.Common.{◌==◌, rules, tests, arith}
use Rattle.std.proofs.lemmas.Fn.{always_returns_same}
use Rattle.std.proofs.lemmas.Grind.{common_steps}
use Rattle.std.proofs.lemmas.Result.{err_from_is_err_and}
use Rattle.asisend.proofs.Cuts.{first_part}
use Rattle.asisend.proofs.Texts.{not_read}
use Rattle.asisend.proofs.script.read_commands.Goals as goal

pub returns-in_err-read_line : goal.returns-in_err-read_line
returns-in_err-read_line c =
    let cut = c.in-Some.ensures.steps in
    let first = first_part _ _ _ c.line_in.result.now cut.1.0 cut.0 cut.1.1 (cut.1.2 (λ b. b == 10) (always_returns_same _ _ _ (λ a r f k. search (rules, tests)))).1 c.line_in.ensures in
    let p = err_from_is_err_and c.from_residual.result c.from_residual.ensures.1 in
    rw (p.1, p.2) (not_read _ _ _ _ _ _ c.loop-part.invariant cut.2 first c.in_err-read_line.ensures)

pub loop-part-preserved : goal.loop-part-preserved
loop-part-preserved c =
    let cut = c.in-Some.ensures.steps in
    let first = first_part _ _ _ c.line_in.result.now cut.1.0 cut.0 cut.1.1 (cut.1.2 (λ b. b == 10) (always_returns_same _ _ _ (λ a r f k. search (rules, tests)))).1 c.line_in.ensures in
    let added = c.in_ok-read_line.ensures in
    grind (arith, common_steps)
