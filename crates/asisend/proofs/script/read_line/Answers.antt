-- The command that was read is the one that was added.
use Rattle.std.proofs.Common.{rules}
use Rattle.asisend.proofs.script.read_line.Goals as goal

pub returns : goal.returns
returns c = (c.in_ok-command.command, search rules, c.in_ok-push.ensures.items)
