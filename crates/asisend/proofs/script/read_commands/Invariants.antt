-- What was read and what is left are the text.
use Rattle.std.proofs.Common.{vec_items}
use Rattle.std.specs.Slice.Iter.{split_inclusive_rest}
use Rattle.asisend.specs.Scripts.{Begins}
use Rattle.asisend.proofs.script.read_commands.Given as goal

abbrev pub invariant-loop-part : goal.invariant-loop-part
invariant-loop-part l = Begins l.text (vec_items l.commands) (split_inclusive_rest l.part-iterator)
