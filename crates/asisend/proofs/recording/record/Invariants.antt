-- The words so far are those of the commands so far.
use Rattle.std.proofs.Common.{◌≡◌, map, take}
use Rattle.line.specs.Words.{word_of}
use Rattle.asisend.specs.Recording.{script_events}
use Rattle.asisend.proofs.recording.record.Given as goal

abbrev pub invariant-loop-command : goal.invariant-loop-command
invariant-loop-command l = l.sink.list.items ≡ map word_of (script_events (take l.command-index l.commands))
