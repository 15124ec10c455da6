-- After k bits their number is known.
use Rattle.std.proofs.Common.{◌≡◌, ◌<◌}
use Rattle.telegram.specs.Digits.{part, value}
use Rattle.telegram.specs.Rows.{row_bits}
use Rattle.telegram.proofs.row.Row.field.Given as goal

abbrev pub invariant-loop-k : goal.invariant-loop-k
invariant-loop-k l = (l.number ≡ value (part l.from l.k (row_bits l.self))) × (l.number < 256)
