-- After the start stand the bits of the fields so far.
use Rattle.std.proofs.Common.{◌≡◌, false, ◌∷◌, take}
use Rattle.telegram.specs.Rows.{row_bits}
use Rattle.telegram.proofs.row.Row.framed.Given as goal

abbrev pub invariant-loop-bit : goal.invariant-loop-bit
invariant-loop-bit l = row_bits l.row ≡ false ∷ take l.bit-index l.fields
