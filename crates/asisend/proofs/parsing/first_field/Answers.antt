-- Without a space, or without a number before the first, there is no field.
use Rattle.std.proofs.Common.{rules}
use Rattle.asisend.specs.Cutting.{Cuts}
use Rattle.asisend.proofs.Plainly.{no_number, no_space}
use Rattle.asisend.proofs.parsing.first_field.Goals as goal

pub returns-in_err-read : goal.returns-in_err-read
returns-in_err-read c =
    let cuts : Cuts 32 c.args.bytes.now c.in_ok-parts.parts.front.now c.in_ok-parts.parts.back.now = search rules in
    let none = no_number _ _ _ cuts c.in_err-read.ensures.0 in
    search rules

pub returns-in_err-parts : goal.returns-in_err-parts
returns-in_err-parts c = let none = no_space c.args.bytes.now (search rules) in search rules
