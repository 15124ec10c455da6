-- Where the information is missing, the bytes have no shape.
use Rattle.std.proofs.Common.{rules}
use Rattle.asisend.proofs.Shapes.{no_information}
use Rattle.asisend.proofs.parsing.request.Goals as goal

pub returns-in_err-information : goal.returns-in_err-information
returns-in_err-information c =
    let not = no_information _ _ _ c.in_ok-control.ensures _ _ c.in_ok-address.ensures c.in_err-information.ensures.0 in
    search rules
