-- The library's suffix, read as a list's end.
use Rattle.std.proofs.Common.{[], ◌∷◌, rules}
use Rattle.std.proofs.lemmas.Slice.Eq.{strip_suffix_is}
use Rattle.std.proofs.lemmas.Bool.Decides.{Decides-eqb}
use Rattle.asisend.proofs.script.line_in.Goals as goal

pub returns : goal.returns
returns c = let is = strip_suffix_is Decides-eqb c.args.part.now (10 ∷ []) c.strip_suffix.result c.strip_suffix.ensures.cases in search rules
