-- A word within the recording is the next one.
use Rattle.std.proofs.Common.{◌≡◌, get_or, subst, rules}
use Rattle.std.specs.Option.{IfSome}
use Rattle.line.proofs.Reading.{begins_more}
use Rattle.line.proofs.recording.Recording.next_word.Goals as goal

pub returns : goal.returns
returns c =
    let s = c.args.self.now in
    let got = c.in_ok-word.ensures.ok_part in
    let is = subst (λ r. IfSome r (λ x. x.now ≡ get_or s.words.now s.at x.now)) got c.get.ensures.lookup.1 in
    begins_more s.words.now s.at c.in_ok-word.word.now c.read_word.result (search rules) is c.read_word.ensures
