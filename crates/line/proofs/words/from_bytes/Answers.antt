-- A turn writes word k over the front.
use Rattle.std.proofs.Common.{◌≡◌, ◌/◌, ◌<◌, length, length-take, take, set, [], get_or, sym, ap, ◌∙◌, arith}
use Rattle.line.specs.Bytes.{word_at, words_of}
use Rattle.line.proofs.Fronts.{front_more}
use Rattle.line.proofs.Packing.{chunk_word, length-words_of, get_or-words_of}
use Rattle.line.proofs.words.from_bytes.Goals as goal

pub loop-k-preserved : goal.loop-k-preserved
loop-k-preserved c =
    let bs = c.args.bytes.now in
    let n = length bs / 4 in
    let m = c.min-count.result in
    let k = c.loop-k.k in
    let x = c.word_in.result in
    let chunks = c.as_chunks.result.0.now in
    let all : length chunks ≡ n = c.as_chunks.ensures.front_len in
    let cut = length-take m chunks in
    let within : k < m = omega arith in
    let lt : k < n = omega arith in
    let is = c.word_in.ensures ∙ ap (λ s. word_at (get_or (take m s) k []) 0) c.as_chunks.ensures.front ∙ chunk_word bs m n k within lt in
    ap (λ l. set l k x) c.loop-k.invariant ∙ front_more (words_of bs) c.args.words.now k x (omega (arith, length-words_of bs)) (omega arith) (is ∙ sym (get_or-words_of bs k x lt))
