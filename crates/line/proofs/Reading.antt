-- One word more of a recording: what is left from word i on begins with what word i says.
use Rattle.std.proofs.Common.{◌≡◌, ℕ, ◌+◌, ◌<◌, List, length, get_or, sym, ap, ◌∙◌, Ok, Err}
use Rattle.std.proofs.lemmas.List.{at_drop_more}
use Rattle.line.specs.Decoding.{Begins, Content, Stands, content, decoded, from, then}
use Rattle.line.specs.Words.{Says, Word}
use Rattle.line.proofs.Decoded.{says_decoded}

begins : (n : ℕ) (ws : List ℕ) (x : Word) → Stands n (length ws) x → from n ws ≡ then x n (from (n + 1) ws) → Begins n ws x
begins n ws x s is = record { stands = s; events = ap (λ (c : Content). c.events) is; ending = ap (λ (c : Content). c.ending) is }

stands : (n k : ℕ) (x : Word) → n < k → Stands n k x
stands n k (Ok x) h = h
stands n k (Err f) h = tt

pub begins_more : (ws : List ℕ) (i w : ℕ) (x : Word) → i < length ws → w ≡ get_or ws i w → Says i w x → Begins i ws x
begins_more ws i w x within is says =
    begins i ws x (stands i (length ws) x within)
    (at_drop_more (content i) ws i w within ∙ ap (λ k. then k i (from (i + 1) ws)) (ap (decoded i) (sym is) ∙ says_decoded i w x says))
