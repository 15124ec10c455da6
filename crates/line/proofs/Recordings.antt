-- The decoding is what the words record, and nothing else is: by induction on the words, and on the events.
use Rattle.std.proofs.Common.{◌≡◌, ℕ, ◌+◌, List, [], ◌∷◌, ◌++◌, map, sym, refl, ap, ◌∙◌, subst, arith, Some, None, Ok, Err}
use Rattle.line.specs.Endings.{Ending, dry}
use Rattle.line.specs.declared.event.Event.{Event}
use Rattle.line.specs.Decoding.{Content, content, decoded, from, then}
use Rattle.line.specs.Recorded.{Ends, Recorded, Records}
use Rattle.line.specs.Words.{Says, Word, word_of}
use Rattle.line.proofs.Decoded.{decoded_says, says_decoded}

-- where nothing was read yet, the place is that of the first word
at_once : (n : ℕ) (ws : List ℕ) (end : Ending) → Ends n ws end → Recorded n ws [] end
at_once n ws end h = (ws, refl, subst (λ k. Ends k ws end) (omega arith) h)

one_more : (n w : ℕ) (ws : List ℕ) (e : Event) (k : Content) → w ≡ word_of e → Recorded (n + 1) ws k.events k.ending → Recorded n (w ∷ ws) (e ∷ k.events) k.ending
one_more n w ws e k is h =
    (h.0, (λ i. is i ∷ h.1 i), subst (λ m. Ends m h.0 k.ending) (omega arith) h.2)

by_word : (n w : ℕ) (ws : List ℕ) (k : Content) (x : Word) → Says n w x → Recorded (n + 1) ws k.events k.ending → Recorded n (w ∷ ws) (then x n k).events (then x n k).ending
by_word n w ws k (Ok (Some e)) m h = one_more n w ws e k m h
by_word n w ws k (Ok None) m h = at_once n (w ∷ ws) dry m
by_word n w ws k (Err f) m h = at_once n (w ∷ ws) _ (f, m, refl)

stands : (n : ℕ) (ws : List ℕ) → Recorded n ws (content n ws).events (content n ws).ending
stands n [] = at_once n [] _ refl
stands n (w ∷ ws) = by_word n w ws (content (n + 1) ws) (decoded n w) (decoded_says n w) (stands (n + 1) ws)

ended : (n : ℕ) (ws : List ℕ) (end : Ending) → Ends n ws end → content n ws ≡ record { events = []; ending = end }
ended n [] end h = ap (λ x. record { events = []; ending = x }) (sym h)
ended n (w ∷ ws) (Ok u) h = ap (λ x. then x n (content (n + 1) ws)) (says_decoded n w (Ok None) h)
ended n (w ∷ ws) (Err b) h = ap (λ x. then x n (content (n + 1) ws)) (says_decoded n w (Err h.0) h.1) ∙ ap (λ x. record { events = []; ending = Err x }) (sym h.2)

alone : (n : ℕ) (ws : List ℕ) (es : List Event) (end : Ending) → Recorded n ws es end → content n ws ≡ record { events = es; ending = end }
alone n ws [] end h = ap (content n) h.1 ∙ ended n h.0 end (subst (λ k. Ends k h.0 end) (omega arith) h.2)
alone n ws (e ∷ es) end h =
    let rest = map word_of es ++ h.0 in
    let more = alone (n + 1) rest es end (h.0, refl, subst (λ k. Ends k h.0 end) (omega arith) h.2) in
    ap (content n) h.1 ∙ ap (λ x. then x n (content (n + 1) rest)) (says_decoded n (word_of e) (Ok (Some e)) refl) ∙ ap (λ (c : Content). record { events = e ∷ c.events; ending = c.ending }) more

pub records : (ws : List ℕ) → Records ws (from 0 ws)
records ws = record {
  stands = stands 0 ws;
  alone = λ es end h. (sym (ap (λ (c : Content). c.events) (alone 0 ws es end h)), sym (ap (λ (c : Content). c.ending) (alone 0 ws es end h)));
}
