-- Events as words: those of a sender.
use Rattle.std.proofs.Common.{◌≡◌, ℕ, Bool, List, [], ◌∷◌, ◌++◌, map, ap, ◌∙◌, arith}
use Rattle.std.specs.List.{flat_map}
use Rattle.std.proofs.lemmas.List.Concat.{flat_map_single}
use Rattle.line.specs.declared.event.Event.{Event}
use Rattle.line.specs.declared.event.Height.{Height}
use Rattle.telegram.specs.declared.closing.Closing.{Closing}
use Rattle.telegram.specs.Closings.{closing_ticks}
use Rattle.line.specs.Events.{height, ticks}
use Rattle.line.specs.Words.{word_of}
use Rattle.line.proofs.Same.{same_height, same_ticks}
use Rattle.telegram.specs.Coding.{slots}
use Rattle.telegram.specs.Sending.{sent}
use Rattle.asisend.specs.Recording.{EventsPushed, pulse_mv, row_events}

-- a height and ticks are known by their numbers
pub sent_events : (h : Height) (c : Closing) (w : List Bool) → h.mv ≡ pulse_mv → sent h c.ticks (slots w) ≡ row_events w (closing_ticks c)
unfolding row_events
sent_events h c w e =
    let some = c.ticks.some in
    let few = c.ticks.few in
    let a : h ≡ height pulse_mv = same_height _ _ e in
    let b : c.ticks ≡ ticks (closing_ticks c) = same_ticks _ _ (omega arith) in
    λ i. sent (a i) (b i) (slots w)

pub sent_words : (h : Height) (c : Closing) (w : List Bool) (es : List Event) (ws ws' : List ℕ) → h.mv ≡ pulse_mv → es ≡ sent h c.ticks (slots w) → ws' ≡ ws ++ flat_map (λ e. word_of e ∷ []) es → EventsPushed ws (row_events w (closing_ticks c)) ws'
sent_words h c w es ws ws' high list put = put ∙ ap (λ l. ws ++ l) (flat_map_single word_of es ∙ ap (map word_of) (list ∙ sent_events h c w high))
