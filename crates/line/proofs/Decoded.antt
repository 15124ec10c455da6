-- What the decoding makes of a word is what the word says, and it says nothing else: test by test, then event by event.
use Rattle.std.proofs.Common.{◌≡◌, ℕ, ◌<◌, refl, ap, ◌∙◌, inl, inr, arith, Some, None, Ok, Err}
use Rattle.std.proofs.lemmas.Bool.Decides.{eqb_tells, nat_tests}
use Rattle.line.specs.declared.event.Event.{Event}
use Rattle.line.specs.declared.event.Event.TheVariants.{Pulse, Quiet}
use Rattle.line.specs.declared.event.Polarity.{Polarity}
use Rattle.line.specs.declared.event.Polarity.TheVariants.{Negative, Positive}
use Rattle.line.specs.declared.recording.Flaw.{Flaw}
use Rattle.line.specs.declared.recording.Flaw.TheVariants.{UnknownKind, EmptyQuiet, UsedSpareBits, NoEnd, WrongCount}
use Rattle.line.specs.Decoding.{decoded, end_decoded, polarity, pulse_decoded, quiet_decoded}
use Rattle.line.specs.Events.{height, ticks}
use Rattle.line.specs.Words.{Says, Spoils, Word, amount, kind, side, sign, spare, word_of}
use Rattle.line.proofs.Same.{same_height, same_ticks}

quiet_says : (n w : ℕ) → kind w ≡ 0 → Says n w (quiet_decoded w)
quiet_says n w k = elim (eqb_tells (amount w) 0) [ inl p ↦ rw p.0 (k, p.1) | inr p ↦ rw p.0 (omega (arith, p.1)) ]

sign-side : (w : ℕ) → sign (polarity (side w)) ≡ side w
sign-side w = elim (eqb_tells (side w) 1) [ inl p ↦ rw p.0 (omega arith) | inr p ↦ rw p.0 (omega arith) ]

pulse_says : (n w : ℕ) → kind w ≡ 1 → Says n w (pulse_decoded w)
pulse_says n w k = elim (eqb_tells (spare w) 0) [ inl p ↦ rw p.0 (omega (arith, sign-side w)) | inr p ↦ rw p.0 (k, omega arith) ]

end_says : (n w : ℕ) → kind w ≡ 2 → Says n w (end_decoded n w)
end_says n w k = elim (eqb_tells (amount w) n) [ inl p ↦ rw p.0 (k, p.1) | inr p ↦ rw p.0 (k, p.1) ]

pub decoded_says : (n w : ℕ) → Says n w (decoded n w)
decoded_says n w =
    elim (eqb_tells (kind w) 0) [
      | inl p ↦ rw p.0 (quiet_says n w p.1)
      | inr p ↦ rw p.0 (elim (eqb_tells (kind w) 1) [
        | inl q ↦ rw q.0 (pulse_says n w q.1)
        | inr q ↦ rw q.0 (elim (eqb_tells (kind w) 2) [ inl r ↦ rw r.0 (end_says n w r.1) | inr r ↦ rw r.0 (omega arith) ])
      ])
    ]

-- a word of kind 0 or 1 without a flaw
decoded_quiet : (n w : ℕ) → kind w ≡ 0 → 0 < amount w → decoded n w ≡ Ok (Some (Quiet (ticks w)))
decoded_quiet n w k some = grind (arith, nat_tests)

decoded_pulse : (n w : ℕ) → kind w ≡ 1 → spare w ≡ 0 → decoded n w ≡ Ok (Some (Pulse (polarity (side w)) (height w)))
decoded_pulse n w k none = grind (arith, nat_tests)

sign_below : (p : Polarity) → sign p < 2
sign_below Negative = omega arith
sign_below Positive = omega arith

polarity-sign : (p : Polarity) → polarity (sign p) ≡ p
polarity-sign Negative = refl
polarity-sign Positive = refl

decoded_event : (n : ℕ) (e : Event) → decoded n (word_of e) ≡ Ok (Some e)
decoded_event n (Quiet t) = decoded_quiet n t.count (omega arith) (omega arith) ∙ ap (λ x. Ok (Some (Quiet x))) (same_ticks _ t (omega arith))
decoded_event n (Pulse p h) =
    let w = word_of (Pulse p h) in
    let b = sign_below p in
    let s : side w ≡ sign p = omega arith in
    let m : height w ≡ h = same_height _ h (omega arith) in
    decoded_pulse n w (omega arith) (omega arith) ∙ (λ i. Ok (Some (Pulse ((ap polarity s ∙ polarity-sign p) i) (m i))))

decoded_bad : (f : Flaw) (n w : ℕ) → Spoils f n w → decoded n w ≡ Err f
decoded_bad UnknownKind n w h = grind (arith, nat_tests)
decoded_bad EmptyQuiet n w h = grind (arith, nat_tests)
decoded_bad UsedSpareBits n w h = grind (arith, nat_tests)
decoded_bad NoEnd n w h = absurd h
decoded_bad WrongCount n w h = grind (arith, nat_tests)

pub says_decoded : (n w : ℕ) (x : Word) → Says n w x → decoded n w ≡ x
says_decoded n w (Ok (Some e)) h = ap (decoded n) h ∙ decoded_event n e
says_decoded n w (Ok None) h = grind (arith, nat_tests)
says_decoded n w (Err f) h = decoded_bad f n w h
