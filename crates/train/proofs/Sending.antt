-- What a sender hands over is heard as one train of its row: each quiet brings the clock from one slot's tick to another's, one or
-- two slots on, which is less than a rest.
use Rattle.std.proofs.Common.{◌≡◌, ℕ, ◌+◌, ◌*◌, ◌%◌, ◌^◌, ◌<◌, ◌≤◌, Bool, true, false, List, [], ◌∷◌, Some, None, Option, refl, ap, true≢false, mod-eq_of_lt, arith}
use Rattle.line.specs.declared.event.Height.{Height}
use Rattle.line.specs.declared.event.Polarity.{Polarity}
use Rattle.line.specs.declared.event.Polarity.TheVariants.{Negative}
use Rattle.line.specs.declared.event.Ticks.{Ticks}
use Rattle.line.specs.Events.{ticks}
use Rattle.telegram.specs.Bits.{Proper}
use Rattle.telegram.specs.Coding.{after, gap, polarity, slots}
use Rattle.telegram.specs.Sending.{onward, sent}
use Rattle.train.specs.declared.pulse.TimedPulse.{TimedPulse}
use Rattle.train.specs.Carried.{Stands, TrainOf, on_time}
use Rattle.train.specs.Heard.{Hears, Tight, clock, rest, stamps}
use Rattle.train.specs.Trains.{Train, last}

stands : (s : List (Option Polarity)) (n : ℕ) → 1 ≤ n → Stands n s (on_time n s)
stands [] n h = tt
stands (None ∷ s) n h = stands s (n + 1) (omega arith)
stands (Some p ∷ s) n h = (record { later = h; early = omega arith; late = omega arith }, refl, stands s (n + 1) (omega arith))

-- from g slots after a pulse on, each next pulse comes at most two slots after the one before
abbrev Close : ℕ → List (Option Polarity) → Type 0
Close g [] = Unit {0}
Close g (None ∷ s) = (g < 2) × Close (g + 1) s
Close g (Some p ∷ s) = Close 1 s

close_after : (a : Bool) (w : List Bool) → Close 1 (after a w)
close_after a [] = tt
close_after a (b ∷ w) = go (gap a b) (close_after b w)
  where
    go : (v : Option Polarity) → Close 1 (after b w) → Close 1 (v ∷ Some (polarity b) ∷ after b w)
    go None k = (omega arith, k)
    go (Some p) k = k

few_ticks : (g : ℕ) → 1 ≤ g → g ≤ 2 → (ticks (24 * g)).count ≡ 24 * g
few_ticks g some few = let whole : 24 * g % 2 ^ 30 ≡ 24 * g = mod-eq_of_lt (omega arith) in omega (arith, whole)

module _ (h : Height) (c : Ticks) where
  stamped : (s : List (Option Polarity)) (g m n t : ℕ) → 1 ≤ g → g ≤ 2 → Close g s → t ≡ 24 * m → n ≡ m + g → stamps t (onward h c g s) ≡ on_time n s
  stamped [] g m n t some few q e f = refl
  stamped (None ∷ s) g m n t some few q e f = stamped s (g + 1) m (n + 1) t (omega arith) (omega (arith, q.0)) q.1 e (omega arith)
  stamped (Some p ∷ s) g m n t some few q e f =
      let here : t + (ticks (24 * g)).count ≡ 24 * n = omega (arith, few_ticks g some few) in
      let more = stamped s 1 n (n + 1) (t + (ticks (24 * g)).count) (omega arith) (omega arith) q here refl in
      grind (arith, here, more)

  clocked : (s : List (Option Polarity)) (g m n t : ℕ) (y : TimedPulse) → 1 ≤ g → g ≤ 2 → Close g s → t ≡ 24 * m → y.t ≡ t → n ≡ m + g → clock t (onward h c g s) ≡ (last y (on_time n s)).t + c.count
  clocked [] g m n t y some few q e z f = omega arith
  clocked (None ∷ s) g m n t y some few q e z f = clocked s (g + 1) m (n + 1) t y (omega arith) (omega (arith, q.0)) q.1 e z (omega arith)
  clocked (Some p ∷ s) g m n t y some few q e z f =
      let here : t + (ticks (24 * g)).count ≡ 24 * n = omega (arith, few_ticks g some few) in
      clocked s 1 n (n + 1) (t + (ticks (24 * g)).count) (record { t = 24 * n; polarity = p }) (omega arith) (omega arith) q here (omega (arith, here)) refl

tight : (s : List (Option Polarity)) (g m n : ℕ) (y : TimedPulse) → g ≤ 2 → Close g s → y.t ≡ 24 * m → n ≡ m + g → Tight y (on_time n s)
tight [] g m n y few q e f = tt
tight (None ∷ s) g m n y few q e f = tight s (g + 1) m (n + 1) y (omega (arith, q.0)) q.1 e (omega arith)
tight (Some p ∷ s) g m n y few q e f = (omega arith, tight s 1 n (n + 1) (record { t = 24 * n; polarity = p }) (omega arith) q refl refl)

-- The list of a row that a telegram may have is heard as one train of it
pub heard : (n : ℕ) (w : List Bool) → 1 ≤ n → Proper n w → (h : Height) (c : Ticks) → rest ≤ c.count → (u : Train) × Hears (sent h c (slots w)) u × TrainOf w u
heard n [] some p h c long = absurd (omega (arith, p.long))
heard n (true ∷ w) some p h c long = absurd (true≢false p.ends.start)
heard n (false ∷ w) some p h c long =
    let s = after false w in
    let near = close_after false w in
    let first : TimedPulse = record { t = 0; polarity = Negative } in
    let u : Train = record { first = Negative; later = on_time 1 s } in (
      u,
      record {
        pulses = ap (λ l. first ∷ l) (stamped h c s 1 0 1 0 (omega arith) (omega arith) near refl refl);
        tight = tight s 1 0 1 first (omega arith) near refl refl;
        over = omega (arith, clocked h c s 1 0 1 0 first (omega arith) (omega arith) near refl refl refl);
      },
      (refl, stands s 1 (omega arith)),
    )
