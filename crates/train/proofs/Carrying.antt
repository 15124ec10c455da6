-- A sound train that ends in an even slot is the train of one row, and a train of a row is sound: from an even slot a fair pulse
-- is in the next slot, with the opposite polarity, and then stands between equal bits, or it is in the slot after that and is the
-- next bit, which is then the other one.
use Rattle.std.proofs.Common.{◌≡◌, ℕ, ◌+◌, ◌-◌, ◌*◌, ◌/◌, ◌<◌, ◌≤◌, Bool, true, false, not, List, [], ◌∷◌, length, Some, None, Option, sym, refl, ◌∙◌, ⊎_elim, arith}
use Rattle.std.proofs.lemmas.Bool.{cases_eq}
use Rattle.std.proofs.lemmas.Bool.Decides.{nat_tests}
use Rattle.line.specs.declared.event.Polarity.{Polarity}
use Rattle.line.specs.Turns.{opposite}
use Rattle.telegram.specs.Bits.{final}
use Rattle.telegram.specs.Coding.{after, gap, polarity}
use Rattle.train.specs.declared.pulse.TimedPulse.{TimedPulse}
use Rattle.train.specs.Carried.{Stands}
use Rattle.train.specs.Checks.{cause_of, top}
use Rattle.train.specs.Heard.{Tight}
use Rattle.train.specs.Trains.{bits, last, positive}
use Rattle.train.specs.Verdicts.{later_fault}
use Rattle.train.specs.Windows.{InSlot, place}
use Rattle.train.proofs.Checking.{Fair, fair, fair_check, opposite_twice, place_is}

-- without a fault there is none at the first pulse and none later

pub none_at : (n : ℕ) (y x : TimedPulse) (l : List TimedPulse) → later_fault n y (x ∷ l) ≡ None → (cause_of y x ≡ None) × (later_fault (n + 1) x l ≡ None)
none_at n y x l e = grind arith

-- slots only go up
up : (n : ℕ) (y : TimedPulse) (l : List TimedPulse) → later_fault n y l ≡ None → place y.t ≤ place (last y l).t
up n y [] e = omega arith
up n y (x ∷ l) e = let s = none_at n y x l e in omega (arith, (fair _ _ x s.0).past, up (n + 1) x l s.1)

-- a fair pulse is at most two slots on, with its window less than a rest
pub sound_tight : (n : ℕ) (y : TimedPulse) (l : List TimedPulse) → later_fault n y l ≡ None → Tight y l
sound_tight n y [] e = tt
sound_tight n y (x ∷ l) e =
    let s = none_at n y x l e in
    let f = fair _ _ x s.0 in
    (omega (arith, f.near, f.within.late), sound_tight (n + 1) x l s.1)

-- bits and their polarities

polarity-not : (a : Bool) → opposite (polarity a) ≡ polarity (not a)
polarity-not a = grind arith

gap_same : (a : Bool) → gap a a ≡ Some (opposite (polarity a))
gap_same a = grind arith

gap_other : (a : Bool) → gap a (not a) ≡ None
gap_other a = grind arith

-- The pulses l after a bit a in slot m: they carry j bits w more
pub record Row (l : List TimedPulse) (y : TimedPulse) (a : Bool) (n : ℕ) (s : List Bool → List (Option Polarity)) (j : ℕ) : Type 0 where
  pub more : List Bool
  pub long : length more ≡ j
  pub side : (last y l).polarity ≡ polarity (final a more)
  pub stand : Stands n (s more) l

-- from a bit a in an even slot
abbrev pub Even : List TimedPulse → Type 0
Even l = (n : ℕ) (y : TimedPulse) (a : Bool) (k j : ℕ) → place y.t ≡ 2 * k → y.polarity ≡ polarity a → later_fault n y l ≡ None → place (last y l).t ≡ 2 * (k + j) → Row l y a (2 * k + 1) (after a) j

-- from the pulse between two equal bits a, the second of which is still to come
abbrev pub Odd : List TimedPulse → Type 0
Odd l = (n : ℕ) (y : TimedPulse) (a : Bool) (k j : ℕ) → place y.t ≡ 2 * k + 1 → y.polarity ≡ opposite (polarity a) → later_fault n y l ≡ None → place (last y l).t ≡ 2 * (k + j) → Row l y a (2 * k + 1 + 1) (λ w. Some (polarity a) ∷ after a w) (j - 1)

-- the next bit b is the pulse x
bit_here : (x y : TimedPulse) (l : List TimedPulse) (n : ℕ) (b : Bool) (k j : ℕ) → Even l → InSlot (2 * k + 2) x.t → x.polarity ≡ polarity b → later_fault n x l ≡ None → place (last x l).t ≡ 2 * (k + j) → Row (x ∷ l) y b (2 * k + 1 + 1) (λ w. Some (polarity b) ∷ after b w) (j - 1)
bit_here x y l n b k j ih h p e z =
    let is = place_is _ _ h in
    let high = up n x l e in
    let r = ih n x b (k + 1) (j - 1) (omega arith) p e (omega arith) in
    let on : 2 * (k + 1) + 1 ≡ 2 * k + 1 + 1 + 1 = omega arith in
    record {
      more = r.more;
      long = r.long;
      side = r.side;
      stand = (grind (arith, h), p, rw on at r.stand);
    }

-- Sound pulses from a bit in an even slot to an even slot carry a row
pub reads : (l : List TimedPulse) → Even l × Odd l
reads [] =
    (λ n y a k j q p e z. record { more = []; long = omega arith; side = p; stand = tt }, λ n y a k j q p e z. absurd (omega arith))
reads (x ∷ l) = (even (reads l), odd (reads l).0)
  where
    even : Even l × Odd l → Even (x ∷ l)
    even ih n y a k j q p e z =
        let s = none_at n y x l e in
        let f = fair _ _ x s.0 in
        let o : x.polarity ≡ opposite (polarity a) = rw p at f.turned in
        ⊎_elim (again f s.1 o) (turn f s.1 o) (cases_eq (place x.t) (2 * k + 1))
      where
        again : Fair (place y.t) y.polarity x → later_fault (n + 1) x l ≡ None → x.polarity ≡ opposite (polarity a) → place x.t ≡ 2 * k + 1 → Row (x ∷ l) y a (2 * k + 1) (after a) j
        again f g o i =
            let h = rw i at f.within in
            let high = up (n + 1) x l g in
            let r = ih.1 (n + 1) x a k j i o g z in
            record {
              more = a ∷ r.more;
              long = omega (arith, r.long);
              side = r.side;
              stand = rw (gap_same a) (h, o, r.stand);
            }

        turn : Fair (place y.t) y.polarity x → later_fault (n + 1) x l ≡ None → x.polarity ≡ opposite (polarity a) → (place x.t ≡ 2 * k + 1 → ⊥) → Row (x ∷ l) y a (2 * k + 1) (after a) j
        turn f g o i =
            let is : place x.t ≡ 2 * k + 2 = omega (arith, f.past, f.near) in
            let high = up (n + 1) x l g in
            let r = bit_here x y l (n + 1) (not a) k j ih.0 (rw is at f.within) (o ∙ polarity-not a) g z in
            record {
              more = not a ∷ r.more;
              long = omega (arith, r.long);
              side = r.side;
              stand = rw (gap_other a) r.stand;
            }

    odd : Even l → Odd (x ∷ l)
    odd ih n y a k j q p e z =
        let s = none_at n y x l e in
        let f = fair _ _ x s.0 in
        let is : place x.t ≡ 2 * k + 2 = omega (arith, f.past, f.near) in
        bit_here x y l (n + 1) a k j ih (rw is at f.within) (grind (arith, f.turned, p, opposite_twice (polarity a))) s.1 z

-- The pulses l after a bit a in slot 2k, in the slots of the bits w: sound, up to the slot and polarity of the last bit
pub record Sits (n : ℕ) (y : TimedPulse) (l : List TimedPulse) (a : Bool) (w : List Bool) (k : ℕ) : Type 0 where
  pub sound : later_fault n y l ≡ None
  pub ends : place (last y l).t ≡ 2 * (k + length w)
  pub side : (last y l).polarity ≡ polarity (final a w)
  pub seen : bits l ≡ w

pub positive_is : (a : Bool) → positive (polarity a) ≡ a
positive_is a = grind arith

fair_on : (y x : TimedPulse) (m s : ℕ) (p : Polarity) → place y.t ≡ m → y.polarity ≡ p → InSlot s x.t → m < s → s ≤ top → s ≤ 2 * (m / 2) + 2 → x.polarity ≡ opposite p → cause_of y x ≡ None
fair_on y x m s p q e h l t n o = rw (q, e) (fair_check m s p x h l t o n)

-- bits of pulses in odd and even slots
bits_odd : (x : TimedPulse) (l : List TimedPulse) (k : ℕ) → place x.t ≡ 2 * k + 1 → bits (x ∷ l) ≡ bits l
bits_odd x l k e = grind (arith, nat_tests)

bits_even : (x : TimedPulse) (l : List TimedPulse) (k : ℕ) (b : Bool) → place x.t ≡ 2 * k → x.polarity ≡ polarity b → bits (x ∷ l) ≡ b ∷ bits l
bits_even x l k b e p = grind (arith, nat_tests, positive_is b)

abbrev Sitting : List Bool → Type 0
Sitting w = (n : ℕ) (y : TimedPulse) (l : List TimedPulse) (a : Bool) (k : ℕ) → place y.t ≡ 2 * k → y.polarity ≡ polarity a → k + length w ≤ 13 → Stands (2 * k + 1) (after a w) l → Sits n y l a w k

-- a bit b in slot 2k + 2, which is fair after y
sits_bit : (w : List Bool) → Sitting w → (n : ℕ) (y x : TimedPulse) (l : List TimedPulse) (a b : Bool) (k : ℕ) → cause_of y x ≡ None → k + 1 + length w ≤ 13 → InSlot (2 * k + 1 + 1) x.t → x.polarity ≡ polarity b → Stands (2 * k + 1 + 1 + 1) (after b w) l → Sits n y (x ∷ l) a (b ∷ w) k
sits_bit w ih n y x l a b k c low h p s =
    let is : place x.t ≡ 2 * (k + 1) = omega (arith, place_is _ _ h) in
    let on : 2 * k + 1 + 1 + 1 ≡ 2 * (k + 1) + 1 = omega arith in
    let r = ih (n + 1) x l b (k + 1) is p low (rw on at s) in
    record {
      sound = grind (arith, c, r.sound);
      ends = omega (arith, r.ends);
      side = r.side;
      seen = grind (arith, bits_even x l (k + 1) b is p, r.seen);
    }

sits_same : (w : List Bool) → Sitting w → (n : ℕ) (y : TimedPulse) (l : List TimedPulse) (a : Bool) (k : ℕ) → place y.t ≡ 2 * k → y.polarity ≡ polarity a → k + 1 + length w ≤ 13 → Stands (2 * k + 1) (Some (opposite (polarity a)) ∷ Some (polarity a) ∷ after a w) l → Sits n y l a (a ∷ w) k
sits_same w ih n y [] a k q p low s = absurd s
sits_same w ih n y (x ∷ []) a k q p low s = absurd s.2
sits_same w ih n y (x ∷ (z ∷ l)) a k q p low s =
    let is = place_is _ _ s.0 in
    let g = fair_on y x (2 * k) (2 * k + 1) (polarity a) q p s.0 (omega arith) (omega arith) (omega arith) s.1 in
    let t = s.2 in
    let c = fair_on x z (2 * k + 1) (2 * k + 1 + 1) (opposite (polarity a)) is s.1 t.0 (omega arith) (omega arith) (omega arith) (t.1 ∙ sym (opposite_twice (polarity a))) in
    let r = sits_bit w ih (n + 1) x z l a a k c low t.0 t.1 t.2 in
    record {
      sound = grind (arith, g, r.sound);
      ends = r.ends;
      side = r.side;
      seen = bits_odd x (z ∷ l) k is ∙ r.seen;
    }

sits_other : (w : List Bool) → Sitting w → (n : ℕ) (y : TimedPulse) (l : List TimedPulse) (a : Bool) (k : ℕ) → place y.t ≡ 2 * k → y.polarity ≡ polarity a → k + 1 + length w ≤ 13 → Stands (2 * k + 1) (None ∷ Some (polarity (not a)) ∷ after (not a) w) l → Sits n y l a (not a ∷ w) k
sits_other w ih n y [] a k q p low s = absurd s
sits_other w ih n y (x ∷ l) a k q p low s =
    let c = fair_on y x (2 * k) (2 * k + 1 + 1) (polarity a) q p s.0 (omega arith) (omega arith) (omega arith) (grind (arith, s.1, polarity-not a)) in
    sits_bit w ih n y x l a (not a) k c low s.0 s.1 s.2

-- Pulses in the slots of a row are sound
pub sits : (w : List Bool) → Sitting w
sits [] n y [] a k q p low s = record { sound = refl; ends = omega arith; side = p; seen = refl }
sits [] n y (x ∷ l) a k q p low s = absurd s
sits (false ∷ w) n y l false k q p low s = sits_same w (sits w) n y l false k q p (omega arith) s
sits (true ∷ w) n y l true k q p low s = sits_same w (sits w) n y l true k q p (omega arith) s
sits (true ∷ w) n y l false k q p low s = sits_other w (sits w) n y l false k q p (omega arith) s
sits (false ∷ w) n y l true k q p low s = sits_other w (sits w) n y l true k q p (omega arith) s
