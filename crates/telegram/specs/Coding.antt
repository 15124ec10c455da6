-- The coding: which pulses stand for a row of bits, by slot.
--
-- polarity b   the polarity of a bit's pulse: negative for 0, positive for 1
-- gap a b      what the slot between the pulses of neighbouring bits a and b holds: where they are equal, a pulse of the
--              opposite polarity
-- after a w    the slots after that of a bit a which the bits w follow
-- slots w      the slots of the row w from slot 0 on: a pulse, or none
-- held s n     what slot n holds in s; all slots past those that s lists are empty
-- Coded w      the coding of w, slot by slot
-- unlike x y   one slot holds a pulse and the other none, or their polarities differ
-- counted f n  how many of the numbers below n pass the test f
-- differing    in how many of the first n slots two trains differ, each given by what its slots hold
use Rattle.std.specs.Prelude.{◌≡◌, ℕ, zero, suc, ◌+◌, ◌*◌, ◌/◌, ◌%◌, ◌<◌, ◌≤◌, Bool, true, false, cond, List, [], ◌∷◌, length, Some, None, Option, slice_index_or}
use Rattle.std.specs.Bool.{beq}
use Rattle.line.specs.declared.event.Polarity.{Polarity}
use Rattle.line.specs.declared.event.Polarity.TheVariants.{Negative, Positive}
use Rattle.line.specs.Sides.{polarity_of}
use Rattle.line.specs.Turns.{opposite}

abbrev pub polarity : Bool → Polarity
polarity b = polarity_of b

abbrev pub gap : Bool → Bool → Option Polarity
gap a b = cond (beq a b) (Some (opposite (polarity a))) None

abbrev pub after : Bool → List Bool → List (Option Polarity)
after a [] = []
after a (b ∷ w) = gap a b ∷ Some (polarity b) ∷ after b w

abbrev pub slots : List Bool → List (Option Polarity)
slots [] = []
slots (b ∷ w) = Some (polarity b) ∷ after b w

abbrev pub held : List (Option Polarity) → ℕ → Option Polarity
held s n = slice_index_or s n None

pub record Coded (w : List Bool) : Type 0 where
  -- an even slot holds the pulse of its bit
  pub even : (n : ℕ) → n % 2 ≡ 0 → n / 2 < length w → held (slots w) n ≡ Some (polarity (slice_index_or w (n / 2) false))
  -- an odd slot holds what the bits on both sides of it make
  pub odd : (n : ℕ) → n % 2 ≡ 1 → n / 2 + 1 < length w → held (slots w) n ≡ gap (slice_index_or w (n / 2) false) (slice_index_or w (n / 2 + 1) false)
  pub past : (n : ℕ) → 2 * length w ≤ n + 1 → held (slots w) n ≡ None

abbrev pub unlike : Option Polarity → Option Polarity → Bool
unlike None None = false
unlike None (Some q) = true
unlike (Some p) None = true
unlike (Some Negative) (Some Negative) = false
unlike (Some Negative) (Some Positive) = true
unlike (Some Positive) (Some Negative) = true
unlike (Some Positive) (Some Positive) = false

unfoldable pub counted : (ℕ → Bool) → ℕ → ℕ
counted f zero = 0
counted f (suc n) = cond (f 0) 1 0 + counted (λ k. f (suc k)) n

abbrev pub differing : ℕ → (ℕ → Option Polarity) → (ℕ → Option Polarity) → ℕ
differing n u v = counted (λ k. unlike (u k) (v k)) n
