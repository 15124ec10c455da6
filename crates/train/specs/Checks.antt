-- The checks of a train, each in its place in the order.
--
-- top             the highest slot of any train
-- alike p q       whether two polarities are one
-- next_even m     the first even slot past slot m
-- Passes m n      an even slot between slots m and n was passed over
-- After m n t     a later pulse at t is in slot n, and that is past slot m
-- SlotAfter m t r r is the slot of a later pulse at t, if that is past slot m
-- Checked m p x r what the check of a later pulse x answers, the pulse before it being of polarity p in slot m: the slot of x,
--                 or the first cause that x gives
-- check m p x     the same, computed: the first cause that x gives, or none
-- caught r        the cause that a check answered, or none
-- CheckLaws m p x what the check of x comes to, in two more ways to say it
-- Near m r        a slot that is answered is at most the first even one past slot m
-- cause_of y x    the first cause that a later pulse x gives, y being the pulse before it
-- among n l       whether n is one of the numbers l
-- rest_cause      the first cause at the rest, of a train whose last slot is n, whose last pulse has polarity p and whose row is
--                 w, where good are the good last slots
use Rattle.std.specs.Prelude.{◌≡◌, ℕ, ◌+◌, ◌*◌, ◌/◌, ◌<◌, ◌≤◌, Bool, true, false, cond, not, ◌&&◌, ◌↔◌, List, [], ◌∷◌, Some, None, Ok, Err, Option, Result, ◌==◌, nat_lt}
use Rattle.line.specs.declared.event.Polarity.{Polarity}
use Rattle.line.specs.declared.event.Polarity.TheVariants.{Negative, Positive}
use Rattle.telegram.specs.Bits.{between, odd}
use Rattle.train.specs.declared.fault.Cause.{Cause}
use Rattle.train.specs.declared.fault.Cause.TheVariants.{Start, Timing, Alternation, NoInformation, EndBit, Parity, Length}
use Rattle.train.specs.declared.pulse.TimedPulse.{TimedPulse}
use Rattle.train.specs.Trains.{positive}
use Rattle.train.specs.Windows.{InSlot, in_slot, place}

abbrev pub top : ℕ
top = 26

abbrev pub alike : Polarity → Polarity → Bool
alike Negative q = not (positive q)
alike Positive q = positive q

abbrev pub next_even : ℕ → ℕ
next_even m = 2 * (m / 2) + 2

abbrev pub Passes : ℕ → ℕ → Type 0
Passes m n = (k : ℕ) × (m < 2 * k) × (2 * k < n)

abbrev pub After : ℕ → ℕ → ℕ → Type 0
After m n t = InSlot n t × (m < n)

abbrev pub SlotAfter : ℕ → ℕ → Option ℕ → Type 0
SlotAfter m t (Some n) = After m n t
SlotAfter m t None = (n : ℕ) → After m n t → ⊥

abbrev pub Checked : ℕ → Polarity → TimedPulse → Result ℕ Cause → Type 0
Checked m p x (Ok n) = After m n x.t × (n ≤ top) × (alike p x.polarity ≡ false) × (Passes m n → ⊥)
Checked m p x (Err Timing) = SlotAfter m x.t None
Checked m p x (Err Length) = (n : ℕ) × After m n x.t × (top < n)
Checked m p x (Err Alternation) = (n : ℕ) × After m n x.t × (n ≤ top) × (alike p x.polarity ≡ true)
Checked m p x (Err NoInformation) = (n : ℕ) × After m n x.t × (n ≤ top) × (alike p x.polarity ≡ false) × Passes m n
Checked m p x (Err Start) = ⊥
Checked m p x (Err EndBit) = ⊥
Checked m p x (Err Parity) = ⊥

abbrev pub Near : ℕ → Result ℕ Cause → Type 0
Near m (Ok n) = n ≤ next_even m
Near m (Err c) = Unit {0}

abbrev pub check : ℕ → Polarity → TimedPulse → Option Cause
check m p x =
    cond (in_slot (place x.t) x.t && nat_lt m (place x.t))
    (cond (nat_lt top (place x.t)) (Some Length)
    (cond (alike p x.polarity) (Some Alternation)
    (cond (nat_lt (next_even m) (place x.t)) (Some NoInformation)
    None)))
    (Some Timing)

abbrev pub caught : {A : Type 0} → Result A Cause → Option Cause
caught (Ok x) = None
caught (Err c) = Some c

pub record CheckLaws (m : ℕ) (p : Polarity) (x : TimedPulse) : Type 0 where
  -- whatever the meaning allows to be answered gives the cause that is computed
  pub computed : (r : Result ℕ Cause) → Checked m p x r → caught r ≡ check m p x
  -- for a pulse that does not come before the one in slot m, no slot past m means no slot, or slot m again
  pub timing : (t : ℕ) → place t ≡ m → t ≤ x.t → SlotAfter m x.t None ↔ ((n : ℕ) → InSlot n x.t → n ≡ m)

abbrev pub cause_of : TimedPulse → TimedPulse → Option Cause
cause_of y x = check (place y.t) y.polarity x

abbrev pub among : ℕ → List ℕ → Bool
among n [] = false
among n (g ∷ gs) = cond (n == g) true (among n gs)

abbrev pub rest_cause : List ℕ → ℕ → Polarity → List Bool → Option Cause
rest_cause good n p w =
    cond (among n good)
    (cond (positive p)
    (cond (odd (between w)) (Some Parity)
    None)
    (Some EndBit))
    (Some Length)
