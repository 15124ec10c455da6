-- The windows of the slots, in ticks after a train's first pulse.
--
-- lead, lag      how much earlier and later than on its slot's tick a pulse may come
-- InSlot n t     a later pulse at t is in slot n, which is not slot 0: it comes up to 4 ticks before tick 24n, or up to 8 after
-- in_slot n t    the same as a test
-- place t        the one slot that t can be in; 0 for the first pulse
-- Slot t r       r is the slot of a later pulse at t, or none where it is in none
-- WindowLaws t   the test tells what is meant, and t is in no two slots
use Rattle.std.specs.Prelude.{◌≡◌, ℕ, ◌+◌, ◌*◌, ◌/◌, ◌≤◌, Bool, true, ◌&&◌, ◌↔◌, Some, None, Option, nat_le}
use Rattle.telegram.specs.Sending.{slot_ticks}

abbrev pub lead : ℕ
lead = 4

abbrev pub lag : ℕ
lag = 8

pub record InSlot (n t : ℕ) : Type 0 where
  pub later : 1 ≤ n
  pub early : slot_ticks * n ≤ t + lead
  pub late : t ≤ slot_ticks * n + lag

abbrev pub in_slot : ℕ → ℕ → Bool
in_slot n t = nat_le 1 n && (nat_le (slot_ticks * n) (t + lead) && nat_le t (slot_ticks * n + lag))

abbrev pub place : ℕ → ℕ
place t = (t + lead) / slot_ticks

abbrev pub Slot : ℕ → Option ℕ → Type 0
Slot t (Some n) = InSlot n t
Slot t None = (n : ℕ) → InSlot n t → ⊥

pub record WindowLaws (t : ℕ) : Type 0 where
  pub tested : (n : ℕ) → InSlot n t ↔ (in_slot n t ≡ true)
  pub one : (n : ℕ) → InSlot n t → n ≡ place t
