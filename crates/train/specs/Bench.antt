-- The trains of the bench, computed.
--
-- answer_5, answer_4, request_0_5_9   the rows of these telegrams
-- bits_0_0101_1_1, bits_0_0101_0_0    two rows that no telegram has
-- from_slots s    the train of the slots s with each pulse on its slot's tick; where slot 0 is empty, one that is at fault
-- on_tick w       the train of a row w with each pulse on its slot's tick
-- pair t          a negative pulse, then a positive one t ticks after it
-- left_out n l    the pulses l but those in slot n
-- without n u     u without its later pulses in slot n
-- slots_0_1_3     negative, positive and negative pulses in these slots
-- lone            one negative pulse
-- picked f n k    those of the k numbers from n on that pass the test f
-- Finding         what a case comes to: some slots, a row, or a fault with its cause, pulse and ticks
-- filled x        whether a slot holds a pulse
-- occupied u      the slots in which u has a pulse
-- differ_in u v   the slots in which u and v differ
-- shown v         a verdict as a finding
-- judged u        the verdict on u, with the last slots of answers and requests as the good ones
-- Case, table     the cases: what is found, and what is expected
-- Bench           each case comes to what is expected
use Rattle.std.specs.Prelude.{◌≡◌, ℕ, zero, suc, Bool, true, false, cond, List, [], ◌∷◌, map, Some, None, Option}
use Rattle.std.proofs.Common.{lit<}
use Rattle.line.specs.declared.event.Polarity.{Polarity}
use Rattle.line.specs.declared.event.Polarity.TheVariants.{Negative, Positive}
use Rattle.telegram.specs.Coding.{slots, unlike}
use Rattle.telegram.specs.Records.{answer_row, request_row}
use Rattle.train.specs.declared.pulse.TimedPulse.{TimedPulse}
use Rattle.train.specs.Carried.{on_time}
use Rattle.train.specs.Trains.{Train, holds}
use Rattle.train.specs.Verdicts.{Verdict, clean, faulty, verdict}
use Rattle.train.specs.Windows.{in_slot}

abbrev pub answer_5 : List Bool
answer_5 = answer_row (record { nibble = 5; low = lit< tt })

abbrev pub answer_4 : List Bool
answer_4 = answer_row (record { nibble = 4; low = lit< tt })

abbrev pub request_0_5_9 : List Bool
request_0_5_9 = request_row (record { control = 0; address = 5; information = 9; one = lit< tt; low = lit< tt; few = lit< tt })

abbrev pub bits_0_0101_1_1 : List Bool
bits_0_0101_1_1 = false ∷ false ∷ true ∷ false ∷ true ∷ true ∷ true ∷ []

abbrev pub bits_0_0101_0_0 : List Bool
bits_0_0101_0_0 = false ∷ false ∷ true ∷ false ∷ true ∷ false ∷ false ∷ []

abbrev pub from_slots : List (Option Polarity) → Train
from_slots [] = record { first = Positive; later = [] }
from_slots (None ∷ s) = record { first = Positive; later = [] }
from_slots (Some p ∷ s) = record { first = p; later = on_time 1 s }

abbrev pub on_tick : List Bool → Train
on_tick w = from_slots (slots w)

abbrev pub pair : ℕ → Train
pair t = record { first = Negative; later = record { t = t; polarity = Positive } ∷ [] }

abbrev pub left_out : ℕ → List TimedPulse → List TimedPulse
left_out n [] = []
left_out n (x ∷ l) = cond (in_slot n x.t) (left_out n l) (x ∷ left_out n l)

abbrev pub without : ℕ → Train → Train
without n u = record { first = u.first; later = left_out n u.later }

abbrev pub slots_0_1_3 : Train
slots_0_1_3 = record { first = Negative; later = record { t = 24; polarity = Positive } ∷ record { t = 72; polarity = Negative } ∷ [] }

abbrev pub lone : Train
lone = record { first = Negative; later = [] }

abbrev pub picked : (ℕ → Bool) → ℕ → ℕ → List ℕ
picked f n zero = []
picked f n (suc k) = cond (f n) (n ∷ picked f (suc n) k) (picked f (suc n) k)

pub data Finding : Type 0 where
  in_slots : List ℕ → Finding
  of_row : List Bool → Finding
  at_fault : ℕ → ℕ → ℕ → Finding

abbrev pub filled : Option Polarity → Bool
filled None = false
filled (Some p) = true

abbrev pub occupied : Train → Finding
occupied u = in_slots (picked (λ n. filled (holds u n)) 0 27)

abbrev pub differ_in : Train → Train → Finding
differ_in u v = in_slots (picked (λ n. unlike (holds u n) (holds v n)) 0 27)

abbrev pub shown : Verdict → Finding
shown (faulty f) = at_fault f.cause f.pulse f.t
shown (clean w) = of_row w

abbrev pub judged : Train → Finding
judged u = shown (verdict (12 ∷ 26 ∷ []) u)

pub record Case : Type 0 where
  pub found : Finding
  pub expected : Finding

abbrev pub table : List Case
table =
    record { found = judged (on_tick answer_5); expected = of_row (false ∷ false ∷ true ∷ false ∷ true ∷ false ∷ true ∷ []) } ∷
    record { found = occupied (on_tick answer_5); expected = in_slots (0 ∷ 1 ∷ 2 ∷ 4 ∷ 6 ∷ 8 ∷ 10 ∷ 12 ∷ []) } ∷
    record {
      found = judged (on_tick request_0_5_9);
      expected = of_row (false ∷ false ∷ false ∷ false ∷ true ∷ false ∷ true ∷ false ∷ true ∷ false ∷ false ∷ true ∷ false ∷ true ∷ []);
    } ∷
    record {
      found = occupied (on_tick request_0_5_9);
      expected = in_slots (0 ∷ 1 ∷ 2 ∷ 3 ∷ 4 ∷ 5 ∷ 6 ∷ 8 ∷ 10 ∷ 12 ∷ 14 ∷ 16 ∷ 18 ∷ 19 ∷ 20 ∷ 22 ∷ 24 ∷ 26 ∷ []);
    } ∷
    record { found = differ_in (on_tick answer_5) (on_tick answer_4); expected = in_slots (7 ∷ 8 ∷ 10 ∷ 11 ∷ []) } ∷
    record { found = occupied (pair 20); expected = in_slots (0 ∷ 1 ∷ []) } ∷
    record { found = occupied (pair 32); expected = in_slots (0 ∷ 1 ∷ []) } ∷
    record { found = judged (pair 19); expected = at_fault 2 2 19 } ∷
    record { found = judged (pair 33); expected = at_fault 2 2 33 } ∷
    record { found = judged lone; expected = at_fault 7 1 0 } ∷
    record { found = judged (without 1 (on_tick answer_5)); expected = at_fault 3 2 48 } ∷
    record { found = judged slots_0_1_3; expected = at_fault 4 3 72 } ∷
    record { found = judged (on_tick bits_0_0101_1_1); expected = at_fault 6 10 288 } ∷
    record { found = judged (on_tick bits_0_0101_0_0); expected = at_fault 5 9 288 } ∷
    []

pub record Bench : Type 0 where
  pub agree : map (λ c. c.found) table ≡ map (λ c. c.expected) table
