-- At the rest the bits that were kept are the row wherever the checks look at it: where the last slot is good.
use Rattle.std.proofs.Common.{◌≡◌, ℕ, ◌+◌, ◌-◌, ◌*◌, ◌/◌, ◌≤◌, [], ◌∷◌, Some, None, Ok, Err, Option, Result, arith}
use Rattle.std.proofs.lemmas.Bool.Decides.{nat_tests}
use Rattle.telegram.specs.Rows.{row_bits}
use Rattle.train.specs.declared.fault.Cause.{Cause}
use Rattle.train.specs.declared.sound.Sound.{Sound}
use Rattle.train.specs.Checks.{caught, rest_cause}
use Rattle.train.specs.Sounds.{Rested, Tells}
use Rattle.train.specs.Trains.{Train, last_pulse, row}
use Rattle.train.specs.Verdicts.{blamed, kind_good, last_slot, settled, verdict}
use Rattle.train.proofs.Cleaning.{rest_row, whole}

module _ (size : ℕ) (least : 1 ≤ size) (most : size ≤ 14) (s : Sound) (u : Train) (h : Tells s u) where
  -- the bits kept, where the last slot is good
  kept_row : last_slot u ≡ 2 * size - 2 → row_bits s.row ≡ row size u
  kept_row ends =
      let w = whole size u least most h.sound ends in
      grind (arith, h.seen, w.seen, w.row_same)

  same_rest : rest_cause (kind_good size) (last_slot u) (last_pulse u).polarity (row (last_slot u / 2 + 1) u) ≡ rest_cause (kind_good size) s.slot s.polarity (row_bits s.row)
  same_rest = grind (arith, nat_tests, h.reached, h.side, kept_row, rest_row size u least)

  -- the verdict goes by the checks at the rest
  settles : (o : Option Cause) → o ≡ rest_cause (kind_good size) s.slot s.polarity (row_bits s.row) → verdict (kind_good size) u ≡ settled (blamed o s.count s.t) u
  settles o e = grind (arith, h.sound, h.many, h.at, same_rest)

rested : {A : Type 0} → (size : ℕ) (s : Sound) (r : Result A Cause) → 1 ≤ size → size ≤ 14 → caught r ≡ rest_cause (kind_good size) s.slot s.polarity (row_bits s.row) → Rested size s r
rested size s (Err c) least most e = λ u h. settles size least most s u h (Some c) e
rested size s (Ok x) least most e = λ u h.
    grind (arith, nat_tests, h.reached, settles size least most s u h None e, rest_row size u least, kept_row size least most s u h)

-- the same of a slot that is known to be the good one
pub rested_at : {A : Type 0} → (size good : ℕ) (s : Sound) (r : Result A Cause) → 1 ≤ size → size ≤ 14 → good ≡ 2 * size - 2 → caught r ≡ rest_cause (good ∷ []) s.slot s.polarity (row_bits s.row) → Rested size s r
rested_at size good s r least most is e = rested size s r least most (rw is at e)
