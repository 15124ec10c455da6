-- The laws of reading, for any kind by its laws.
use Rattle.std.proofs.Common.{◌≡◌, ℕ, ◌≤◌, Bool, List, length, sym, ap, ◌∙◌, arith}
use Rattle.telegram.specs.Bits.{Ends, Even, Proper}
use Rattle.telegram.specs.Coding.{held, slots}
use Rattle.train.specs.Laws.{OnlyTelegrams, ReadBack, Reads, SentReadBack, SlotDistance}
use Rattle.train.specs.Trains.{holds, opening, row}
use Rattle.train.proofs.Apart.{far, near}
use Rattle.train.specs.Verdicts.{first_fault}
use Rattle.train.proofs.Carrying.{sound_tight}
use Rattle.train.proofs.Cleaning.{both_none, clean_proper, kept, proper_clean}
use Rattle.train.proofs.Holding.{holds_is, row_is}
use Rattle.train.proofs.Sending.{heard}

module _ {Record : Type 0} (size : ℕ) (row_of : Record → List Bool) (record_of : List Bool → Record)
    (least : 4 ≤ size) (most : size ≤ 14)
    (long : (r : Record) → length (row_of r) ≡ size) (ends : (r : Record) → Ends (row_of r)) (even : (r : Record) → Even (row_of r))
    (back : (r : Record) → record_of (row_of r) ≡ r) (forth : (w : List Bool) → Proper size w → row_of (record_of w) ≡ w) where
  proper : (r : Record) → Proper size (row_of r)
  proper r = record { long = long r; ends = ends r; even = even r }

  read_back : ReadBack size row_of record_of
  read_back r u t = (proper_clean size (row_of r) u most (proper r) t, rw (row_is size (row_of r) u (long r) t) (back r))

  only_telegrams : OnlyTelegrams size row_of record_of
  only_telegrams u c =
      let p = clean_proper size u (omega arith) most c in
      rw (forth (row size u) p.0) p.1

  slot_distance : SlotDistance size row_of record_of
  slot_distance u v cu cv =
      let pu = clean_proper size u (omega arith) most cu in
      let pv = clean_proper size v (omega arith) most cv in
      let hu = holds_is (row size u) u pu.1 in
      let hv = holds_is (row size v) v pv.1 in (
        (λ e.
            let same = sym (forth _ pu.0) ∙ ap row_of e ∙ forth _ pv.0 in
            omega (arith, near 27 (holds u) (holds v) (λ k. hu k ∙ ap (λ w. held (slots w) k) same ∙ sym (hv k)))),
        (λ few. ap record_of (far size (row size u) (row size v) (holds u) (holds v) least most pu.0 pv.0 hu hv few)),
      )

  sent_read_back : SentReadBack size row_of record_of
  sent_read_back r h c enough =
      let x = heard size (row_of r) (omega arith) (proper r) h c enough in
      let b = read_back r x.0 x.2 in
      (x.0, x.1, b.0, b.1)

  pub reading : Reads size row_of record_of
  reading = record {
    read_back = read_back;
    only_telegrams = only_telegrams;
    slot_distance = slot_distance;
    sent_read_back = sent_read_back;
    clean_is_train = λ u c. sound_tight 2 (opening u) u.later (both_none (first_fault u) _ (kept size u (omega arith) c).sound).1;
  }
