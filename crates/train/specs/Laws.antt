-- What reading a train as a kind keeps to, for a kind of `size` bits with the row `row_of` of a record and the record `record_of`
-- of a row.
--
-- carried        the telegram that a train carries
-- ReadBack       every train of a telegram's row is clean as its kind and carries that telegram
-- OnlyTelegrams  every train that is clean as the kind is, by slots and polarities, a train of the telegram that it carries
-- SlotDistance   of trains that are clean as the kind, those that differ in up to three slots carry one telegram, and no others do
-- SentReadBack   what a sender hands over is heard as one train, which is clean as the kind and carries the telegram sent
-- CleanIsTrain   every train that is clean as the kind is one that can be heard: fewer ticks than end a train between neighbours
-- Reads          all of them
use Rattle.std.specs.Prelude.{◌≡◌, ℕ, ◌<◌, ◌≤◌, Bool, ◌↔◌, List}
use Rattle.line.specs.declared.event.Height.{Height}
use Rattle.line.specs.declared.event.Ticks.{Ticks}
use Rattle.telegram.specs.Coding.{slots}
use Rattle.telegram.specs.Sending.{sent}
use Rattle.train.specs.Carried.{TrainOf}
use Rattle.train.specs.Heard.{Hears, Tight, rest}
use Rattle.train.specs.Trains.{Train, apart, opening, row}
use Rattle.train.specs.Verdicts.{CleanAs}

module _ {Record : Type 0} (size : ℕ) (row_of : Record → List Bool) (record_of : List Bool → Record) where
  abbrev pub carried : Train → Record
  carried u = record_of (row size u)

  abbrev pub ReadBack : Type 0
  ReadBack = (r : Record) (u : Train) → TrainOf (row_of r) u → CleanAs size u × (carried u ≡ r)

  abbrev pub OnlyTelegrams : Type 0
  OnlyTelegrams = (u : Train) → CleanAs size u → TrainOf (row_of (carried u)) u

  abbrev pub SlotDistance : Type 0
  SlotDistance = (u v : Train) → CleanAs size u → CleanAs size v → (carried u ≡ carried v) ↔ (apart u v < 4)

  abbrev pub SentReadBack : Type 0
  SentReadBack = (r : Record) (h : Height) (c : Ticks) → rest ≤ c.count → (u : Train) × Hears (sent h c (slots (row_of r))) u × CleanAs size u × (carried u ≡ r)

  abbrev pub CleanIsTrain : Type 0
  CleanIsTrain = (u : Train) → CleanAs size u → Tight (opening u) u.later

  pub record Reads : Type 0 where
    pub read_back : ReadBack
    pub only_telegrams : OnlyTelegrams
    pub slot_distance : SlotDistance
    pub sent_read_back : SentReadBack
    pub clean_is_train : CleanIsTrain
