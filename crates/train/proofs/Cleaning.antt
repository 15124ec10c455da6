-- A train is clean as a kind of b bits exactly when it is the train of a row that a telegram of b bits may have.
use Rattle.std.proofs.Common.{◌≡◌, ℕ, ◌+◌, ◌-◌, ◌*◌, ◌/◌, ◌≤◌, Bool, true, false, List, [], ◌∷◌, length, None, Option, refl, ap, true≢false, arith}
use Rattle.std.proofs.lemmas.Bool.Decides.{nat_tests}
use Rattle.line.specs.declared.event.Polarity.TheVariants.{Negative, Positive}
use Rattle.telegram.specs.Bits.{Proper, between, odd}
use Rattle.telegram.specs.Bits.{final as last_bit}
use Rattle.telegram.specs.Coding.{polarity}
use Rattle.train.specs.declared.fault.Fault.{Fault}
use Rattle.train.specs.Carried.{TrainOf}
use Rattle.train.specs.Trains.{Train, bits, last_pulse, opening, row}
use Rattle.train.specs.Verdicts.{CleanAs, fault_of, first_fault, last_slot, or_else}
use Rattle.train.proofs.Carrying.{reads, sits}
use Rattle.train.proofs.Holding.{row_is}

-- what a train without fault has kept to

pub both_none : (f g : Option Fault) → or_else f g ≡ None → (f ≡ None) × (g ≡ None)
both_none f g e = grind arith

pub first_tells : (u : Train) → first_fault u ≡ None → u.first ≡ Negative
first_tells u e = grind arith

-- A sound train that ends in slot 2b - 2 is the train of a row of b bits, which begins with 0
pub record Whole (b : ℕ) (u : Train) : Type 0 where
  pub tail : List Bool
  pub long : length tail + 1 ≡ b
  pub train : TrainOf (false ∷ tail) u
  pub side : (last_pulse u).polarity ≡ polarity (last_bit false tail)
  pub row_same : row b u ≡ false ∷ tail
  pub seen : bits u.later ≡ tail

pub whole : (b : ℕ) (u : Train) → 1 ≤ b → b ≤ 14 → fault_of u ≡ None → last_slot u ≡ 2 * b - 2 → Whole b u
whole b u some few sound ends =
    let n = both_none (first_fault u) _ sound in
    let neg = first_tells u n.0 in
    let r = (reads u.later).0 2 (opening u) false 0 (b - 1) refl neg n.1 (omega arith) in
    let t : TrainOf (false ∷ r.more) u = (neg, r.stand) in
    let s = sits r.more 2 (opening u) u.later false 0 refl neg (omega (arith, r.long)) r.stand in
    record {
      tail = r.more;
      long = omega (arith, r.long);
      train = t;
      side = r.side;
      row_same = row_is b (false ∷ r.more) u (omega (arith, r.long)) t;
      seen = s.seen;
    }

-- What a clean train has kept to
pub record Kept (b : ℕ) (u : Train) : Type 0 where
  pub sound : fault_of u ≡ None
  pub ends : last_slot u ≡ 2 * b - 2
  pub side : (last_pulse u).polarity ≡ Positive
  pub even : odd (between (row b u)) ≡ false

-- the row at the rest of a train whose last slot is 2b - 2 has b bits
pub rest_row : (b : ℕ) (u : Train) → 1 ≤ b → last_slot u ≡ 2 * b - 2 → row (last_slot u / 2 + 1) u ≡ row b u
rest_row b u some ends = ap (λ n. row n u) (omega arith)

pub kept : (b : ℕ) (u : Train) → 1 ≤ b → CleanAs b u → Kept b u
kept b u some c = grind (arith, nat_tests, rest_row b u some)

pub cleaned : (b : ℕ) (u : Train) → 1 ≤ b → Kept b u → CleanAs b u
cleaned b u some k = grind (arith, nat_tests, k, rest_row b u some k.ends)

-- The row of a clean train is one that a telegram may have
pub clean_proper : (b : ℕ) (u : Train) → 1 ≤ b → b ≤ 14 → CleanAs b u → Proper b (row b u) × TrainOf (row b u) u
clean_proper b u some few c =
    let k = kept b u some c in
    let h = whole b u some few k.sound k.ends in
    let same = h.row_same in
    let proper : Proper b (false ∷ h.tail) = record {
      long = omega (arith, h.long);
      ends = record { start = refl; end = grind (arith, h.side, k.side) };
      even = grind (arith, nat_tests, rw same at k.even);
    } in
    rw same (proper, h.train)

-- A train of a row that a telegram may have is clean
pub proper_clean : (b : ℕ) (w : List Bool) (u : Train) → b ≤ 14 → Proper b w → TrainOf w u → CleanAs b u
proper_clean b [] u few p t = absurd t
proper_clean b (true ∷ w) u few p t = absurd (true≢false p.ends.start)
proper_clean b (false ∷ w) u few p t =
    let long : length w + 1 ≡ b = omega (arith, p.long) in
    let s = sits w 2 (opening u) u.later false 0 refl t.0 (omega arith) t.1 in
    let same = row_is b (false ∷ w) u p.long t in
    cleaned b u (omega arith) (record {
      sound = grind (arith, t.0, s.sound);
      ends = omega (arith, s.ends);
      side = grind (arith, s.side, p.ends.end);
      even = rw same (grind (arith, nat_tests, p.even));
    })
