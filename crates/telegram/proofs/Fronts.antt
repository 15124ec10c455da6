-- The front of an array.
use Rattle.std.proofs.Common.{◌≡◌, ℕ, zero, suc, ◌+◌, ◌-◌, ◌≤◌, false, List, [], ◌∷◌, length, get_or, take, drop, refl, ap, ◌∙◌, arith}
use Rattle.std.proofs.lemmas.List.{get_or-take, length-take-le, take-take}
use Rattle.telegram.specs.declared.row.Row.{Row}
use Rattle.telegram.specs.Rows.{Front, row_bits}

pub get_or-none : {X : Type 0} (n k : ℕ) (l : List X) (d : X) → n ≤ k → get_or (take n l) k d ≡ d
get_or-none zero k l d h = refl
get_or-none (suc n) k [] d h = refl
get_or-none (suc n) zero (x ∷ l) d h = absurd (omega arith)
get_or-none (suc n) (suc k) (x ∷ l) d h = get_or-none n k l d (omega arith)

-- a part of a front of a list
pub part_front : {X : Type 0} (j k n : ℕ) (l : List X) → j + k ≤ n → take k (drop j (take n l)) ≡ take k (drop j l)
part_front zero k n l h = take-take k n l (omega arith)
part_front (suc j) k zero l h = absurd (omega arith)
part_front (suc j) k (suc n) [] h = refl
part_front (suc j) k (suc n) (x ∷ l) h = part_front j k n l (omega arith)

pub front : (r : Row) → Front r
front r =
    let n = r.count in
    let room = r.room in
    let all = r.wide in
    let long : length (row_bits r) ≡ n = length-take-le n r.bits (omega arith) in
    record {
      inside = λ k l. get_or-take n r.bits k false l;
      outside = λ k l. get_or-none n k r.bits false l;
      middle = λ l.
          let cut : length (row_bits r) - 2 ≡ (n - 1) - 1 = omega arith in
          ap (λ k. take k (drop 1 (row_bits r))) cut ∙ part_front 1 ((n - 1) - 1) n r.bits (omega arith);
      short = λ l. let cut : length (row_bits r) - 2 ≡ 0 = omega arith in ap (λ k. take k (drop 1 (row_bits r))) cut;
    }
