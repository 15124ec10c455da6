-- A list written over the front of another, one element more.
use Rattle.std.proofs.Common.{◌≡◌, ℕ, ◌+◌, ◌<◌, List, [], ◌∷◌, ◌++◌, length, get_or, take, drop, set, ◌∙◌, arith}
use Rattle.std.proofs.lemmas.List.{append_assoc, drop_more, length-take, set_at, take_more}

pub front_more : {X : Type 0} (s d : List X) (i : ℕ) (x : X) → i < length s → i < length d → x ≡ get_or s i x → set (take i s ++ drop i d) i x ≡ take (i + 1) s ++ drop (i + 1) d
front_more s d i x in-s in-d is =
    let n : length (take i s) ≡ i = length-take i s ∙ omega arith in
    let w = set_at (take i s) (get_or d i x) (drop (i + 1) d) x i n in
    let y = drop_more d i x in-d in
    let z = take_more s i x in-s in
    let v = append_assoc (take i s) (x ∷ []) (drop (i + 1) d) in
    cc
