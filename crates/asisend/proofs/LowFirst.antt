-- Four bytes to a word: the k-th word stands in the bytes from 4k on.
use Rattle.std.proofs.Common.{◌≡◌, ℕ, zero, suc, ◌+◌, ◌*◌, ◌/◌, ◌%◌, ◌^◌, ◌<◌, ◌≤◌, List, [], ◌∷◌, length, get_or, take, sym, refl, ap, ◌∙◌, arith, Fits, w32}
use native.Mathlib.Nat.{div-div-eq-div-mul}
use Rattle.std.proofs.lemmas.List.{ext_get_or, take_all}
use Rattle.line.specs.Bytes.{word_at, words_of}
use Rattle.line.proofs.Packing.{get_or-words_of, length-words_of}
use Rattle.asisend.specs.Bytes.{Written, bytes_of, word_bytes}

length-bytes : (ws : List ℕ) → length (bytes_of ws) ≡ 4 * length ws
length-bytes [] = omega arith
length-bytes (w ∷ ws) = omega (arith, length-bytes ws)

-- past the bytes of the first word the others stand four bytes later
later : (w k : ℕ) (ws : List ℕ) → word_at (bytes_of (w ∷ ws)) (suc k) ≡ word_at (bytes_of ws) k
later w k ws =
    let bs = bytes_of (w ∷ ws) in
    let e : 4 * suc k ≡ suc (suc (suc (suc (4 * k)))) = omega arith in
    let f : 4 * suc k + 1 ≡ suc (suc (suc (suc (4 * k + 1)))) = omega arith in
    let g : 4 * suc k + 2 ≡ suc (suc (suc (suc (4 * k + 2)))) = omega arith in
    let h : 4 * suc k + 3 ≡ suc (suc (suc (suc (4 * k + 3)))) = omega arith in
    λ i. get_or bs (e i) 0 + get_or bs (f i) 0 * 256 + get_or bs (g i) 0 * 65536 + get_or bs (h i) 0 * 16777216

word_in : (ws : List ℕ) (k : ℕ) → k < length ws → word_at (bytes_of ws) k ≡ word_at (word_bytes (get_or ws k 0)) 0
word_in [] k h = absurd (omega arith)
word_in (w ∷ ws) zero h = refl
word_in (w ∷ ws) (suc k) h = later w k ws ∙ word_in ws k (omega arith)

split : (n : ℕ) → n % 256 + n / 256 * 256 ≡ n
split n = omega arith

glue : (w a b d x y z v : ℕ) → x + a * 256 ≡ w → y + b * 256 ≡ a → z + d * 256 ≡ b → v ≡ d → x + y * 256 + z * 65536 + v * 16777216 ≡ w
glue w a b d x y z v e f g h = omega arith

put_together : (w : ℕ) → w < 2 ^ 32 → word_at (word_bytes w) 0 ≡ w
put_together w low =
    let a = w / 256 in
    let b = w / 65536 in
    let d = w / 16777216 in
    let f : a % 256 + b * 256 ≡ a = ap (λ n. a % 256 + n * 256) (sym (div-div-eq-div-mul w 256 256)) ∙ split a in
    let g : b % 256 + d * 256 ≡ b = ap (λ n. b % 256 + n * 256) (sym (div-div-eq-div-mul w 65536 256)) ∙ split b in
    let h : d % 256 ≡ d = omega arith in
    glue w a b d (w % 256) (a % 256) (b % 256) (d % 256) (split w) f g h

pub written : (ws bs : List ℕ) (i : ℕ) → length ws ≤ i → bs ≡ bytes_of (take i ws) → ((k : ℕ) → Fits w32 (get_or ws k 0)) → Written ws bs
written ws bs i past is low =
    let all : bs ≡ bytes_of ws = is ∙ ap bytes_of (take_all i ws past) in
    let long : length (words_of bs) ≡ length ws = length-words_of bs ∙ omega (arith, ap length all, length-bytes ws) in
    let at : (k : ℕ) → k < length (words_of bs) → get_or (words_of bs) k 0 ≡ get_or ws k 0 =
    λ k h. get_or-words_of bs k 0 (omega (arith, length-words_of bs)) ∙ ap (λ l. word_at l k) all ∙ word_in ws k (omega (arith, long)) ∙ put_together (get_or ws k 0) (low k).fits in
    record { value = all; back = ext_get_or 0 (words_of bs) ws long at }
