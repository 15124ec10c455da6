-- The words of a list of bytes, by their numbers.
use Rattle.std.proofs.Common.{◌≡◌, ℕ, zero, suc, ◌+◌, ◌*◌, ◌/◌, ◌<◌, min, List, [], length, refl, get_or, take, drop, ap, ◌∙◌, zero-add, arith}
use Rattle.std.proofs.lemmas.List.FromFn.{length-map-range_with_len, get_or-map-range_with_len}
use Rattle.std.proofs.lemmas.List.{length-take, drop-drop, get_or-drop, get_or-take, take_at, take_min}
use Rattle.std.specs.Simd.{first_chunks}
use Rattle.line.specs.Bytes.{Packed, word_at, words_of}

pub length-words_of : (bs : List ℕ) → length (words_of bs) ≡ length bs / 4
unfolding words_of
length-words_of bs = length-map-range_with_len (word_at bs) 0 (length bs / 4)

pub get_or-words_of : (bs : List ℕ) (k d : ℕ) → k < length bs / 4 → get_or (words_of bs) k d ≡ word_at bs k
unfolding words_of
get_or-words_of bs k d h = get_or-map-range_with_len (word_at bs) 0 (length bs / 4) k k d h (zero-add k)

-- the chunk of number k, and the word in it
chunk_at : (n k : ℕ) (bs d : List ℕ) → k < n → get_or (first_chunks 4 n bs) k d ≡ take 4 (drop (4 * k) bs)
chunk_at zero k bs d h = absurd (omega arith)
chunk_at (suc n) zero bs d h = refl
chunk_at (suc n) (suc k) bs d h = chunk_at n k (drop 4 bs) d (omega arith) ∙ ap (take 4) (drop-drop (4 * k) 4 bs ∙ ap (λ i. drop i bs) (omega arith))

four : (bs : List ℕ) (k : ℕ) → word_at (take 4 (drop (4 * k) bs)) 0 ≡ word_at bs k
four bs k =
    let at = λ (j i : ℕ) (h : i < 4) (e : 4 * k + i ≡ j). get_or-take 4 (drop (4 * k) bs) i 0 h ∙ get_or-drop (4 * k) bs i 0 ∙ ap (λ n. get_or bs n 0) e in
    let a = at (4 * k) 0 (omega arith) (omega arith) in
    let b = at (4 * k + 1) 1 (omega arith) refl in
    let c = at (4 * k + 2) 2 (omega arith) refl in
    let d = at (4 * k + 3) 3 (omega arith) refl in
    λ i. a i + b i * 256 + c i * 65536 + d i * 16777216

pub chunk_word : (bs : List ℕ) (m n k : ℕ) → k < m → k < n → word_at (get_or (take m (first_chunks 4 n bs)) k []) 0 ≡ word_at bs k
chunk_word bs m n k h l = ap (λ c. word_at c 0) (get_or-take m (first_chunks 4 n bs) k [] h ∙ chunk_at n k bs [] l) ∙ four bs k

-- what was written, taken again, is all words as far as there was room
pub written_words : (bs ws ws' : List ℕ) (n : ℕ) → Packed bs ws n ws' → take n ws' ≡ take (length ws) (words_of bs)
written_words bs ws ws' n p =
    let c = p.count in
    let W = words_of bs in
    let many = length-words_of bs in
    let same : n ≡ min (length ws) (length W) = omega arith in
    let long : length (take n W) ≡ n = length-take n W ∙ omega arith in
    ap (take n) p.after ∙ take_at (take n W) (drop n ws) n long ∙ ap (λ k. take k W) same ∙ take_min (length ws) W
