-- Words that were written over an empty room are all words of the bytes for which it has room.
use Rattle.std.proofs.Common.{◌≡◌, ℕ, List, take, replicate, ap, ◌∙◌}
use Rattle.std.proofs.lemmas.List.{length-replicate}
use Rattle.line.specs.Bytes.{Packed, words_of}
use Rattle.line.proofs.Packing.{written_words}
use Rattle.asidump.specs.Listing.{room}

pub all_were_read : (bs ws : List ℕ) (n : ℕ) → Packed bs (replicate room 0) n ws → take n ws ≡ take room (words_of bs)
all_were_read bs ws n p = written_words bs (replicate room 0) ws n p ∙ ap (λ k. take k (words_of bs)) (length-replicate {A = ℕ} room 0)
