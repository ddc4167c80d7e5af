-- Eight messages side by side, as only the private steps of this crate speak of them. A vector has a word of
-- each message: that of message j is in lane j. Sections are those of FIPS 180-4.
use Rattle.std.specs.Prelude.{◌≡◌, ℕ, ◌*◌, ◌<◌, List, [], ◌∷◌, length, map, slice_index, slice_index_or}
use Rattle.std.specs.Borrow.{Bor}
use Rattle.sha2.specs.Sha256.{add32, big_sigma0, big_sigma1, ch, maj, word_at}

-- the word in lane j of vector i
abbrev pub lane_word : List (List ℕ) → ℕ → ℕ → ℕ
lane_word vectors i j = slice_index (slice_index_or vectors i []) j

-- lane j of eight vectors: the eight words of a hash value, or the eight working variables
abbrev pub lane_of_eight : ℕ → List (List ℕ) → List ℕ
lane_of_eight j vectors =
    lane_word vectors 0 j ∷ lane_word vectors 1 j ∷ lane_word vectors 2 j ∷ lane_word vectors 3 j
    ∷ lane_word vectors 4 j ∷ lane_word vectors 5 j ∷ lane_word vectors 6 j ∷ lane_word vectors 7 j ∷ []

-- lane j of any number of vectors
abbrev pub lane_of : ℕ → List (List ℕ) → List ℕ
lane_of j vectors = map (λ vector. slice_index vector j) vectors

-- these are the 16 words of a message block (5.2.1)
pub record IsBlockWords (block words : List ℕ) : Type 0 where
  pub count : length words ≡ 16
  pub each : (k : ℕ) → k < 16 → slice_index words k ≡ word_at block (4 * k)

-- the bytes of message j
abbrev pub message_at : List (Bor (List ℕ)) → ℕ → List ℕ
message_at messages j = slice_index_or (map (λ message. message.now) messages) j []

-- T 1 of a round (6.2.2), of the working variables that it reads
abbrev pub temp1_of : ℕ → ℕ → ℕ → ℕ → ℕ → ℕ → ℕ
temp1_of e f g h constant word = add32 (add32 (add32 (add32 h (big_sigma1 e)) (ch e f g)) constant) word

-- T 2 of a round (6.2.2), of the working variables that it reads
abbrev pub temp2_of : ℕ → ℕ → ℕ → ℕ
temp2_of a b c = add32 (big_sigma0 a) (maj a b c)
