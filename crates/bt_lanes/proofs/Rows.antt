-- Eight words of a message, read as one vector of bytes.
use Rattle.std.proofs.Common.{◌≡◌, ℕ, ◌+◌, ◌-◌, ◌*◌, ◌<◌, List, [], ◌∷◌, take, drop, slice_index, Fits, w8, arith, refl, ap, ◌∙◌}
use Rattle.std.proofs.lemmas.List.{get_or-take, get_or-drop}
use Rattle.std.proofs.lemmas.Simd.{get_or_wider}
use Rattle.sha2.specs.Sha256.{word_at}
use Rattle.bt_lanes.proofs.LaneWords.{below_eight}
use lib.Lanes.{Each1, chunk, number_l, digits_l}

-- the 32 bytes of a message from this one on
abbrev bytes_from : List ℕ → ℕ → List ℕ
bytes_from message at = chunk 0 32 (take (at + 32 - at) (drop at message))

-- these bytes, with those of each word the other way round
abbrev in_byte_order : List ℕ → List ℕ
in_byte_order bytes =
    slice_index bytes 3 ∷ slice_index bytes 2 ∷ slice_index bytes 1 ∷ slice_index bytes 0 ∷ slice_index bytes 7 ∷
    slice_index bytes 6 ∷ slice_index bytes 5 ∷ slice_index bytes 4 ∷ slice_index bytes 11 ∷ slice_index bytes 10 ∷
    slice_index bytes 9 ∷ slice_index bytes 8 ∷ slice_index bytes 15 ∷ slice_index bytes 14 ∷ slice_index bytes 13 ∷
    slice_index bytes 12 ∷ slice_index bytes 19 ∷ slice_index bytes 18 ∷ slice_index bytes 17 ∷
    slice_index bytes 16 ∷ slice_index bytes 23 ∷ slice_index bytes 22 ∷ slice_index bytes 21 ∷
    slice_index bytes 20 ∷ slice_index bytes 27 ∷ slice_index bytes 26 ∷ slice_index bytes 25 ∷
    slice_index bytes 24 ∷ slice_index bytes 31 ∷ slice_index bytes 30 ∷ slice_index bytes 29 ∷
    slice_index bytes 28 ∷ []

byte : (message : List ℕ) (at k n : ℕ) → k < 32 → at + k ≡ n → slice_index (bytes_from message at) k ≡ slice_index message n
byte message at k n lt e =
    let within : k < at + 32 - at = omega arith in
    get_or-take 32 (take (at + 32 - at) (drop at message)) k 0 lt ∙ get_or-take (at + 32 - at) (drop at message) k 0 within
    ∙ get_or-drop at message k 0 ∙ ap (slice_index message) e

word_of : (a b c d : ℕ) (message : List ℕ) (n : ℕ) → a ≡ slice_index message n → b ≡ slice_index message (n + 1)
    → c ≡ slice_index message (n + 2) → d ≡ slice_index message (n + 3)
    → number_l 256 (d ∷ c ∷ b ∷ a ∷ []) ≡ word_at message n
word_of a b c d message n ea eb ec ed = omega (arith, ea, eb, ec, ed)

below : (message : List ℕ) (at : ℕ) → ((i : ℕ) → Fits w8 (slice_index message i)) → (k : ℕ) → k < 32
    → slice_index (bytes_from message at) k < 256
below message at fits k lt =
    let held : slice_index message (at + k) < 256 = (fits (at + k)).fits in
    omega (arith, byte message at k (at + k) lt refl, held)

each_below : (message : List ℕ) (at : ℕ) → ((i : ℕ) → Fits w8 (slice_index message i))
    → Each1 (λ x. x < 256) (in_byte_order (bytes_from message at))
each_below message at fits =
    let one = below message at fits in (
      one 3 (omega arith),
      (
        one 2 (omega arith),
        (
          one 1 (omega arith),
          (
            one 0 (omega arith),
            (
              one 7 (omega arith),
              (
                one 6 (omega arith),
                (
                  one 5 (omega arith),
                  (
                    one 4 (omega arith),
                    (
                      one 11 (omega arith),
                      (
                        one 10 (omega arith),
                        (
                          one 9 (omega arith),
                          (
                            one 8 (omega arith),
                            (
                              one 15 (omega arith),
                              (
                                one 14 (omega arith),
                                (
                                  one 13 (omega arith),
                                  (
                                    one 12 (omega arith),
                                    (
                                      one 19 (omega arith),
                                      (
                                        one 18 (omega arith),
                                        (
                                          one 17 (omega arith),
                                          (
                                            one 16 (omega arith),
                                            (
                                              one 23 (omega arith),
                                              (
                                                one 22 (omega arith),
                                                (
                                                  one 21 (omega arith),
                                                  (
                                                    one 20 (omega arith),
                                                    (
                                                      one 27 (omega arith),
                                                      (
                                                        one 26 (omega arith),
                                                        (
                                                          one 25 (omega arith),
                                                          (
                                                            one 24 (omega arith),
                                                            (one 31 (omega arith), (one 30 (omega arith), (one 29 (omega arith), (one 28 (omega arith), tt)))),
                                                          ),
                                                        ),
                                                      ),
                                                    ),
                                                  ),
                                                ),
                                              ),
                                            ),
                                          ),
                                        ),
                                      ),
                                    ),
                                  ),
                                ),
                              ),
                            ),
                          ),
                        ),
                      ),
                    ),
                  ),
                ),
              ),
            ),
          ),
        ),
      ),
    )

-- vectors have the least significant byte of a word first
pub row_word : (message : List ℕ) (at : ℕ) → ((i : ℕ) → Fits w8 (slice_index message i)) → (i : ℕ) → i < 8
    → slice_index (digits_l 4294967296 8 (number_l 256 (in_byte_order (bytes_from message at)))) i ≡ word_at message (at + 4 * i)
row_word message at fits i lt =
    let bytes = bytes_from message at in
    get_or_wider 256 4 4294967296 8 (in_byte_order bytes) i refl (each_below message at fits) lt
    ∙ below_eight (λ (i : ℕ). number_l 256 (chunk (4 * i) 4 (in_byte_order bytes)) ≡ word_at message (at + 4 * i))
    (word_of (slice_index bytes 0) _ _ _ message (at + 4 * 0) (byte message at 0 _ (omega arith) (omega arith)) (byte message at 1 _ (omega arith) (omega arith))
    (byte message at 2 _ (omega arith) (omega arith)) (byte message at 3 _ (omega arith) (omega arith)))
    (word_of (slice_index bytes 4) _ _ _ message (at + 4 * 1) (byte message at 4 _ (omega arith) (omega arith)) (byte message at 5 _ (omega arith) (omega arith))
    (byte message at 6 _ (omega arith) (omega arith)) (byte message at 7 _ (omega arith) (omega arith)))
    (word_of (slice_index bytes 8) _ _ _ message (at + 4 * 2) (byte message at 8 _ (omega arith) (omega arith)) (byte message at 9 _ (omega arith) (omega arith))
    (byte message at 10 _ (omega arith) (omega arith)) (byte message at 11 _ (omega arith) (omega arith)))
    (word_of (slice_index bytes 12) _ _ _ message (at + 4 * 3) (byte message at 12 _ (omega arith) (omega arith)) (byte message at 13 _ (omega arith) (omega arith))
    (byte message at 14 _ (omega arith) (omega arith)) (byte message at 15 _ (omega arith) (omega arith)))
    (word_of (slice_index bytes 16) _ _ _ message (at + 4 * 4) (byte message at 16 _ (omega arith) (omega arith)) (byte message at 17 _ (omega arith) (omega arith))
    (byte message at 18 _ (omega arith) (omega arith)) (byte message at 19 _ (omega arith) (omega arith)))
    (word_of (slice_index bytes 20) _ _ _ message (at + 4 * 5) (byte message at 20 _ (omega arith) (omega arith)) (byte message at 21 _ (omega arith) (omega arith))
    (byte message at 22 _ (omega arith) (omega arith)) (byte message at 23 _ (omega arith) (omega arith)))
    (word_of (slice_index bytes 24) _ _ _ message (at + 4 * 6) (byte message at 24 _ (omega arith) (omega arith)) (byte message at 25 _ (omega arith) (omega arith))
    (byte message at 26 _ (omega arith) (omega arith)) (byte message at 27 _ (omega arith) (omega arith)))
    (word_of (slice_index bytes 28) _ _ _ message (at + 4 * 7) (byte message at 28 _ (omega arith) (omega arith)) (byte message at 29 _ (omega arith) (omega arith))
    (byte message at 30 _ (omega arith) (omega arith)) (byte message at 31 _ (omega arith) (omega arith))) i lt
