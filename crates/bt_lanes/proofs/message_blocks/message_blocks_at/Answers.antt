use Rattle.std.proofs.Common.{◌≡◌, ℕ, ◌+◌, ◌*◌, ◌<◌, List, [], ◌∷◌, slice_index, arith, refl, sym, ap, ◌∙◌}
use Rattle.sha2.specs.Sha256.{word_at}
use Rattle.bt_lanes.specs.LaneSteps.{lane_word, message_at}
use Rattle.bt_lanes.proofs.LaneWords.{below_eight, below_sixteen}
use Rattle.bt_lanes.proofs.BlockWords.{word_at-block}
use Rattle.bt_lanes.proofs.message_blocks.message_blocks_at.Goals as goal

pub returns : goal.returns
returns c = λ j lt.
    let message = message_at c.args.messages.now j in
    let first = c.words_at.result in
    let second = c.words_at-2.result in
    let words : List ℕ = lane_word first 0 j ∷ lane_word first 1 j ∷ lane_word first 2 j ∷ lane_word first 3 j ∷ lane_word first 4 j ∷ lane_word first 5 j
    ∷ lane_word first 6 j ∷ lane_word first 7 j ∷ lane_word second 0 j ∷ lane_word second 1 j ∷ lane_word second 2 j
    ∷ lane_word second 3 j ∷ lane_word second 4 j ∷ lane_word second 5 j ∷ lane_word second 6 j ∷ lane_word second 7 j ∷ [] in
    let later = λ (i : ℕ) (below : i < 8).
    let place : c.args.at + 32 + 4 * i ≡ c.args.at + 4 * (8 + i) = omega arith in
    c.words_at-2.ensures i j below lt ∙ ap (word_at message) place in
    let low = below_eight (λ (k : ℕ). slice_index words k ≡ word_at message (c.args.at + 4 * k))
    (c.words_at.ensures 0 j (omega arith) lt) (c.words_at.ensures 1 j (omega arith) lt)
    (c.words_at.ensures 2 j (omega arith) lt) (c.words_at.ensures 3 j (omega arith) lt)
    (c.words_at.ensures 4 j (omega arith) lt) (c.words_at.ensures 5 j (omega arith) lt)
    (c.words_at.ensures 6 j (omega arith) lt) (c.words_at.ensures 7 j (omega arith) lt) in
    let high = below_eight (λ (k : ℕ). slice_index words (8 + k) ≡ word_at message (c.args.at + 4 * (8 + k)))
    (later 0 (omega arith)) (later 1 (omega arith)) (later 2 (omega arith)) (later 3 (omega arith))
    (later 4 (omega arith)) (later 5 (omega arith)) (later 6 (omega arith)) (later 7 (omega arith)) in
    record {
      count = refl;
      each = λ k below.
          below_sixteen (λ (k : ℕ). slice_index words k ≡ word_at message (c.args.at + 4 * k)) low high k below
          ∙ sym (word_at-block message c.args.at k below);
    }
