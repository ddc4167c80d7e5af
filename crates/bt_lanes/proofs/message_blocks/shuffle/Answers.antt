use Rattle.std.proofs.Common.{◌≡◌, ℕ, ◌+◌, ◌*◌, ◌/◌, ◌%◌, List, [], ◌∷◌, arith, refl, ◌∙◌}
use Rattle.bt_lanes.specs.LaneSteps.{lane_word}
use Rattle.bt_lanes.proofs.LaneWords.{below_eight}
use Rattle.bt_lanes.proofs.Shuffles.{one_of_two}
use Rattle.bt_lanes.proofs.message_blocks.shuffle.Goals as goal

pub returns : goal.returns
returns c = λ i j lti lt.
    let vectors = c.args.vectors in
    let result : List (List ℕ) = c.take_turns.result.0 ∷ c.take_turns.result.1 ∷ c.take_turns-2.result.0 ∷ c.take_turns-2.result.1
    ∷ c.take_turns-3.result.0 ∷ c.take_turns-3.result.1 ∷ c.take_turns-4.result.0 ∷ c.take_turns-4.result.1 ∷ [] in
    below_eight (λ (i : ℕ). lane_word result i j ≡ lane_word vectors (i / 2 + 4 * (j % 2)) (4 * (i % 2) + j / 2))
    (c.take_turns.ensures.lower j lt ∙ one_of_two vectors 0 j (j / 2) (0 + j / 2) (omega arith))
    (c.take_turns.ensures.upper j lt ∙ one_of_two vectors 0 j (4 + j / 2) (4 + j / 2) refl)
    (c.take_turns-2.ensures.lower j lt ∙ one_of_two vectors 1 j (j / 2) (0 + j / 2) (omega arith))
    (c.take_turns-2.ensures.upper j lt ∙ one_of_two vectors 1 j (4 + j / 2) (4 + j / 2) refl)
    (c.take_turns-3.ensures.lower j lt ∙ one_of_two vectors 2 j (j / 2) (0 + j / 2) (omega arith))
    (c.take_turns-3.ensures.upper j lt ∙ one_of_two vectors 2 j (4 + j / 2) (4 + j / 2) refl)
    (c.take_turns-4.ensures.lower j lt ∙ one_of_two vectors 3 j (j / 2) (0 + j / 2) (omega arith))
    (c.take_turns-4.ensures.upper j lt ∙ one_of_two vectors 3 j (4 + j / 2) (4 + j / 2) refl) i lti
