use Rattle.std.proofs.Common.{◌≡◌, ◌+◌, ◌*◌, ◌/◌, ◌%◌, arith, ap, ◌∙◌}
use Rattle.bt_lanes.specs.LaneSteps.{lane_word}
use Rattle.bt_lanes.proofs.message_blocks.transpose.Goals as goal

pub returns : goal.returns
returns c = λ i j lti lt.
    let i1 = i / 2 + 4 * (j % 2) in
    let j1 = 4 * (i % 2) + j / 2 in
    let i2 = i1 / 2 + 4 * (j1 % 2) in
    let j2 = 4 * (i1 % 2) + j1 / 2 in
    let vector : i2 / 2 + 4 * (j2 % 2) ≡ j = omega arith in
    let lane : 4 * (i2 % 2) + j2 / 2 ≡ i = omega arith in
    c.shuffle-3.ensures i j lti lt ∙ c.shuffle-2.ensures i1 j1 (omega arith) (omega arith)
    ∙ c.shuffle.ensures i2 j2 (omega arith) (omega arith)
    ∙ ap (λ v. lane_word c.args.rows v (4 * (i2 % 2) + j2 / 2)) vector ∙ ap (lane_word c.args.rows j) lane
