use Rattle.std.proofs.Common.{◌≡◌, ◌+◌, ◌*◌, arith, refl, ap, ◌∙◌}
use Rattle.sha2.specs.Sha256.{add_state, compress, rounds}
use Rattle.sha2.proofs.Schedule256.{IsWindow_first}
use Rattle.bt_lanes.specs.LaneSteps.{lane_of, lane_of_eight}
use Rattle.bt_lanes.proofs.compression.compress.Goals as goal

pub first-init : goal.first-init
unfolding rounds
first-init c = λ j block lt words. refl

pub first-preserved : goal.first-preserved
first-preserved c = λ j block lt words.
    let next : 4 * c.first.four + 4 ≡ 4 * (c.first.four + 1) = omega arith in
    rw next at (c.first_rounds-next.ensures j (lane_of_eight j c.args.values) block lt words (c.first.invariant j block lt words))

pub rest-init : goal.rest-init
rest-init c = λ j block lt words.
    let done : c.first.four ≡ 4 = omega arith in
    (IsWindow_first block (lane_of j c.args.blocks.now) words.count words.each, rw done at (c.first.invariant j block lt words))

pub rest-preserved : goal.rest-preserved
rest-preserved c = λ j block lt words.
    let next : 4 * c.rest.four + 4 ≡ 4 * (c.rest.four + 1) = omega arith in
    rw next at (c.next_rounds-next.ensures j (lane_of_eight j c.args.values) block lt (c.rest.invariant j block lt words))

pub returns : goal.returns
unfolding compress
returns c = λ j block lt words.
    let done : c.rest.four ≡ 16 = omega arith in
    c.add_variables.ensures j lt ∙ ap (add_state (lane_of_eight j c.args.values)) (rw done at (c.rest.invariant j block lt words).1)
