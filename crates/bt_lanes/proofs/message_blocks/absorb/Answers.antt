use Rattle.std.proofs.Common.{◌≡◌, ℕ, List, ◌*◌, take, drop, arith, refl, sym, ap, ◌∙◌}
use Rattle.sha2.specs.Sha256.{compress, hash_after}
use Rattle.sha2.proofs.Absorbing256.{hash_after_next}
use Rattle.bt_lanes.specs.LaneSteps.{lane_of_eight, message_at}
use Rattle.bt_lanes.proofs.message_blocks.absorb.Goals as goal

pub absorbed-init : goal.absorbed-init
unfolding hash_after
absorbed-init c = λ j lt. refl

pub absorbed-preserved : goal.absorbed-preserved
absorbed-preserved c = λ j lt.
    let message = message_at c.args.messages.now j in
    let start : 64 * c.absorbed.i ≡ c.absorbed.i * 64 = omega arith in
    let block = take 64 (drop (c.absorbed.i * 64) message) in
    c.compress-next.ensures j block lt (rw start at (c.message_blocks_at.ensures j lt))
    ∙ ap (λ (value : List ℕ). compress value block) (c.absorbed.invariant j lt)
    ∙ sym (hash_after_next (lane_of_eight j c.args.values) message c.absorbed.i)
