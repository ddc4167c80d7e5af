use Rattle.std.proofs.Common.{◌≡◌, ℕ, List, ◌+◌, ◌*◌, ◌<◌, take, drop, arith, sym, ap, ◌∙◌}
use Rattle.std.proofs.lemmas.List.{take-take}
use Rattle.sha2.specs.Sha256.{compress, hash_after}
use Rattle.sha2.proofs.Absorbing256.{hash_after_next}
use Rattle.bt_lanes.specs.LaneSteps.{message_at}
use Rattle.bt_lanes.proofs.single.absorb_next.Goals as goal

pub absorbed-preserved : goal.absorbed-preserved
absorbed-preserved c = λ start held.
    let bytes = c.args.bytes.now in
    let j = c.absorbed.j in
    let at : ℕ = c.args.first + j in
    let block : List ℕ = take 64 (drop (at * 64) bytes) in
    let lt : j < c.args.count = omega arith in
    let few : j < 8 = omega (arith, c.requires.few) in
    let whole : take 64 (drop 0 (message_at c.next_blocks-blocks.result j)) ≡ block =
    ap (take 64) (c.next_blocks-blocks.ensures.blocks j few lt) ∙ take-take 64 64 (drop (at * 64) bytes) (omega arith) in
    let is = rw whole at (c.message_blocks_at.ensures j few) in
    let next : at + 1 ≡ c.args.first + (j + 1) = omega arith in
    c.compress-next.ensures block (λ k below. c.schedules-schedules.ensures j k block few below is)
    ∙ ap (λ (value : List ℕ). compress value block) (c.absorbed.invariant start held) ∙ sym (hash_after_next start bytes at)
    ∙ ap (λ (n : ℕ). hash_after start bytes n) next
