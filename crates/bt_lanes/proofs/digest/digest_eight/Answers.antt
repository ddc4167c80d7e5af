use Rattle.std.proofs.Common.{◌≡◌, ℕ, List, [], length, ap, sym, ◌∙◌, arith}
use Rattle.std.proofs.lemmas.List.{get_or-replicate}
use Rattle.sha2.specs.Sha256.{digest_bytes, hash_after, initial_hash_256, sha256}
use Rattle.bt_lanes.specs.LaneSteps.{lane_of_eight, message_at}
use Rattle.bt_lanes.specs.PaddingSteps.{tail_block_count, IsTail}
use Rattle.bt_lanes.proofs.BlockWords.{message_at_is}
use Rattle.bt_lanes.proofs.Tails.{IsTail_same, final_hash_tail}
use Rattle.bt_lanes.proofs.digest.digest_eight.Goals as goal

pub returns-then-len-eq0 : goal.returns-then-len-eq0
unfolding sha256
returns-then-len-eq0 c = λ j lt.
    let messages = c.args.messages.now in
    let m = message_at messages j in
    let len : c.args.len ≡ length m = sym (c.requires j lt) in
    let first : length (message_at messages 0) ≡ c.args.len = c.requires 0 (omega arith) in
    let one : 1 ≡ tail_block_count (length m) = omega arith in
    let whole = rw (c.initial_values.ensures j lt, len) at (c.absorb-whole.ensures j lt) in
    let tail : IsTail (message_at messages 0) c.tail-tail.result = rw (message_at_is messages 0) c.tail-tail.ensures in
    let before = lane_of_eight j c.absorb-whole.result in
    let state = c.absorb.ensures j lt ∙ ap (λ (b : List ℕ). hash_after before b 1) (get_or-replicate 8 j c.tail-tail.result [] lt)
    ∙ ap (λ (n : ℕ). hash_after before c.tail-tail.result n) one in
    c.digests.ensures j lt
    ∙ ap (λ (h : List ℕ). digest_bytes h 8)
    (final_hash_tail initial_hash_256 m _ _ _ whole (IsTail_same (message_at messages 0) m c.tail-tail.result (omega arith) (omega arith) tail) state)

pub returns : goal.returns
unfolding sha256
returns c = λ j lt.
    let m = message_at c.args.messages.now j in
    let len : c.args.len ≡ length m = sym (c.requires j lt) in
    let whole = rw (c.initial_values.ensures j lt, len) at (c.absorb-whole.ensures j lt) in
    let state = rw (c.slices.ensures.bytes j lt, c.tail_block_count.ensures, len) at (c.absorb-2.ensures j lt) in
    c.digests-2.ensures j lt
    ∙ ap (λ (h : List ℕ). digest_bytes h 8) (final_hash_tail initial_hash_256 m _ _ _ whole (c.tails-tails.ensures j lt) state)
