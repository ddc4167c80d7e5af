use Rattle.std.proofs.Common.{List, ℕ, ap, ◌∙◌}
use Rattle.sha2.specs.Sha256.{digest_bytes, hash_after, initial_hash_256, sha256}
use Rattle.bt_lanes.proofs.Tails.{final_hash_tail}
use Rattle.bt_lanes.proofs.single.digest_single.Goals as goal

pub returns : goal.returns
unfolding sha256
returns c =
    let state = c.absorb.ensures ∙ ap (λ (n : ℕ). hash_after c.absorb-whole.result c.tail-tail.result n) c.tail_block_count.ensures in
    c.to_bytes.ensures
    ∙ ap (λ (h : List ℕ). digest_bytes h 8) (final_hash_tail initial_hash_256 c.args.message.now _ _ _ c.absorb-whole.ensures c.tail-tail.ensures state)
