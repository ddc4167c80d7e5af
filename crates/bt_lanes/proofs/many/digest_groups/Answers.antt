use Rattle.std.proofs.Common.{◌≡◌, ℕ, ◌*◌, ◌/◌, List, [], Bor, length, take, drop, slice_index_or, ap, sym, ◌∙◌, arith, rules, length-drop}
use Rattle.std.proofs.lemmas.List.{length-take-le}
use Rattle.std.proofs.lemmas.Slice.{overwrites}
use Rattle.sha2.specs.Sha256.{sha256}
use Rattle.bt_lanes.specs.LaneSteps.{message_at}
use Rattle.bt_lanes.proofs.Groups.{group_at, digests_of_each, group_written}
use Rattle.bt_lanes.proofs.many.digest_groups.Goals as goal

pub groups-preserved : goal.groups-preserved
groups-preserved c =
    let messages = c.args.messages.now in
    let k = c.groups.k in
    let group = take 8 (drop (8 * k) messages) in
    let count = c.as_chunks.ensures.front_len in
    let long : length group ≡ 8 = length-take-le 8 (drop (8 * k) messages) (omega (arith, length-drop (8 * k) messages)) in
    let read = ap (λ (groups : List (List (Bor (List ℕ)))). slice_index_or groups k []) c.as_chunks.ensures.front
    ∙ group_at (length messages / 8) messages k (omega arith) in
    let eight : length c.digest_group.result ≡ 8 = search rules in
    let digests = digests_of_each group c.digest_group.result (eight ∙ sym long) (λ j lt.
    c.digest_group.ensures j (omega arith) ∙ ap (λ (g : List (Bor (List ℕ))). sha256 (message_at g j)) read) in
    record {
      count = search (rules, overwrites);
      written = rw c.copy_from_slice.ensures.after
          (group_written messages c.groups.out c.digest_group.result k _ eight (omega (arith, c.groups.invariant.count)) c.groups.invariant.written digests);
    }
