use Rattle.std.proofs.Common.{◌≡◌, ◌≤◌, ◌++◌, length, take, drop, Some, ap, ◌∙◌, subst, rules, arith}
use Rattle.std.proofs.lemmas.List.{take_at, take-append-le}
use Rattle.bt_tree.specs.Blocks.{block_length}
use Rattle.bt_disk.specs.Calls.{IsAnswered, bytes_given, read_fault}
use Rattle.bt_sparse.specs.SparseTree.{value_at}
use Rattle.bt_store.specs.BlockReads.{given, failed}
use Rattle.bt_store.specs.BatchesSteps.{found_of}
use Rattle.bt_store.specs.ReviewSteps.{verdict_of}
use Rattle.bt_store.specs.SingleBlockSteps.{fault}
use Rattle.bt_store.proofs.BatchReads.{one_given, one_failed}
use Rattle.bt_store.proofs.SingleBlocks.{given_comes}
use Rattle.bt_store.proofs.single_block.read_block.Goals as goal

pub returns-in_default-clause-read : goal.returns-in_default-clause-read
returns-in_default-clause-read g c =
    let d = g.D.Disk in
    let w = c.in_default.ensures in
    let i = c.args.block in
    let n = c.args.tree.now.file_length in
    let slot = c.read_at.new.out in
    let place : c.block_len-length.result ≡ block_length n i = c.block_len-length.ensures.value ∙ ap (λ m. block_length m i) c.geometry-geometry.ensures.value in
    let fits : c.block_len-length.result ≤ length c.args.out.now = omega (arith, place, c.requires.room) in
    let size : length slot ≡ c.block_len-length.result = search rules in (
      failed i,
      one_failed d.conduct n i c.args.disk.now c.read_at.new.self slot (size ∙ place) w.counted w.as_honest
          (λ h. subst (λ at. IsAnswered (d.conduct.history c.args.disk.now) (read_fault at (length slot)) (d.conduct.history c.read_at.new.self)) c.offset_of.ensures (w.answered h)),
      fault,
    )

pub returns-clause-read : goal.returns-clause-read
returns-clause-read g c =
    let d = g.D.Disk in
    let dig = g.H.NodeHash.digest in
    let w = c.in-Ok.ensures in
    let k = c.args.tree.now in
    let i = c.args.block in
    let count = c.in-Ok.count in
    let slot = c.read_at.new.out in
    let length_here = c.block_len-length.result in
    let rest = drop length_here c.args.out.now in
    let place : length_here ≡ block_length k.file_length i = c.block_len-length.ensures.value ∙ ap (λ m. block_length m i) c.geometry-geometry.ensures.value in
    let fits : length_here ≤ length c.args.out.now = omega (arith, place, c.requires.room) in
    let size : length slot ≡ length_here = search rules in
    let found : c.digest_slot-found.result ≡ found_of dig k.file_length i (Some count) slot =
    c.digest_slot-found.ensures ∙ ap (λ s. found_of dig c.geometry-geometry.result i (Some count) s) (take_at slot rest length_here size)
    ∙ ap (λ m. found_of dig m i (Some count) slot) c.geometry-geometry.ensures.value in
    let verdict : c.verdict_of.result ≡ verdict_of (value_at dig k 0 i) (found_of dig k.file_length i (Some count) slot) =
    c.verdict_of.ensures ∙ ap (λ o. verdict_of o c.digest_slot-found.result) c.known.ensures ∙ ap (verdict_of (value_at dig k 0 i)) found in (
      given i (take count slot),
      one_given d.conduct k.file_length i c.args.disk.now c.read_at.new.self slot count (size ∙ place) w.counted w.as_honest
          (λ h. subst (λ at. IsAnswered (d.conduct.history c.args.disk.now) (bytes_given at (length slot) (take count slot)) (d.conduct.history c.read_at.new.self)) c.offset_of.ensures (w.answered h)),
      rw verdict (given_comes dig k i (slot ++ rest) count slot w.within (take-append-le count slot rest w.within)),
    )
