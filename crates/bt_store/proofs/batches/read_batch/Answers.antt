use Rattle.std.proofs.Common.{◌≡◌, ◌+◌, ◌*◌, ◌-◌, ◌<◌, ◌≤◌, length, None, IfSome, refl, subst, sym, ◌∙◌, arith, rules}
use Rattle.std.proofs.Common.{map}
use Rattle.std.proofs.Math.ListN.{length-set}
use Rattle.bt_disk.specs.Calls.{HasCalls, IsAnswered, read_call}
use Rattle.bt_disk.proofs.CallLists.{has_none}
use Rattle.bt_tree.specs.Blocks.{block_length}
use Rattle.bt_store.specs.BlockReads.{call_of}
use Rattle.bt_store.proofs.BatchReads.{run_next, reads_none, given_within}
use Rattle.bt_store.proofs.Found.{filled_fact}
use Rattle.bt_store.proofs.batches.read_batch.Goals as goal

pub loop-j-init : goal.loop-j-init
loop-j-init g c =
    let d = g.D.Disk in record {
      size = refl;
      within = λ t lt. absurd (omega arith);
      calls = subst (λ reads. HasCalls d.conduct c.args.disk.now (map (call_of c.args.geometry) reads) c.args.disk.now) (sym (reads_none _ _ _))
          (has_none d.conduct c.args.disk.now);
    }

pub loop-j-preserved : goal.loop-j-preserved
loop-j-preserved g c =
    let d = g.D.Disk in
    let w = c.read_at.ensures in
    let i = c.args.first + c.loop-j.j in
    let size : length c.read_at.new.out ≡ block_length c.args.geometry i = search rules in
    let in_lengths : c.loop-j.j < length c.loop-j.lengths =
    omega (arith, c.loop-j.invariant.size, c.loop-j-test.true, c.loop-j.auto.j-end, c.requires.few) in
    let in_buffer : c.loop-j.j * 16384 ≤ length c.loop-j.buffer =
    omega (arith, c.loop-j.auto.buffer, c.requires.room, c.loop-j-test.true, c.loop-j.auto.j-end, c.requires.few) in
    let next = run_next d.conduct c.args.geometry c.args.first c.loop-j.j (c.loop-j.j * 16384 + c.block_len.result - c.loop-j.j * 16384)
    c.args.disk.now c.loop-j.disk c.read_at.new.self c.loop-j.lengths c.loop-j.buffer c.read_at.new.out c.read_at.result
    c.loop-j.invariant.calls in_lengths in_buffer size w.within w.counted w.as_honest
    (λ h. subst (λ at. IsAnswered (d.conduct.history c.loop-j.disk) (read_call at c.read_at.new.out c.read_at.result) (d.conduct.history c.read_at.new.self)) c.offset_of.ensures (w.answered h)) in
    let given : IfSome c.ok.result (λ n. n ≤ block_length c.args.geometry i) =
    rw c.ok.ensures.value (given_within (block_length c.args.geometry i) c.read_at.new.out c.read_at.result size w.within) in
    record {
      size = length-set c.loop-j.lengths c.loop-j.j c.ok.result ∙ c.loop-j.invariant.size;
      within = filled_fact (λ t count. IfSome count (λ n. n ≤ block_length c.args.geometry (c.args.first + t))) c.loop-j.lengths c.loop-j.j c.ok.result None
          in_lengths c.loop-j.invariant.within given;
      calls = rw c.ok.ensures.value next;
    }
