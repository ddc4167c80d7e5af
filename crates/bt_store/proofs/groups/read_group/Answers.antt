use Rattle.std.proofs.Common.{◌≡◌, ◌+◌, ◌*◌, ◌-◌, ◌≤◌, [], ◌++◌, length, min, refl, ◌∙◌, arith}
use Rattle.bt_store.specs.BatchesSteps.{batch_reads}
use Rattle.bt_store.proofs.Judgements.{within_parts}
use Rattle.bt_store.proofs.GroupReads.{group_start, group_next}
use Rattle.bt_store.proofs.groups.read_group.Goals as goal

pub loop-done-init : goal.loop-done-init
loop-done-init g c =
    let d = g.D.Disk in record {
      read = ([], group_start d.conduct g.H.NodeHash.digest c.args.geometry c.args.first (length c.args.digests.now) c.args.disk.now c.args.digests.now c.requires.padded);
      within = omega arith;
      size = refl;
      room = c.requires.room;
    }

pub loop-done-preserved : goal.loop-done-preserved
loop-done-preserved g c =
    let d = g.D.Disk in
    let before = c.loop-done.invariant in
    let m = c.min-batch.result in
    let counts = c.read_batch-lengths.result in
    let buffer = c.read_batch-lengths.new.buffer in
    let room : length buffer ≡ 8 * 16384 = c.read_batch-lengths.auto.buffer ∙ before.room in
    let size : m ≡ min (c.args.count - c.loop-done.done) 8 = c.min-batch.ensures in
    let first = c.args.first + c.loop-done.done in
    let inside : c.loop-done.done + m ≤ c.args.count = omega (arith, size, before.within) in
    let next = group_next d.conduct g.H.NodeHash.digest c.args.geometry c.args.first (length c.args.digests.now) c.loop-done.done m
    c.args.disk.now c.loop-done.disk c.read_batch-lengths.new.disk before.read.0 c.loop-done.tally c.loop-done.digests counts buffer c.digest_batch-blocks_found.result before.read.1
    (omega (arith, inside, c.requires.fits)) c.read_batch-lengths.ensures.calls
    (within_parts c.args.geometry first m counts buffer (omega (arith, size, room)) c.read_batch-lengths.ensures.within) c.digest_batch-blocks_found.ensures in
    record {
      read = (
        before.read.0 ++ batch_reads first counts buffer m,
        rw (c.note_found-tally.ensures.digests, c.note_found-tally.ensures.tally) next,
      );
      within = inside;
      size = c.note_found-tally.auto.digests ∙ before.size;
      room = room;
    }
