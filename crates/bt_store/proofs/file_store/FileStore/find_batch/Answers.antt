use Rattle.std.proofs.Common.{◌*◌, ◌≤◌, length, arith, subst}
use Rattle.bt_store.specs.SmallGroupsSteps.{IsBatchRead}
use Rattle.bt_store.proofs.Judgements.{within_parts}
use Rattle.bt_store.proofs.file_store.FileStore.find_batch.Goals as goal

pub returns-clause-read : goal.returns-clause-read
returns-clause-read g c =
    let d = g.D.Disk in
    let a = c.self.inside in
    let counts = c.read_batch-lengths.result in
    let buffer = c.read_batch-lengths.new.buffer in
    let size : c.args.count * 16384 ≤ length buffer = omega (arith, c.read_batch-lengths.auto.buffer, c.requires.few) in
    subst (λ s. IsBatchRead d.conduct g.H.NodeHash.digest s.file_length c.args.first c.digest_batch.result c.args.count s.disk c.read_batch-lengths.new.disk)
    c.self.view_is
    (record {
      counts = counts;
      buffer = buffer;
      are = record { within = within_parts a.geometry c.args.first c.args.count counts buffer size c.read_batch-lengths.ensures.within; found = c.digest_batch.ensures };
      calls = c.read_batch-lengths.ensures.calls;
    })
