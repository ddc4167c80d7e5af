use Rattle.bt_store.specs.Adoption.{known}
use Rattle.bt_store.proofs.file_store.FileStore.adopt_known.Goals as goal

pub returns : goal.returns
returns g c =
    let run = c.judge_blocks-tally.ensures.judged in
    let dig = g.H.NodeHash.digest in
    let k = c.args.tree.now in
    let states = c.args.self.now.states in
    let count = c.known_batch-count.result in
    let reads = run.0 in (
      reads,
      record {
        calls = run.1.device.calls;
        adopts = rw (run.1.states, run.2.right, run.2.faults) (known count reads c.known_batch-count.ensures.group run.1.device.in_order);
        same_file = run.1.same_file;
      },
    )
