use Rattle.bt_machine.proofs.Survival.{flush_kept}
use Rattle.bt_machine.proofs.law.flush_keeps_blocks.Goals as goal

pub returns : goal.returns
returns g c = flush_kept g.D.Disk.conduct g.H.NodeHash.digest c.calls_keep_bytes.ensures.now
