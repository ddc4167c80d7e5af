use Rattle.bt_machine.proofs.Survival.{flushes_kept}
use Rattle.bt_machine.proofs.law.runs_keep_flushed_blocks.Goals as goal

pub returns : goal.returns
returns g c = flushes_kept g.D.Disk.conduct g.H.NodeHash.digest
    c.adopt_marks_by_bytes.ensures c.calls_keep_bytes.ensures.later g.met.D.Disk.reads_image c.calls_keep_bytes.ensures.now
