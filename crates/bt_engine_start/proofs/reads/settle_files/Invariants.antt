use Rattle.bt_engine_start.proofs.Readings.{AreSettledBelow}
use Rattle.bt_engine_start.proofs.reads.settle_files.Given as goal

abbrev pub invariant-loop-slot : goal.invariant-loop-slot
invariant-loop-slot g l =
    AreSettledBelow g.D.Disk.conduct g.H.NodeHash.digest l.trees l.slot-index l.fn.slots l.slots
