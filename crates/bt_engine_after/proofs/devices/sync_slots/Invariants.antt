use Rattle.bt_engine_after.proofs.Flushes.{AreSyncedBelow}
use Rattle.bt_engine_after.proofs.devices.sync_slots.Given as goal

abbrev pub invariant-loop-slot : goal.invariant-loop-slot
invariant-loop-slot g l = AreSyncedBelow g.D.Disk.conduct l.fn.slots l.slots l.slot-index
