use Rattle.std.proofs.Common.{◌-◌, length}
use Rattle.bt_engine_state.proofs.Chains.{StandsAt}
use Rattle.bt_engine_after.proofs.OtherFiles.{AreSettled}
use Rattle.bt_engine_after.proofs.settling.settle_others.Given as goal

abbrev pub invariant-loop-other : goal.invariant-loop-other
invariant-loop-other g l = record {
  stands : StandsAt l.fn.parts.slots.items l.tree l.other;
  settled : AreSettled g.D.Disk.conduct g.H.NodeHash.digest l.file l.tree l.fn.parts l.other l.parts;
}

abbrev pub decreases-loop-other : goal.decreases-loop-other
decreases-loop-other g l = length l.fn.parts.slots.items - l.other
