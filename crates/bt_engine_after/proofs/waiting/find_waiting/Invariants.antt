use Rattle.std.proofs.Common.{◌≡◌, ◌-◌, ◌≤◌, length, map}
use Rattle.bt_engine_state.specs.Parts.{file_of}
use Rattle.bt_engine_state.proofs.Chains.{StandsAt}
use Rattle.bt_engine_after.specs.WaitingSteps.{listed_blocks, AreListed}
use Rattle.bt_engine_after.proofs.OtherMarks.{waiting_before}
use Rattle.bt_engine_after.proofs.waiting.find_waiting.Given as goal

abbrev pub invariant-loop-other : goal.invariant-loop-other
invariant-loop-other g l = record {
  stands : StandsAt l.slots l.tree l.other;
  blocks : listed_blocks l.listed.items ≡ waiting_before l.file l.tree (map file_of l.slots) l.other;
  runs : AreListed l.listed.items;
  few : length l.listed.items ≤ l.other;
}

abbrev pub decreases-loop-other : goal.decreases-loop-other
decreases-loop-other g l = length l.slots - l.other
