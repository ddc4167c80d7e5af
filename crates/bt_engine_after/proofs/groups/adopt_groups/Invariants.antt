use Rattle.std.proofs.Common.{◌≡◌, ◌-◌}
use Rattle.std.specs.Prelude.{is_some}
use Rattle.bt_engine_state.specs.Parts.{pending_of}
use Rattle.bt_engine_after.specs.GroupSteps.{log_in, file_view}
use Rattle.bt_engine_after.proofs.Takings.{AreTaking}
use Rattle.bt_engine_after.proofs.groups.adopt_groups.Given as goal

abbrev pub invariant-loop-total : goal.invariant-loop-total
invariant-loop-total g l = record {
  taking : AreTaking g.D.Disk.conduct g.H.NodeHash.digest l.file (is_some l.fn.log) (file_view l.fn.tree l.fn.store (pending_of l.fn.log))
      l.total (file_view l.tree l.store (pending_of l.log));
  log : log_in l.log ≡ log_in l.fn.log;
}

abbrev pub decreases-loop-total : goal.decreases-loop-total
decreases-loop-total g l = l.blocks - l.total.next
