use Rattle.std.proofs.Common.{◌≡◌, ◌-◌, ◌<◌, ◌≤◌}
use Rattle.bt_engine_start.proofs.Recallings.{after}
use Rattle.bt_engine_start.proofs.recalling.recall_run.Given as goal

abbrev pub invariant-loop-block : goal.invariant-loop-block
invariant-loop-block g l = record {
  from : l.run.first ≤ l.block;
  within : l.run.first < l.block → l.block ≤ l.end;
  states : l.store.states ≡ after g.H.NodeHash.digest l.tree l.fn.store.states l.run.first (l.block - l.run.first);
  others : l.store ≡ record l.fn.store { states = l.store.states };
}
