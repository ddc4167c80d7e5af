use Rattle.std.proofs.Common.{◌≡◌, length}
use Rattle.bt_engine_start.specs.TreesSteps.{AreTreesSoFar}
use Rattle.bt_engine_start.proofs.trees.new_trees.Given as goal

abbrev pub invariant-loop-number : goal.invariant-loop-number
invariant-loop-number g l = record {
  count : length l.trees.items ≡ l.number-index;
  each : AreTreesSoFar g.H.NodeHash.digest l.torrent l.first_files l.trees.items;
}
