use Rattle.std.proofs.Common.{◌≡◌, ◌+◌, ◌-◌, ◌*◌, ◌^◌, ◌≤◌, ◌++◌, length}
use Rattle.bt_tree.specs.Blocks.{block_count}
use Rattle.bt_sparse.specs.Claim.{run_height, run_node}
use Rattle.bt_sparse.specs.ExpansionSteps.{covered_count, run_pairs, AreRunNodes}
use Rattle.bt_sparse.proofs.expansion.add_run.Given as goal

abbrev pub invariant-loop-above : goal.invariant-loop-above
invariant-loop-above g l = record {
  first : l.first ≡ run_node l.claim * 2 ^ (run_height l.claim - l.above);
  size : length l.nodes.items ≡ covered_count (block_count l.fn.geometry) l.claim l.above;
  nodes : AreRunNodes g.H.NodeHash.digest l.claim l.above l.first l.nodes.items;
  pairs : l.pairs.items ≡ l.fn.pairs.items ++ run_pairs g.H.NodeHash.digest (block_count l.fn.geometry) l.claim l.above;
  low : l.padding ≤ l.claim.base + l.above;
}
