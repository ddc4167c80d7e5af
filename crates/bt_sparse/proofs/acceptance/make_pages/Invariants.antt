use Rattle.std.proofs.Common.{◌≡◌, take}
use Rattle.std.specs.List.{All}
use Rattle.bt_tree.specs.Blocks.{block_count}
use Rattle.bt_sparse.specs.NodeMap.{nodes_in}
use Rattle.bt_sparse.specs.AcceptanceSteps.{HasPlaces}
use Rattle.bt_sparse.proofs.acceptance.make_pages.Given as goal

abbrev pub invariant-loop-pair : goal.invariant-loop-pair
invariant-loop-pair l = record {
  same : nodes_in l.nodes ≡ nodes_in l.fn.nodes;
  ready : All (HasPlaces (block_count l.geometry) l.nodes) (take l.pair-index l.pairs);
}
