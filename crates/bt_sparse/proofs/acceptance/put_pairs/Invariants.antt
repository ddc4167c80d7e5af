use Rattle.std.proofs.Common.{ℕ, List, take, ◌≤◌, ◌*◌}
use Rattle.std.specs.List.{All}
use Rattle.bt_tree.specs.Blocks.{block_count}
use Rattle.bt_sparse.specs.NodeMap.{KeepsPlaces, nodes_in}
use Rattle.bt_sparse.specs.ExpansionSteps.{IsPairOf}
use Rattle.bt_sparse.specs.AcceptanceSteps.{AgreesAt, IsGrownBy}
use Rattle.bt_sparse.specs.declared.claim.Claim.{Claim}
use Rattle.bt_sparse.proofs.acceptance.put_pairs.Given as goal

abbrev pub invariant-loop-pair : goal.invariant-loop-pair
invariant-loop-pair l = record {
  limit : l.count ≤ 2 * l.pair-index;
  places : KeepsPlaces l.fn.nodes l.nodes;
  grown : (dig : List ℕ → List ℕ) (c : Claim) → All (IsPairOf dig c) l.pairs → AgreesAt dig (nodes_in l.fn.nodes) c
      → IsGrownBy dig c (block_count l.geometry) (nodes_in l.fn.nodes) (nodes_in l.nodes) l.count (take l.pair-index l.pairs);
}
