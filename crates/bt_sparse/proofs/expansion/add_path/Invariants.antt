use Rattle.std.proofs.Common.{◌≡◌, ◌+◌, ◌++◌}
use Rattle.bt_sparse.specs.Claim.{run_top, path_node, path_digest}
use Rattle.bt_sparse.specs.ExpansionSteps.{path_pairs}
use Rattle.bt_sparse.proofs.expansion.add_path.Given as goal

abbrev pub invariant-loop-uncle : goal.invariant-loop-uncle
invariant-loop-uncle g l = record {
  pairs : l.pairs.items ≡ l.initial.pairs.items ++ path_pairs g.H.NodeHash.digest l.claim l.uncle-index;
  own : l.own ≡ path_digest g.H.NodeHash.digest l.claim l.uncle-index;
  node : l.node ≡ path_node l.claim l.uncle-index;
  layer : l.layer ≡ run_top l.claim + l.uncle-index;
}
