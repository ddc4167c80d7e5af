use Rattle.std.proofs.Common.{◌≡◌}
use Rattle.bt_tree.specs.Tree.{padding_digest}
use Rattle.bt_sparse.proofs.padding.Padding.rise.Given as goal

abbrev pub invariant-loop : goal.invariant-loop
invariant-loop g l = l.self-inside.digest ≡ padding_digest g.H.NodeHash.digest l.counter
