use Rattle.std.proofs.Common.{◌≡◌, ℕ, ◌+◌, ◌*◌, ◌<◌, ◌++◌, get_or, [], length}
use Rattle.bt_tree.proofs.layer_fold.eight_parents.Given as goal

abbrev pub invariant-loop-j : goal.invariant-loop-j
invariant-loop-j g l = record {
  count : length l.pairs ≡ 8;
  done : (i : ℕ) → i < l.j → get_or l.pairs i [] ≡ get_or l.nodes (2 * i) [] ++ get_or l.nodes (2 * i + 1) [];
}
