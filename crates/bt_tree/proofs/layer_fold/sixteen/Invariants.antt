use Rattle.std.proofs.Common.{◌≡◌, ℕ, ◌<◌, ◌≤◌, get_or, [], length}
use Rattle.bt_tree.proofs.layer_fold.sixteen.Given as goal

abbrev pub invariant-loop-i : goal.invariant-loop-i
invariant-loop-i l = record {
  count : length l.nodes ≡ 16;
  given : (k : ℕ) → k < l.i → get_or l.nodes k [] ≡ get_or l.digests k [];
  padding : (k : ℕ) → l.i ≤ k → k < 16 → get_or l.nodes k [] ≡ l.fn.padding;
}
