use Rattle.std.proofs.Common.{◌≡◌, ℕ, [], length, get_or}
use Rattle.bt_sparse.proofs.node_map.NodeMap.lengthen.Given as goal

abbrev pub invariant-loop : goal.invariant-loop
invariant-loop l = record {
  same : (layer : ℕ) → get_or l.self-inside.layers.items layer [] ≡ get_or l.fn.self layer [];
  size : length l.self-inside.layers.items ≡ l.counter;
}
