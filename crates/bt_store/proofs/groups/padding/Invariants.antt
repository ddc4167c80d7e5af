use Rattle.std.proofs.Common.{◌≡◌, replicate}
use Rattle.bt_store.proofs.groups.padding.Given as goal

abbrev pub invariant-leaves : goal.invariant-leaves
invariant-leaves g l = l.leaves.items ≡ replicate l.counter l.leaf
