use Rattle.std.proofs.Common.{◌≡◌, length}
use Rattle.bt_store.specs.Adoption.{marked_group}
use Rattle.bt_store.proofs.groups.mark_group.Given as goal

abbrev pub invariant-loop-j : goal.invariant-loop-j
invariant-loop-j l = record {
  states : l.states ≡ marked_group l.first l.j l.fn.states;
  size : length l.states ≡ length l.fn.states;
}
