use Rattle.std.proofs.Common.{◌≡◌, ℕ, ◌+◌, ◌<◌, ◌≤◌, true}
use Rattle.bt_store.specs.ReviewSteps.{is_chosen}
use Rattle.bt_store.proofs.file_store.FileStore.chosen_batch.Given as goal

abbrev pub invariant-loop-count : goal.invariant-loop-count
invariant-loop-count g l = record {
  inside : l.from + l.count ≤ l.end;
  chosen : (j : ℕ) → j < l.count → is_chosen g.H.NodeHash.digest l.tree l.review l.self.states (l.from + j) ≡ true;
}
