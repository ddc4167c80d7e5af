use Rattle.std.proofs.Common.{◌≡◌, ℕ, ◌<◌, get_or, []}
use Rattle.bt_sparse.proofs.padding.is_run_padded.Given as goal

abbrev pub invariant-loop-digest : goal.invariant-loop-digest
invariant-loop-digest g l = (j : ℕ) → j < l.digest-index → get_or l.digest-items j [] ≡ l.padding
