use Rattle.std.proofs.Common.{ℕ, ◌+◌, ◌*◌, ◌<◌, ◌≤◌, get_or, None}
use Rattle.std.specs.Option.{IsSome}
use Rattle.bt_sparse.proofs.page.Page.held_run.Given as goal

-- the places of the row so far have digests, and it is no shorter than its part in the first word
abbrev pub invariant-loop-i : goal.invariant-loop-i
invariant-loop-i l = record {
  held : (j : ℕ) → j < l.run → IsSome (get_or l.self (l.place + j) None);
  low : l.run ≤ 64 * l.i;
  first : l.initial.run ≤ l.run;
}
