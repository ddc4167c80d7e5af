use Rattle.std.proofs.Common.{◌≢◌, ℕ, ◌<◌, get_or}
use Rattle.bt_book.specs.declared.choking.Standing.{Standing}
use Rattle.bt_wire_tests.proofs.serve.is_new.Given as goal

abbrev pub invariant-loop-standing : goal.invariant-loop-standing
invariant-loop-standing l = (k : ℕ) (d : Standing) → k < l.standing-index → (get_or l.standings k d).peer.0 ≢ l.peer.0
