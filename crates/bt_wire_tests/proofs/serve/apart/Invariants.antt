use Rattle.std.proofs.Common.{◌≢◌, ℕ, ◌<◌, get_or}
use Rattle.bt_book.specs.declared.choking.Standing.{Standing}
use Rattle.bt_wire_tests.proofs.serve.apart.Given as goal

abbrev pub invariant-loop-index : goal.invariant-loop-index
invariant-loop-index l = (i j : ℕ) (d : Standing) → i < j → j < l.index → (get_or l.standings i d).peer.0 ≢ (get_or l.standings j d).peer.0
