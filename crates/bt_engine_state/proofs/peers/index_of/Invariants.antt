use Rattle.std.proofs.Common.{◌≡◌, ◌≢◌, ℕ, ◌<◌, Some}
use Rattle.std.specs.Prelude.{slice_get}
use Rattle.bt_engine_state.specs.declared.peer.Peer.{Peer}
use Rattle.bt_engine_state.proofs.peers.index_of.Given as goal

abbrev pub invariant-loop-index : goal.invariant-loop-index
invariant-loop-index g l = (j : ℕ) (p : Peer) → j < l.index → slice_get l.parts.peers.items j ≡ Some p → p.key ≢ l.key
