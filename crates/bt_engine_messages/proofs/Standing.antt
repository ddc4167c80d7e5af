-- A peer that stands in an engine, and is as it was.
use Rattle.std.proofs.Common.{◌≡◌, ℕ, List, Some, ap, sym, ◌∙◌}
use Rattle.std.specs.Prelude.{slice_get}
use Rattle.bt_machine.specs.State.{EngineState, PeerState}
use Rattle.bt_machine.specs.Blocks.{with_peer}
use Rattle.bt_machine.proofs.Lists.{set_id}
use Rattle.bt_engine_messages.specs.Peer.{IsPeerOf, as_told}
use Rattle.bt_engine_state.specs.declared.peer.Peer.{Peer}

pub kept : (s : EngineState) (i : ℕ) (p : PeerState) (old : Peer) → slice_get s.peers i ≡ Some p → IsPeerOf p old → with_peer s i (as_told p old) ≡ s
kept s i p old here is =
    ap (λ (q : PeerState). with_peer s i q) (sym is) ∙ ap (λ (peers : List PeerState). record s { peers = peers }) (set_id s.peers i here)
