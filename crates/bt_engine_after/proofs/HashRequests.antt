-- The peer at a place is sent a hash request, or none.
use Rattle.bt_machine.proofs.Base.{◌≡◌, ℕ, List, Some, None, refl, sym, ap, slice_get, HashKey, HashRequest}
use Rattle.std.specs.Vec.{with_item}
use Rattle.bt_machine.proofs.Lists.{set_id}
use Rattle.bt_machine.specs.declared.hash_state.HashState.TheVariants.{Idle, Asked}
use Rattle.bt_machine.specs.State.{PeerState}
use Rattle.bt_machine.specs.FollowUp.{requests, rests}
use Rattle.bt_engine_state.specs.Parts.{state_of, peer_of}
use Rattle.bt_engine_state.specs.Ties.{IsTied}
use Rattle.bt_engine_state.specs.declared.peer.Peer.{Peer}
use Rattle.bt_engine_state.specs.declared.parts.Parts.{Parts}
use Rattle.bt_engine_state.proofs.Lists.{get_mapped}
use Rattle.bt_engine_state.proofs.Ties.{state_set}
use Rattle.bt_engine_after.specs.HashRequestsSteps.{AreHashesRequested, AsksForLeast, NeedsNoLeaf}

module _ {D H : Type 0} (dig : List ℕ → List ℕ) (old : Parts D H) (i : ℕ) (p : Peer) (tied : IsTied old) (here : slice_get old.peers.items i ≡ Some p) where
  pub sends_none : (p.hash ≡ Idle → NeedsNoLeaf dig (state_of old) (peer_of old.book p)) → AreHashesRequested dig (state_of old) i None (state_of old)
  sends_none none =
      let at = get_mapped (peer_of old.book) old.peers.items i here in
      record {
        peer = peer_of old.book p;
        after = peer_of old.book p;
        here = at;
        requests = rests none refl refl;
        now = sym (ap (λ (ps : List PeerState). record (state_of old) { peers = ps }) (set_id (state_of old).peers i at));
      }

  pub sends_one : (key : HashKey) → p.hash ≡ Idle → AsksForLeast dig (state_of old) (peer_of old.book p) key
      → AreHashesRequested dig (state_of old) i (Some (HashRequest key)) (state_of (record old { peers = with_item old.peers i (record p { hash = Asked key }) }))
  sends_one key idle asks = record {
    peer = peer_of old.book p;
    after = record (peer_of old.book p) { hash = Asked key };
    here = get_mapped (peer_of old.book) old.peers.items i here;
    requests = requests asks.block asks.tree key idle asks.least asks.has_tree asks.plan refl refl;
    now = state_set old i (record p { hash = Asked key }) tied here refl;
  }
