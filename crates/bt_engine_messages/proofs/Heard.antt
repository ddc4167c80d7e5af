-- A peer of an engine's parts that changes, with what it is asked for.
use Rattle.bt_machine.proofs.Base.{◌≡◌, ℕ, List, [], Option, Some, subst, refl, sym, ap, ◌∙◌, slice_get, PeerKey, BlockId}
use Rattle.std.specs.Vec.{with_item}
use Rattle.bt_machine.proofs.Lists.{some_is}
use Rattle.bt_book.specs.Book.{BookState, KeepsOthers, asked_of, peers_of}
use Rattle.bt_wire.specs.Cutter.{Stream}
use Rattle.bt_machine.specs.State.{EngineState, PeerState}
use Rattle.bt_machine.specs.Blocks.{with_peer}
use Rattle.bt_engine_state.specs.Parts.{state_of, peer_of}
use Rattle.bt_engine_state.specs.Ties.{IsTied}
use Rattle.bt_engine_state.specs.declared.peer.Peer.{Peer}
use Rattle.bt_engine_state.specs.declared.parts.Parts.{Parts}
use Rattle.bt_engine_state.proofs.PeerLists.{peers_set}
use Rattle.bt_engine_state.proofs.Ties.{tied_set, tied_again}
use Rattle.bt_wire.specs.declared.message.Message.{Message as Sent}
use Rattle.bt_machine.specs.declared.answer.Why.{Why}
use Rattle.bt_machine.specs.WireEvents.{HandlesMessage}
use Rattle.bt_engine_state.proofs.Lists.{get_mapped}
use Rattle.bt_engine_messages.specs.Peer.{as_told}
use Rattle.bt_engine_messages.specs.Message.{TakesMessage, asked_after, closing_if_any}

module _ {D H : Type 0} (old : Parts D H) (i : ℕ) {p : Peer} (q : Peer) (book : BookState) (tied : IsTied old)
    (here : slice_get old.peers.items i ≡ Some p) (same : q.key ≡ p.key) where
  -- the parts are tied where the peer and its requests changed
  pub tied_heard : book.wanted ≡ old.book.wanted → peers_of book ≡ peers_of old.book
      → IsTied (record old { peers = with_item old.peers i q; book = book })
  tied_heard wanted peers =
      let set = tied_set old i q tied here same in
      tied_again (record old { peers = with_item old.peers i q }) (record old { peers = with_item old.peers i q; book = book })
      set refl refl refl refl refl refl wanted (set.joined ∙ sym peers) set.in_order set.room

  -- and of the machine's peers it alone is another
  pub state_heard : KeepsOthers old.book book p.key
      → state_of (record old { peers = with_item old.peers i q; book = book }) ≡ with_peer (state_of old) i (peer_of book q)
  state_heard others =
      ap {A = List PeerState} (λ peers. record (state_of old) { peers = peers })
      (peers_set old.book book old.peers.items i tied.in_order here others q)

-- a peer that is told of alone
pub told_so : (old book : BookState) (p q : Peer) (asked : List BlockId) → q.key ≡ p.key → q.cutter ≡ p.cutter → q.payload ≡ p.payload
    → asked_of book p.key ≡ asked → record (as_told (peer_of old p) q) { asked = asked } ≡ peer_of book q
told_so old book p q asked key cutter payload is =
    ap (λ (k : PeerKey). record (peer_of book q) { key = k; stream = p.cutter; payload = p.payload; asked = asked }) (sym key)
    ∙ ap (λ (s : Stream). record (peer_of book q) { stream = s; payload = p.payload; asked = asked }) (sym cutter)
    ∙ ap (λ (n : ℕ). record (peer_of book q) { payload = n; asked = asked }) (sym payload)
    ∙ ap (λ (bs : List BlockId). record (peer_of book q) { asked = bs }) (sym is ∙ ap (λ (k : PeerKey). asked_of book k) (sym key))

-- the machine takes the message so
module _ {D H : Type 0} (old : Parts D H) (i : ℕ) {p : Peer} (q : Peer) (book : BookState) (tied : IsTied old)
    (here : slice_get old.peers.items i ≡ Some p) (same : q.key ≡ p.key) where
  pub heard_so : (dig : List ℕ → List ℕ) (message : Sent) (closed : Option Why) (x : PeerState) → slice_get (state_of old).peers i ≡ Some x
      → q.cutter ≡ p.cutter → q.payload ≡ p.payload → KeepsOthers old.book book p.key
      → asked_of book p.key ≡ asked_after message (asked_of old.book p.key)
      → TakesMessage dig (state_of old) i (peer_of old.book p) message q closed
      → HandlesMessage dig (state_of old) i x message [] (closing_if_any closed) (state_of (record old { peers = with_item old.peers i q; book = book }))
  heard_so dig message closed x at cutter payload others asked takes =
      let is : peer_of old.book p ≡ x = some_is (sym (get_mapped (peer_of old.book) old.peers.items i here) ∙ at) in
      let after = ap (λ (y : PeerState). with_peer (state_of old) i y) (told_so old.book book p q (asked_after message (asked_of old.book p.key)) same cutter payload asked)
      ∙ sym (state_heard old i q book tied here same others) in
      subst (λ (y : PeerState). HandlesMessage dig (state_of old) i y message [] (closing_if_any closed) (state_of (record old { peers = with_item old.peers i q; book = book }))) is
      (subst (λ (t : EngineState). HandlesMessage dig (state_of old) i (peer_of old.book p) message [] (closing_if_any closed) t) after takes)
