-- The parts of an engine at the beginning of a turn.
use Rattle.bt_machine.proofs.Base.{[], ◌≡◌, ◌≢◌, ℕ, suc, ◌<◌, ◌≤◌, Bool, not, List, ◌∷◌, ◌++◌, map, flat_map, Some, slice_get, refl, sym, ap, ◌∙◌, arith, PeerKey, max_peers}
use Rattle.std.specs.Vec.{vec_capacity}
use Rattle.std.proofs.lemmas.Simd.{map-map}
use Rattle.std.proofs.lemmas.List.Folds.{flat_map-map}
use Rattle.bt_book.specs.Book.{BookState}
use Rattle.bt_book.specs.Choking.{IsChoice, HaveOwnKeys}
use Rattle.bt_book.specs.declared.choking.Standing.{Standing}
use Rattle.bt_machine.proofs.Lists.{map_contains}
use Rattle.bt_machine.proofs.Pairs.{to_pairs, from_pairs, pairs_map, contains_some}
use Rattle.bt_machine.specs.Output.{Sent}
use Rattle.bt_machine.specs.State.{PeerState}
use Rattle.bt_machine.specs.Rechoke.{standing_of, is_served as serves, rechoked_peer, rechoked, next_turn, choking_sent, chokes_sent}
use Rattle.bt_engine_state.specs.Parts.{state_of, peer_of}
use Rattle.bt_engine_state.specs.Ties.{IsTied}
use Rattle.bt_engine_state.specs.declared.peer.Peer.{Peer}
use Rattle.bt_engine_state.specs.declared.parts.Parts.{Parts}
use Rattle.bt_engine_state.proofs.Lists.{map_agree}
use Rattle.bt_engine_state.proofs.PeerLists.{AreInOrder}
use Rattle.bt_engine_state.proofs.Ties.{tied_again}
use Rattle.bt_engine_after.specs.ServingSteps.{standing_at, is_served, served_peer, served_sent}
use Rattle.bt_engine_after.proofs.Choices.{is_same}

pub same_standings : (book : BookState) (peers : List Peer) → map standing_of (map (peer_of book) peers) ≡ map standing_at peers
same_standings book peers = map-map standing_of (peer_of book) peers

pub own_keys : (peers : List Peer) → AreInOrder peers → HaveOwnKeys (map standing_at peers)
own_keys peers in_order =
    from_pairs (λ (s t : Standing). s.peer.0 ≢ t.peer.0) (map standing_at peers)
    (pairs_map (λ (p q : Peer). p.key.0 < q.key.0) (λ (s t : Standing). s.peer.0 ≢ t.peer.0) standing_at peers (λ p q lt same. absurd (omega (arith, lt, same)))
    (to_pairs (λ (p q : Peer). p.key.0 < q.key.0) peers in_order))

flat_agree : {X Y : Type 0} (f g : X → List Y) (xs : List X) → ((j : ℕ) (x : X) → slice_get xs j ≡ Some x → g x ≡ f x) → flat_map g xs ≡ flat_map f xs
flat_agree f g [] same = refl
flat_agree f g (x ∷ xs) same =
    ap (λ ys. ys ++ flat_map g xs) (same 0 x refl) ∙ ap (λ ys. f x ++ ys) (flat_agree f g xs (λ j y e. same (suc j) y e))

module _ {D H : Type 0} (old : Parts D H) (served : List PeerKey) (tied : IsTied old)
    (choice : IsChoice (map standing_of (state_of old).peers) old.turn served) where
  served_alike : (j : ℕ) (p : Peer) → slice_get old.peers.items j ≡ Some p → is_served served p ≡ serves (state_of old) (peer_of old.book p)
  served_alike j p here =
      let same = same_standings old.book old.peers.items in
      is_same (map standing_of (state_of old).peers) old.turn served (rw same (own_keys old.peers.items tied.in_order)) choice (standing_at p)
      (rw same (map_contains standing_at old.peers.items (contains_some old.peers.items j here)))

  sent_alike : flat_map (served_sent old.book served) old.peers.items ≡ chokes_sent (state_of old)
  sent_alike =
      flat_agree (λ p. choking_sent (peer_of old.book p) p.am_choking (serves (state_of old) (peer_of old.book p))) (served_sent old.book served) old.peers.items
      (λ j p here. ap (choking_sent (peer_of old.book p) p.am_choking) (served_alike j p here))
      ∙ sym (flat_map-map (λ p. choking_sent p p.am_choking (serves (state_of old) p)) (peer_of old.book) old.peers.items)

  -- the peers as they were passed, and what was sent after the frames before
  pub sent_begun : {passed : List Peer} (before after : List Sent) → passed ≡ old.peers.items
      → after ≡ before ++ flat_map (served_sent old.book served) passed → after ≡ before ++ chokes_sent (state_of old)
  sent_begun before after is sent =
      sent ∙ ap (λ (peers : List Peer). before ++ flat_map (served_sent old.book served) peers) is ∙ ap (λ xs. before ++ xs) sent_alike

  peers_alike : map (peer_of old.book) (map (served_peer served) old.peers.items) ≡ map (rechoked_peer (state_of old)) (state_of old).peers
  peers_alike =
      map-map (peer_of old.book) (served_peer served) old.peers.items
      ∙ map_agree (λ p. rechoked_peer (state_of old) (peer_of old.book p)) (λ p. peer_of old.book (served_peer served p)) old.peers.items
      (λ j p here. ap {A = Bool} {B = PeerState} (λ b. record (peer_of old.book p) { am_choking = not b; payload = 0 }) (served_alike j p here))
      ∙ sym (map-map (rechoked_peer (state_of old)) (peer_of old.book) old.peers.items)

  module _ (new : Parts D H) (items : new.peers.items ≡ map (served_peer served) old.peers.items) where
    pub turn_begun : new.turn ≡ next_turn old.turn → state_of (record old { peers = new.peers; turn = new.turn }) ≡ rechoked (state_of old)
    turn_begun turn =
        ap {A = List PeerState} (λ peers. record (state_of old) { peers = peers; turn = new.turn }) (ap (map (peer_of old.book)) items ∙ peers_alike)
        ∙ ap {A = ℕ} (λ n. record (state_of old) { peers = map (rechoked_peer (state_of old)) (state_of old).peers; turn = n }) turn

    pub turn_tied : max_peers ≤ vec_capacity new.peers → IsTied (record old { peers = new.peers; turn = new.turn })
    turn_tied room =
        tied_again old (record old { peers = new.peers; turn = new.turn }) tied refl refl refl refl refl refl refl
        (ap (map (λ (p : Peer). p.key)) items ∙ map-map (λ (p : Peer). p.key) (served_peer served) old.peers.items ∙ tied.joined)
        (rw items (from_pairs (λ (p q : Peer). p.key.0 < q.key.0) (map (served_peer served) old.peers.items)
        (pairs_map (λ (p q : Peer). p.key.0 < q.key.0) (λ (p q : Peer). p.key.0 < q.key.0) (served_peer served) old.peers.items (λ p q lt. lt)
        (to_pairs (λ (p q : Peer). p.key.0 < q.key.0) old.peers.items tied.in_order))))
        room
