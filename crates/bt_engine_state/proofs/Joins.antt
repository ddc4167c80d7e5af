-- What a peer that comes makes of the parts of an engine.
use Rattle.bt_machine.proofs.Base.{[], ◌≡◌, ℕ, suc, ◌+◌, ◌<◌, ◌≤◌, ◌==◌, Bool, true, false, cond, List, ◌∷◌, ◌++◌, length, map, get_or, Some, refl, sym, ap, ◌∙◌, arith, slice_get, PeerKey, BlockId, max_peers, length-map}
use Rattle.std.specs.Prelude.{◌↔◌, count_by, replicate, IsTrue}
use Rattle.std.specs.Bool.{OnTrue}
use Rattle.std.specs.Vec.{vec_capacity}
use Rattle.std.proofs.lemmas.Bool.{ne_eqb}
use Rattle.std.proofs.lemmas.List.{map-append}
use Rattle.std.proofs.lemmas.List.Quantifiers.{all_pairs_push}
use Rattle.bt_book.specs.Book.{BookState, PeerRequests, IsJoined, KeepsOthers, asked_of, with_peer}
use Rattle.bt_book.proofs.Once.{count_cons}
use Rattle.bt_machine.specs.State.{PeerState}
use Rattle.bt_machine.specs.Orderly.{IsOrderly}
use Rattle.bt_machine.specs.Peers.{new_peer}
use Rattle.bt_meta.specs.Torrent.{total_pieces}
use Rattle.bt_engine_state.specs.Connection.{peer_with}
use Rattle.bt_machine.proofs.Pairs.{contains_some}
use Rattle.bt_engine_state.specs.Parts.{state_of, peer_of}
use Rattle.bt_engine_state.specs.Ties.{IsTied}
use Rattle.bt_engine_state.specs.declared.peer.Peer.{Peer}
use Rattle.bt_engine_state.specs.declared.parts.Parts.{Parts}
use Rattle.bt_engine_state.proofs.Books.{counted_keys}
use Rattle.bt_engine_state.proofs.Lists.{map_agree, get_mapped, get_at}
use Rattle.bt_engine_state.proofs.Ties.{tied_again}

-- no peer has a key above those of all
none_counted : (key : PeerKey) (ps : List Peer) → ((i : ℕ) (q : Peer) → slice_get ps i ≡ Some q → q.key.0 < key.0)
    → count_by (λ (k : PeerKey). k.0 == key.0) (map (λ p. p.key) ps) ≡ 0
none_counted key [] below = refl
none_counted key (q ∷ qs) below =
    let ks = map (λ (p : Peer). p.key) qs in
    let off : (q.key.0 == key.0) ≡ false = ne_eqb q.key.0 key.0 (λ same. let lt = below 0 q refl in absurd (omega (arith, lt, same))) in
    let first : count_by (λ (k : PeerKey). k.0 == key.0) (q.key ∷ ks) ≡ 0 + count_by (λ (k : PeerKey). k.0 == key.0) ks =
    count_cons (λ (k : PeerKey). k.0 == key.0) q.key ks ∙ ap (λ b. cond b 1 0 + count_by (λ (k : PeerKey). k.0 == key.0) ks) off in
    let rest = none_counted key qs (λ i r e. below (suc i) r e) in
    omega (arith, first, rest)

-- a book's join, where nothing stands against it
pub joined_true : {P Q : Type 0} (r : Bool) → IsTrue r ↔ Q → Q → OnTrue r P → P
joined_true true same q p = p
joined_true false same q p = (let no = same.1 q in absurd cc)

module _ {D H : Type 0} (old : Parts D H) (key : PeerKey) (tied : IsTied old) (orderly : IsOrderly (state_of old)) (next : key.0 ≡ old.last_key + 1) where
  abbrev pub newcomer : Peer
  newcomer = peer_with key (replicate (total_pieces old.torrent) false)

  earlier : (i : ℕ) (q : Peer) → slice_get old.peers.items i ≡ Some q → q.key.0 < key.0
  earlier i q here =
      let among = contains_some (state_of old).peers i (get_mapped (peer_of old.book) old.peers.items i here) in
      let up : q.key.0 < old.last_key + 1 = (orderly.each (peer_of old.book q) among).key in
      omega (arith, up, next)

  pub not_joined : ¬ IsJoined old.book key
  not_joined some =
      let none = none_counted key old.peers.items earlier in
      let same = counted_keys key old.book.peers ∙ ap (λ ks. count_by (λ (k : PeerKey). k.0 == key.0) ks) (sym tied.joined) ∙ none in
      absurd (omega (arith, some, same))

  pub as_many : length old.book.peers ≡ length old.peers.items
  as_many = sym (length-map old.book.peers (λ r. r.peer)) ∙ ap (λ (ks : List PeerKey). length ks) (sym tied.joined) ∙ length-map old.peers.items (λ p. p.key)

  module _ (new : Parts D H) (peers : new.peers.items ≡ old.peers.items ++ newcomer ∷ []) where
    peers_joined : KeepsOthers old.book new.book key → (state_of new).peers ≡ (state_of old).peers ++ peer_of new.book newcomer ∷ []
    peers_joined others =
        ap (λ (ps : List Peer). map (peer_of new.book) ps) peers ∙ map-append (peer_of new.book) old.peers.items (newcomer ∷ [])
        ∙ ap (λ (ps : List PeerState). ps ++ peer_of new.book newcomer ∷ []) (map_agree (peer_of old.book) (peer_of new.book) old.peers.items
        (λ j q there. ap {A = List BlockId} {B = PeerState} (λ asked. record (peer_of old.book q) { asked = asked })
        (others q.key (λ same. let lt = earlier j q there in absurd (omega (arith, lt, same))))))

    pub peers_then : KeepsOthers old.book new.book key → asked_of new.book key ≡ []
        → (state_of new).peers ≡ (state_of old).peers ++ new_peer (state_of old) key ∷ []
    peers_then others none =
        peers_joined others
        ∙ ap {A = List BlockId} {B = List PeerState} (λ asked. (state_of old).peers ++ record (peer_of new.book newcomer) { asked = asked } ∷ []) none

    pub tied_joined : new.torrent ≡ old.torrent → new.trees.items ≡ old.trees.items → new.roots ≡ old.roots → new.slots.items ≡ old.slots.items
        → new.counts ≡ old.counts → new.known ≡ old.known → new.book ≡ with_peer old.book key → max_peers ≤ vec_capacity new.peers → IsTied new
    tied_joined torrent trees roots slots counts known book room =
        tied_again old new tied torrent trees roots slots counts known (ap (λ (b : BookState). b.wanted) book)
        (ap (λ (ps : List Peer). map (λ p. p.key) ps) peers ∙ map-append (λ (p : Peer). p.key) old.peers.items (newcomer ∷ [])
        ∙ ap (λ (ks : List PeerKey). ks ++ key ∷ []) tied.joined
        ∙ sym (map-append (λ (r : PeerRequests). r.peer) old.book.peers (record { peer = key; blocks = [] } ∷ []))
        ∙ ap (λ (b : BookState). map (λ r. r.peer) b.peers) (sym book))
        (rw peers (all_pairs_push (λ (p q : Peer). p.key.0 < q.key.0) old.peers.items newcomer tied.in_order
        (λ k d lt. earlier k (get_or old.peers.items k d) (get_at old.peers.items k d lt))))
        room
