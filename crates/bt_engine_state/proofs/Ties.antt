-- What ties the parts of an engine together is kept where a peer changes, comes or goes.
use Rattle.bt_machine.proofs.Base.{◌≡◌, ℕ, ◌<◌, ◌≤◌, Bool, true, not, ◌==◌, List, length, map, filter, get_or, Option, Some, refl, sym, ap, ◌∙◌, arith, subst, slice_get, slice_set, PeerKey, BlockId, Metainfo, max_peers, length-map, eq-eqb}
use Rattle.std.specs.Prelude.{count_by}
use Rattle.std.specs.Vec.{with_item, vec_capacity}
use Rattle.std.specs.List.{remove}
use Rattle.std.proofs.lemmas.Option.{get_or_from_slice_get}
use Rattle.bt_machine.proofs.Lists.{get_map, some_below, some_is}
use Rattle.bt_machine.proofs.Pairs.{to_pairs, from_pairs, pairs_set}
use Rattle.bt_machine.proofs.Shape.{map_set}
use Rattle.bt_machine.specs.Blocks.{state_at}
use Rattle.bt_machine.specs.State.{EngineState, PeerState, FileState}
use Rattle.bt_machine.specs.Next.{IsPeer, HasNoPeer}
use Rattle.bt_book.specs.Book.{PeerRequests, is_of}
use Rattle.bt_book.proofs.Once.{filter_one}
use Rattle.bt_engine_state.specs.Parts.{state_of, peer_of, file_of, IsPeerAt, LacksPeer}
use Rattle.bt_engine_state.specs.Ties.{AreCounted, KnowsLeaves, IsTied}
use Rattle.bt_engine_state.specs.declared.counts.Counts.{Counts}
use Rattle.bt_engine_state.specs.declared.peer.Peer.{Peer}
use Rattle.bt_engine_state.specs.declared.open_log.OpenLog.{OpenLog}
use Rattle.bt_engine_state.specs.declared.slot.Slot.{Slot}
use Rattle.bt_engine_state.specs.declared.parts.Parts.{Parts}
use Rattle.bt_engine_state.proofs.Books.{counted_keys, filtered_keys}
use Rattle.bt_engine_state.proofs.Leaves.{leaves_alike, knows_still}
use Rattle.bt_engine_state.proofs.Lists.{get_mapped, get_read, map_removed}
use Rattle.bt_engine_state.proofs.PeerLists.{peers_set, AreInOrder}

module _ {D H : Type 0} (parts : Parts D H) where
  -- no peer has the key
  pub no_peer_of : (key : PeerKey) → LacksPeer parts.peers.items key → HasNoPeer (state_of parts) key
  no_peer_of key none i p is =
      let q = get_map (peer_of parts.book) parts.peers.items i is.here in
      none i q.0 q.1 (ap (λ (p : PeerState). p.key) q.2 ∙ is.same_key)

  -- one has it
  pub peer_at : {key : PeerKey} {i : ℕ} (at : IsPeerAt parts.peers.items key i)
      → IsPeer (state_of parts) key i (peer_of parts.book at.peer)
  peer_at {i = i} at =
      record { here = get_mapped (peer_of parts.book) parts.peers.items i at.here; same_key = at.same_key }

  -- a peer is replaced by one of its key
  module _ (i : ℕ) {p : Peer} (q : Peer) (tied : IsTied parts) (here : slice_get parts.peers.items i ≡ Some p) (same : q.key ≡ p.key) where
    pub tied_set : IsTied (record parts { peers = with_item parts.peers i q })
    tied_set = record {
      joined = map_set (λ p. p.key) parts.peers.items i q here same ∙ tied.joined;
      in_order = from_pairs (λ p q. p.key.0 < q.key.0) (slice_set parts.peers.items i q)
          (pairs_set (λ p q. p.key.0 < q.key.0) parts.peers.items i q here (λ y c lt. rw same lt) (λ y c lt. rw same lt)
          (to_pairs (λ p q. p.key.0 < q.key.0) parts.peers.items tied.in_order));
      room = tied.room;
      wanted = tied.wanted;
      ranged = tied.ranged;
      count = tied.count;
      each = tied.each;
      roots = tied.roots;
      counted = record { unmarked = record { size = tied.counted.unmarked.size; each = tied.counted.unmarked.each }; waiting = tied.counted.waiting };
      known = record { size = tied.known.size; each = tied.known.each };
    }

    pub state_set : state_of (record parts { peers = with_item parts.peers i q })
        ≡ record (state_of parts) { peers = slice_set (state_of parts).peers i (peer_of parts.book q) }
    state_set = ap {A = List PeerState} (λ peers. record (state_of parts) { peers = peers })
        (peers_set parts.book parts.book parts.peers.items i tied.in_order here (λ k apart. refl) q)

-- other pieces are known
pub tied_known : {D H : Type 0} (parts : Parts D H) (pieces : List Bool) → IsTied parts → KnowsLeaves (state_of parts) pieces → IsTied (record parts { known = pieces })
tied_known parts pieces tied knows = record {
  joined = tied.joined;
  in_order = tied.in_order;
  room = tied.room;
  wanted = tied.wanted;
  ranged = tied.ranged;
  count = tied.count;
  each = tied.each;
  roots = tied.roots;
  counted = record { unmarked = record { size = tied.counted.unmarked.size; each = tied.counted.unmarked.each }; waiting = tied.counted.waiting };
  known = record { size = knows.size; each = knows.each };
}

-- nothing that is tied speaks of the log
pub tied_logged : {D H : Type 0} (parts : Parts D H) (log : Option (OpenLog D)) → IsTied parts → IsTied (record parts { log = log })
tied_logged parts log tied = record {
  joined = tied.joined;
  in_order = tied.in_order;
  room = tied.room;
  wanted = tied.wanted;
  ranged = tied.ranged;
  count = tied.count;
  each = tied.each;
  roots = tied.roots;
  counted = record { unmarked = record { size = tied.counted.unmarked.size; each = tied.counted.unmarked.each }; waiting = tied.counted.waiting };
  known = record { size = tied.known.size; each = tied.known.each };
}

-- the peer that was found is the one that is read there
pub found_at : {peers : List Peer} {key : PeerKey} {i : ℕ} (p : Peer) → IsPeerAt peers key i → p ≡ get_or peers i p
    → (slice_get peers i ≡ Some p) × (p.key ≡ key)
found_at {peers} {key} {i} p at read =
    let here = get_read peers i p (some_below peers i at.here) read in
    (here, ap (λ (x : Peer). x.key) (some_is (sym here ∙ at.here)) ∙ at.same_key)

-- what the counts speak of
pub same_counts : (s t : EngineState) (counts : Counts) → t.torrent ≡ s.torrent → t.files ≡ s.files → AreCounted s counts → AreCounted t counts
same_counts s t counts torrent files has =
    let at : AreCounted (record t { torrent = s.torrent; files = s.files }) counts =
    record { unmarked = record { size = has.unmarked.size; each = has.unmarked.each }; waiting = has.waiting } in
    subst (λ (fs : List FileState). AreCounted (record t { files = fs }) counts) (sym files)
    (subst (λ (m : Metainfo). AreCounted (record t { torrent = m; files = s.files }) counts) (sym torrent) at)

-- peers come and go, and what they are asked for changes, but which blocks are missing and wanted stays
pub tied_again : {D H : Type 0} (old new : Parts D H) → IsTied old → new.torrent ≡ old.torrent → new.trees.items ≡ old.trees.items
    → new.roots ≡ old.roots
    → new.slots.items ≡ old.slots.items → new.counts ≡ old.counts → new.known ≡ old.known → new.book.wanted ≡ old.book.wanted
    → map (λ p. p.key) new.peers.items ≡ map (λ r. r.peer) new.book.peers → AreInOrder new.peers.items
    → max_peers ≤ vec_capacity new.peers → IsTied new
tied_again {D} {H} old new tied torrent trees roots slots counts known wanted joined in_order room = record {
  joined = joined;
  in_order = in_order;
  room = room;
  wanted = λ b. rw wanted (rw (same b) (tied.wanted b));
  ranged = λ b x at. rw wanted (tied.ranged b x (sym (same b) ∙ at));
  count = ap (λ xs. length xs) slots ∙ tied.count ∙ ap (λ (t : Metainfo). length t.files) (sym torrent);
  each = λ i slot at. rw torrent (rw trees (tied.each i slot (ap (λ xs. slice_get xs i) (sym slots) ∙ at)));
  roots = rw torrent (rw trees (rw roots tied.roots));
  counted = rw counts (same_counts (state_of old) (state_of new) old.counts torrent (ap (λ (xs : List (Slot D H)). map file_of xs) slots) tied.counted);
  known = rw known (knows_still torrent (leaves_alike (state_of old) (state_of new) trees (ap (λ (xs : List (Slot D H)). map file_of xs) slots)) tied.known);
}
  where
    same : (b : BlockId) → state_at (state_of new) b ≡ state_at (state_of old) b
    same b = ap (λ (xs : List (Slot D H)). state_at (record (state_of old) { files = map file_of xs }) b) slots

-- the keys without that at i are those that are not of its peer
pub keys_left : (peers : List Peer) (requests : List PeerRequests) (key : PeerKey) (i : ℕ) {p : Peer}
    → map (λ p. p.key) peers ≡ map (λ r. r.peer) requests → slice_get peers i ≡ Some p → p.key ≡ key → count_by (is_of key) requests ≤ 1
    → map (λ p. p.key) (remove peers i) ≡ map (λ r. r.peer) (filter (λ r. not (is_of key r)) requests)
keys_left peers requests key i {p} joined here same once =
    let ks = map (λ (p : Peer). p.key) peers in
    let below = some_below peers i here in
    let size = length-map peers (λ (p : Peer). p.key) in
    let at = get_mapped (λ (p : Peer). p.key) peers i here in
    let is : get_or ks i key ≡ p.key = get_or_from_slice_get ks i p.key key at in
    let passes : (get_or ks i key).0 == key.0 ≡ true = eq-eqb _ _ (ap (λ (k : PeerKey). k.0) (is ∙ same)) in
    let few : count_by (λ (k : PeerKey). k.0 == key.0) ks ≤ 1 = rw joined (rw (← counted_keys key requests) once) in
    map_removed (λ (p : Peer). p.key) peers i ∙ sym (filter_one (λ (k : PeerKey). k.0 == key.0) ks i key (omega arith) passes few)
    ∙ ap (λ (xs : List PeerKey). filter (λ k. not (k.0 == key.0)) xs) joined ∙ sym (filtered_keys key requests)
