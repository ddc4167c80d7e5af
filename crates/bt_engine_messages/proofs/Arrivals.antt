-- A block that comes from a peer, in the parts of an engine.
use Rattle.bt_machine.proofs.Base.{◌≡◌, ℕ, zero, suc, ◌+◌, ◌-◌, ◌^◌, min, inl, inr, Bool, not, List, [], ◌∷◌, length, map, filter, Some, refl, sym, ap, ◌∙◌, subst, arith, slice_get, slice_set, Contains, BlockId, Missing, PeerKey, without_block, is_block, states_after_put, Result, Ok, Err, Put, StoreError, PutMarked, PutWaiting, Wrong, Already}
use Rattle.std.proofs.lemmas.Bool.{cases_Bool}
use Rattle.std.specs.Vec.{with_item}
use Rattle.bt_machine.proofs.Lists.{some_is, set_id}
use Rattle.bt_machine.proofs.Shape.{map_set}
use Rattle.bt_tree.specs.Blocks.{block_length}
use Rattle.bt_meta.specs.Files.{File}
use Rattle.bt_meta.specs.Torrent.{Metainfo}
use Rattle.bt_book.specs.Book.{BookState, IsBook, IsPair, KeepsOthers, asked_of, peers_of}
use Rattle.bt_book.proofs.Listed.{counted_blocks, asked_le_pairs}
use Rattle.bt_machine.specs.State.{EngineState, PeerState, FileState}
use Rattle.bt_machine.specs.Blocks.{state_at, with_file, with_peer}
use Rattle.bt_machine.specs.Devices.{DeviceCalls}
use Rattle.bt_machine.specs.Spans.{IsRangeOf}
use Rattle.bt_machine.specs.Request.{with_payload}
use Rattle.bt_machine.specs.Shape.{IsShaped}
use Rattle.bt_machine.specs.Output.{Sent, Effect, noting}
use Rattle.bt_machine.specs.Arrival.{HasPutEffect, Puts, after_put, HandlesPiece, stale, arrives}
use Rattle.bt_machine.specs.declared.answer.Note.TheVariants.{Stale}
use Rattle.bt_engine_state.specs.Parts.{state_of, peer_of}
use Rattle.bt_engine_state.specs.Ties.{IsTied}
use Rattle.bt_engine_state.specs.declared.peer.Peer.{Peer}
use Rattle.bt_engine_state.specs.declared.parts.Parts.{Parts}
use Rattle.bt_engine_state.proofs.Lists.{get_mapped}
use Rattle.bt_engine_state.proofs.PeerLists.{peers_set}
use Rattle.bt_engine_state.proofs.Ties.{tied_set, tied_again}
use Rattle.bt_wire.specs.declared.message.Ask.{Ask}
use Rattle.bt_engine_messages.specs.Outcome.{cancels_to}
use Rattle.bt_engine_messages.specs.PieceSteps.{AreAskers, IsBlockOf}
use Rattle.bt_engine_messages.proofs.Cancels.{cancels_are}

-- what is a whole block of the torrent is all of a block of its file
pub is_block_of : (torrent : Metainfo) (piece begin : ℕ) (bytes : List ℕ) (b : BlockId) → IsRangeOf torrent piece begin (length bytes) b
    → IsBlockOf torrent b bytes
is_block_of torrent piece begin bytes b w file listed =
    let same = some_is (sym w.has.found ∙ listed) in
    record {
      inside = rw (← same) w.has.inside;
      whole = w.length ∙ ap (λ (f : File). block_length f.length b.block) same;
    }

map_put : {X Y : Type 0} (f : X → Y) (xs : List X) (i : ℕ) (y : X) → map f (slice_set xs i y) ≡ slice_set (map f xs) i (f y)
map_put f [] i y = refl
map_put f (x ∷ xs) zero y = refl
map_put f (x ∷ xs) (suc i) y = ap (λ ys. f x ∷ ys) (map_put f xs i y)

-- a block that is taken out is taken out once
filter_twice : {X : Type 0} (keep : X → Bool) (xs : List X) → filter keep (filter keep xs) ≡ filter keep xs
filter_twice keep [] = refl
filter_twice keep (x ∷ xs) = elim (cases_Bool (keep x)) [
  | inl is ↦ rw (is, is) (ap (λ ys. x ∷ ys) (filter_twice keep xs))
  | inr isnt ↦ rw isnt (filter_twice keep xs)
]

put_twice : (b : BlockId) (result : Result Put StoreError) (q : PeerState)
    → after_put b result (record q { asked = without_block b q.asked }) ≡ record q { asked = without_block b q.asked }
put_twice b (Ok PutMarked) q = ap {A = List BlockId} (λ bs. record q { asked = bs }) (filter_twice (λ c. not (is_block b c)) q.asked)
put_twice b (Ok PutWaiting) q = ap {A = List BlockId} (λ bs. record q { asked = bs }) (filter_twice (λ c. not (is_block b c)) q.asked)
put_twice b (Ok Already) q = refl
put_twice b (Ok Wrong) q = refl
put_twice b (Err error) q = refl

-- the peer is asked for the block no more, and its bytes count
module _ {D H : Type 0} (old : Parts D H) (i : ℕ) {p : Peer} (b : BlockId) (book : BookState) (payload : ℕ) (tied : IsTied old)
    (here : slice_get old.peers.items i ≡ Some p) (others : KeepsOthers old.book book p.key) where
  abbrev pub peer_then : Peer
  peer_then = record p { payload = payload }

  abbrev pub mid : Parts D H
  mid = record old { peers = with_item old.peers i peer_then; book = book }

  pub tied_mid : book.wanted ≡ old.book.wanted → peers_of book ≡ peers_of old.book → IsTied (record old { peers = with_item old.peers i peer_then; book = book })
  tied_mid wanted peers =
      let set = tied_set old i peer_then tied here refl in
      tied_again (record old { peers = with_item old.peers i peer_then }) mid set refl refl refl refl refl refl wanted (set.joined ∙ sym peers) set.in_order set.room

  pub shaped_mid : IsShaped old.torrent (state_of old) → IsShaped old.torrent (state_of (record old { peers = with_item old.peers i peer_then; book = book }))
  shaped_mid shaped = record { same = shaped.same; roots = shaped.roots; count = shaped.count; each = shaped.each }

  state_mid : state_of mid ≡ with_peer (state_of old) i (peer_of book peer_then)
  state_mid = ap {A = List PeerState} (λ peers. record (state_of old) { peers = peers })
      (peers_set old.book book old.peers.items i tied.in_order here others peer_then)

  pub keys_mid : map (λ p. p.key) (slice_set old.peers.items i peer_then) ≡ map (λ p. p.key) old.peers.items
  keys_mid = map_set (λ p. p.key) old.peers.items i peer_then here refl

  told : (count : ℕ) → asked_of book p.key ≡ without_block b (asked_of old.book p.key) → payload ≡ min (2 ^ 64 - 1) (p.payload + count)
      → peer_of book peer_then ≡ with_payload count (record (peer_of old.book p) { asked = without_block b (peer_of old.book p).asked })
  told count asked paid =
      ap (λ n. peer_of book (record p { payload = n })) paid
      ∙ ap (λ (bs : List BlockId). with_payload count (record (peer_of old.book p) { asked = bs })) asked

  -- where the peers are told of the block, this one is told nothing new
  peers_then : (result : Result Put StoreError) (count : ℕ) → asked_of book p.key ≡ without_block b (asked_of old.book p.key)
      → payload ≡ min (2 ^ 64 - 1) (p.payload + count)
      → map (after_put b result) (slice_set (state_of old).peers i (peer_of book peer_then))
      ≡ slice_set (map (after_put b result) (state_of old).peers) i (with_payload count (record (peer_of old.book p) { asked = without_block b (peer_of old.book p).asked }))
  peers_then result count asked paid =
      map_put (after_put b result) (state_of old).peers i (peer_of book peer_then)
      ∙ ap (λ (q : PeerState). slice_set (map (after_put b result) (state_of old).peers) i q)
      (ap (after_put b result) (told count asked paid)
      ∙ put_twice b result (with_payload count (peer_of old.book p)))

  pub arrives_so : (dig : List ℕ → List ℕ) (piece begin : ℕ) (bytes : List ℕ) (calls : DeviceCalls) (effect : Effect) (new : EngineState) (x : PeerState)
      → slice_get (state_of old).peers i ≡ Some x → IsRangeOf old.torrent piece begin (length bytes) b → IsPair old.book p.key b
      → asked_of book p.key ≡ without_block b (asked_of old.book p.key) → payload ≡ min (2 ^ 64 - 1) (p.payload + length bytes)
      → (keys : List PeerKey) → AreAskers book b keys
      → Puts dig (state_of mid) b bytes (cancels_to (record { piece = piece; begin = begin; length = length bytes }) keys) calls effect new
      → HandlesPiece dig (state_of old) i x piece begin bytes calls effect new
  arrives_so dig piece begin bytes calls effect new x at whole pair asked paid keys askers puts =
      let is : peer_of old.book p ≡ x = some_is (sym (get_mapped (peer_of old.book) old.peers.items i here) ∙ at) in
      let file : FileState = record puts.file { states = states_after_put b.block puts.result puts.file.states } in
      let ask : Ask = record { piece = piece; begin = begin; length = length bytes } in
      subst (λ (x : PeerState). HandlesPiece dig (state_of old) i x piece begin bytes calls effect new) is
      (arrives (record {
        block = b;
        stored = record (with_file (state_of old) b.file file) { peers = map (after_put b puts.result) (state_of old).peers };
        whole = whole;
        asked = (counted_blocks b (asked_of old.book p.key)).0 pair;
        puts = record {
          file = puts.file;
          tree = puts.tree;
          result = puts.result;
          is_file = record { here = puts.is_file.here; has_tree = puts.is_file.has_tree };
          due = puts.due;
          made = puts.made;
          has_effect = subst (λ (sent : List Sent). HasPutEffect b sent puts.result effect)
              (cancels_are old tied p.key b book others asked ask (peer_of old.book p) refl keys askers) puts.has_effect;
          after = refl;
        };
        after = puts.after
            ∙ ap (λ (s : EngineState). record (with_file s b.file file) { peers = map (after_put b puts.result) s.peers }) state_mid
            ∙ ap (λ (peers : List PeerState). record (with_file (state_of old) b.file file) { peers = peers }) (peers_then puts.result (length bytes) asked paid);
      }))

-- a block that a peer is asked for is missing
pub pair_missing : {D H : Type 0} (parts : Parts D H) (key : PeerKey) (b : BlockId) → IsTied parts → IsBook parts.book → IsPair parts.book key b
    → state_at (state_of parts) b ≡ Some Missing
pair_missing parts key b tied laws pair =
    (tied.wanted b).0 (laws.wanted b (let most = asked_le_pairs key b parts.book.peers in omega (arith, pair)))

-- a block that the peer is not asked for
module _ {D H : Type 0} (old : Parts D H) (i : ℕ) {p : Peer} (book : BookState) (tied : IsTied old) (here : slice_get old.peers.items i ≡ Some p)
    (kept : book ≡ old.book) where
  state_again : state_of (record old { peers = with_item old.peers i p; book = book }) ≡ state_of old
  state_again =
      ap (λ (k : BookState). state_of (record old { peers = with_item old.peers i p; book = k })) kept
      ∙ ap (λ (ps : List Peer). record (state_of old) { peers = map (peer_of old.book) ps }) (set_id old.peers.items i here)

  pub tied_still : IsTied (record old { peers = with_item old.peers i p; book = book })
  tied_still = rw kept (tied_set old i p tied here refl)

  pub stale_so : (dig : List ℕ → List ℕ) (piece begin : ℕ) (bytes : List ℕ) (b : BlockId) (x : PeerState) → slice_get (state_of old).peers i ≡ Some x
      → ((c : BlockId) → IsRangeOf old.torrent piece begin (length bytes) c → c ≡ b) → ¬ IsPair old.book p.key b
      → HandlesPiece dig (state_of old) i x piece begin bytes [] (noting Stale) (state_of (record old { peers = with_item old.peers i p; book = book }))
  stale_so dig piece begin bytes b x at one none =
      let is : peer_of old.book p ≡ x = some_is (sym (get_mapped (peer_of old.book) old.peers.items i here) ∙ at) in
      stale (λ c whole asked. none ((counted_blocks b (asked_of old.book p.key)).1
      (subst (λ (d : BlockId). Contains (asked_of old.book p.key) d) (one c whole) (subst (λ (q : PeerState). Contains q.asked c) (sym is) asked))))
      refl refl state_again
