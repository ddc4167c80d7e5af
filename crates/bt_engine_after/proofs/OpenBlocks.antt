-- The blocks that the book gives a peer are those that the machine asks it for.
use Rattle.bt_machine.proofs.Base.{◌≡◌, ℕ, ◌<◌, ◌⊎◌, inl, inr, Bool, true, false, List, [], map, Option, Some, refl, sym, ap, ◌∙◌, arith, subst, slice_get, Contains, All, BlockId, PeerKey, append-nil, cases_lt}
use Rattle.std.specs.Prelude.{count_by}
use Rattle.bt_machine.proofs.Lists.{contains_none, map_contains, set_id}
use Rattle.bt_machine.proofs.Pairs.{contains_some}
use Rattle.bt_book.specs.Book.{BookState, IsBook, IsJoined, CanAsk, HasAskedAll, AreAskedInTurn, asked_of, with_pairs, max_askers}
use Rattle.bt_book.specs.Blocks.{GivesFirst, is_block, member}
use Rattle.bt_book.proofs.Listed.{counted_blocks, joined_peers, asked_le_pairs}
use Rattle.bt_book.proofs.AskedAll.{asked_with_pairs, size_with_pairs, others_with_pairs, held_in_turn, distinct_in_book, none_left}
use Rattle.bt_machine.specs.State.{PeerState}
use Rattle.bt_machine.specs.Blocks.{with_peer, asker_count}
use Rattle.bt_machine.specs.Shape.{IsShaped}
use Rattle.bt_machine.specs.FollowUp.{IsOpen, IsEndgame, AsksBlocks}
use Rattle.bt_engine_state.specs.Parts.{state_of, peer_of}
use Rattle.bt_engine_state.specs.Ties.{IsTied}
use Rattle.bt_engine_state.specs.declared.peer.Peer.{Peer}
use Rattle.bt_engine_state.specs.declared.parts.Parts.{Parts}
use Rattle.bt_engine_state.proofs.Lists.{get_mapped}
use Rattle.bt_engine_state.proofs.PeerLists.{peers_set}
use Rattle.bt_engine_after.specs.HeldSteps.{is_held}
use Rattle.bt_engine_after.specs.AskingSteps.{AreBlocksAsked}
use Rattle.bt_engine_after.proofs.Blocks.{has_of_held, held_of_has}
use Rattle.bt_engine_after.proofs.Counts.{as_many_askers, as_many_wanted}

module _ {D H : Type 0} (old : Parts D H) (i : ℕ) (p : Peer) (tied : IsTied old) (laws : IsBook old.book) (here : slice_get old.peers.items i ≡ Some p) where
  -- ---- a peer that chokes, or in which we are not interested
  pub shut_asks : (p.peer_choking ≡ true) ⊎ (p.am_interested ≡ false) → AreBlocksAsked (state_of old) i [] (state_of old)
  shut_asks shut = record {
    peer = peer_of old.book p;
    here = get_mapped (peer_of old.book) old.peers.items i here;
    asks = record {
      shut = λ _. refl;
      are_open = λ b c. absurd (contains_none c);
      distinct = λ j k d lt within. absurd (omega arith);
      few = (let short = laws.short p.key in omega arith);
      all = λ unchoked wanted. absurd (elim shut [ inl chokes ↦ (let x = unchoked in cc) | inr apathetic ↦ (let x = wanted in cc) ]);
    };
    now = sym (ap (λ (q : PeerState). with_peer (state_of old) i q) (ap (λ bs. record (peer_of old.book p) { asked = bs }) (append-nil (asked_of old.book p.key)))
        ∙ ap (λ (ps : List PeerState). record (state_of old) { peers = ps }) (set_id (state_of old).peers i (get_mapped (peer_of old.book) old.peers.items i here)));
  }

  -- ---- any other
  module _ (shaped : IsShaped old.torrent (state_of old)) (unchoked : p.peer_choking ≡ false) (wanted : p.am_interested ≡ true)
      {next : BlockId → Option BlockId → Type 0} (gives : GivesFirst next old.book.wanted (is_held old.torrent p.has)) (blocks : List BlockId) (book : BookState) where
    -- what the book may ask of the peer is open
    able : (b : BlockId) → CanAsk old.book p.key b → member old.book.wanted b ≡ true
    able b (inl u) = u.wanted
    able b (inr s) = s.wanted

    not_own : (b : BlockId) → CanAsk old.book p.key b → ¬ Contains (asked_of old.book p.key) b
    not_own b (inl u) c = let some = (counted_blocks b (asked_of old.book p.key)).1 c in absurd (omega (arith, some, u.free, asked_le_pairs p.key b old.book.peers))
    not_own b (inr s) c = let some = (counted_blocks b (asked_of old.book p.key)).1 c in absurd (omega (arith, some, s.apart))

    room_for : (b : BlockId) → CanAsk old.book p.key b
        → (asker_count (state_of old) b ≡ 0) ⊎ (IsEndgame (state_of old) × (asker_count (state_of old) b < max_askers))
    room_for b (inl u) = inl (as_many_askers old tied laws b ∙ u.free)
    room_for b (inr s) =
        let few = s.endgame in let room = s.room in inr (omega (arith, few, as_many_wanted old tied), omega (arith, room, as_many_askers old tied laws b))

    can_ask : (b : BlockId) → IsOpen (state_of old) (peer_of old.book p) b → CanAsk old.book p.key b
    can_ask b o = elim o.room [
      | inl none ↦ inl (record { wanted = (tied.wanted b).1 o.missing; free = sym (as_many_askers old tied laws b) ∙ none })
      | inr few ↦ inr (record {
        endgame = (let end = few.0 in omega (arith, end, as_many_wanted old tied));
        wanted = (tied.wanted b).1 o.missing;
        apart = elim (cases_lt 0 (count_by (is_block b) (asked_of old.book p.key))) [
          | inl some ↦ absurd (o.new ((counted_blocks b (asked_of old.book p.key)).0 some))
          | inr none ↦ omega arith
        ];
        room = (let room = few.1 in omega (arith, room, as_many_askers old tied laws b));
      })
    ]

    joined : IsJoined old.book p.key
    joined =
        let c = map_contains (λ (q : Peer). q.key) old.peers.items (contains_some old.peers.items i here) in
        (joined_peers old.book p.key).1 (subst (λ (ks : List PeerKey). Contains ks p.key) tied.joined c)

    module _ (now : book ≡ with_pairs old.book p.key blocks) (can : All (CanAsk old.book p.key) blocks)
        (turns : (has : BlockId → Bool) → GivesFirst next old.book.wanted has → AreAskedInTurn has old.book p.key blocks)
        (all : HasAskedAll next book p.key) (kept : IsBook book) where
      held : All (λ b. is_held old.torrent p.has b ≡ true) blocks
      held = held_in_turn (is_held old.torrent p.has) old.book p.key blocks (turns (is_held old.torrent p.has) gives)

      is_open : (b : BlockId) → Contains blocks b → IsOpen (state_of old) (peer_of old.book p) b
      is_open b c =
          let able' = subst (CanAsk old.book p.key) c.2 (can c.0 b c.1) in
          let held' = subst (λ (b : BlockId). is_held old.torrent p.has b ≡ true) c.2 (held c.0 b c.1) in
          record {
            has = has_of_held (state_of old) shaped (peer_of old.book p) b held';
            missing = (tied.wanted b).0 (able b able');
            new = not_own b able';
            room = room_for b able';
          }

      asks_blocks : AsksBlocks (state_of old) (peer_of old.book p) blocks
      asks_blocks = record {
        shut = λ shut. absurd (elim shut [ inl chokes ↦ (let x = unchoked in cc) | inr apathetic ↦ (let x = wanted in cc) ]);
        are_open = is_open;
        distinct = distinct_in_book p.key old.book book blocks now (λ _. joined) kept;
        few = omega (arith, size_with_pairs p.key old.book book blocks now (λ _. joined), kept.short p.key);
        all = λ _ _. elim (none_left p.key old.book book blocks now (λ _. joined) laws next all) [
          | inl absent ↦ absurd (absent joined)
          | inr rest ↦ elim rest [
            | inl full ↦ inl full
            | inr each ↦ inr (λ b o. each (is_held old.torrent p.has) gives b (can_ask b o)
                (held_of_has (state_of old) shaped (peer_of old.book p) b o.missing o.has))
          ]
        ];
      }

      pub asks : AreBlocksAsked (state_of old) i blocks (state_of (record old { book = book }))
      asks = record {
        peer = peer_of old.book p;
        here = get_mapped (peer_of old.book) old.peers.items i here;
        asks = asks_blocks;
        now =
            ap (λ (ps : List PeerState). record (state_of old) { peers = ps })
            (ap (λ (ps : List Peer). map (peer_of book) ps) (sym (set_id old.peers.items i here))
            ∙ peers_set old.book book old.peers.items i tied.in_order here (others_with_pairs p.key old.book book blocks now) p)
            ∙ ap (λ (bs : List BlockId). with_peer (state_of old) i (record (peer_of old.book p) { asked = bs }))
            (asked_with_pairs p.key old.book book blocks now (λ _. joined));
      }
