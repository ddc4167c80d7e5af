-- The peers that are sent a cancel are those that the book names.
use Rattle.bt_machine.proofs.Base.{[], ◌≡◌, ◌≢◌, ℕ, ◌<◌, inl, inr, Bool, true, false, not, ◌&&◌, ◌==◌, List, ◌∷◌, map, filter, refl, sym, ap, ◌∙◌, subst, arith, Contains, AllPairs, AllPairs-filter, BlockId, PeerKey, is_block, without_block}
use Rattle.std.specs.Prelude.{count_by}
use Rattle.std.proofs.lemmas.Bool.{cases_lt, cases_eq, ne_eqb, true≢false}
use Rattle.bt_machine.proofs.Lists.{and_true, contains_map, map_contains, contains_filter, filter_contains, contains_none}
use Rattle.bt_machine.proofs.Pairs.{to_pairs, from_pairs, pairs_map}
use Rattle.bt_machine.proofs.Askers.{is_itself, is_asked_has, has_is_asked}
use Rattle.bt_book.specs.Book.{BookState, IsPair, IsJoined, KeepsOthers, asked_of, is_of}
use Rattle.bt_book.specs.Choking.{IsAscending}
use Rattle.bt_book.proofs.Asked.{asked_none}
use Rattle.bt_book.proofs.Listed.{counted_blocks, joined_peers}
use Rattle.bt_book.proofs.OneOrder.{one_order}
use Rattle.bt_wire.specs.declared.message.Ask.{Ask}
use Rattle.bt_machine.specs.State.{PeerState}
use Rattle.bt_machine.specs.Blocks.{is_asked}
use Rattle.bt_machine.specs.Arrival.{cancels}
use Rattle.bt_machine.specs.Output.{sent_to}
use Rattle.bt_wire.specs.declared.message.Message.TheVariants.{Cancel}
use Rattle.bt_machine.specs.declared.answer.Frame.TheVariants.{Message as message_frame}
use Rattle.bt_engine_state.specs.Parts.{state_of, peer_of}
use Rattle.bt_engine_state.specs.Ties.{IsTied}
use Rattle.bt_engine_state.specs.declared.peer.Peer.{Peer}
use Rattle.bt_engine_state.specs.declared.parts.Parts.{Parts}
use Rattle.bt_engine_messages.specs.Outcome.{cancels_to}
use Rattle.bt_engine_messages.specs.PieceSteps.{AreAskers}

-- the peers of the machine that are asked for the block, but for one
abbrev pub is_other_asker : PeerKey → BlockId → PeerState → Bool
is_other_asker key b q = not (q.key.0 == key.0) && is_asked b q

map_twice : {X Y Z : Type 0} (f : Y → Z) (g : X → Y) (xs : List X) → map f (map g xs) ≡ map (λ x. f (g x)) xs
map_twice f g [] = refl
map_twice f g (x ∷ xs) = ap (λ ys. f (g x) ∷ ys) (map_twice f g xs)

both_true : (a b : Bool) → a ≡ true → b ≡ true → (a && b) ≡ true
both_true true true e f = refl
both_true true false e f = f
both_true false b e f = e

not_true : (a : Bool) → not a ≡ true → a ≡ true → ⊥
not_true true e f = true≢false (sym e)
not_true false e f = true≢false (sym f)

module _ {D H : Type 0} (old : Parts D H) (tied : IsTied old) (key : PeerKey) (b : BlockId) (book : BookState) (others : KeepsOthers old.book book key)
    (own : asked_of book key ≡ without_block b (asked_of old.book key)) where
  askers : List PeerKey
  askers = map (λ q. q.key) (filter (is_other_asker key b) (state_of old).peers)

  in_order : AllPairs (λ p q. p.key.0 < q.key.0) (state_of old).peers
  in_order = from_pairs (λ p q. p.key.0 < q.key.0) (state_of old).peers
      (pairs_map (λ p q. p.key.0 < q.key.0) (λ p q. p.key.0 < q.key.0) (peer_of old.book) old.peers.items (λ p q lt. lt)
      (to_pairs (λ p q. p.key.0 < q.key.0) old.peers.items tied.in_order))

  ascend : IsAscending askers
  unfolding askers
  ascend =
      let kept = AllPairs-filter (λ p q. p.key.0 < q.key.0) (is_other_asker key b) (state_of old).peers in_order in
      from_pairs (λ k l. k.0 < l.0) (map (λ q. q.key) (filter (is_other_asker key b) (state_of old).peers))
      (pairs_map (λ p q. p.key.0 < q.key.0) (λ k l. k.0 < l.0) (λ q. q.key) (filter (is_other_asker key b) (state_of old).peers) (λ p q lt. lt)
      (to_pairs (λ p q. p.key.0 < q.key.0) (filter (is_other_asker key b) (state_of old).peers) kept))

  -- each is asked, of the book with the one pair less
  asked_still : (k : PeerKey) → Contains askers k → IsPair book k b
  unfolding askers
  asked_still k c =
      let q = contains_map (λ q. q.key) (filter (is_other_asker key b) (state_of old).peers) c in
      let passes = contains_filter (is_other_asker key b) (state_of old).peers q.1 in
      let both = and_true (not (q.0.key.0 == key.0)) passes.1 in
      let m = contains_map (peer_of old.book) old.peers.items passes.0 in
      let apart : q.0.key.0 ≢ key.0 = λ e. not_true _ both.0 (let t : (q.0.key.0 == key.0) ≡ true = eqb_same q.0.key.0 key.0 e in t) in
      let among : Contains q.0.asked b = is_asked_has b q.0 both.1 in
      let old_among : Contains (asked_of old.book m.0.key) b = subst (λ (r : PeerState). Contains r.asked b) (sym m.2) among in
      let same_key : m.0.key ≡ q.0.key = ap (λ (r : PeerState). r.key) m.2 in
      let now = others q.0.key apart in
      subst (λ k. IsPair book k b) q.2
      ((counted_blocks b (asked_of book q.0.key)).1 (subst (λ (bs : List BlockId). Contains bs b) (ap (asked_of old.book) same_key ∙ sym now) old_among))
    where
      eqb_same : (m n : ℕ) → m ≡ n → (m == n) ≡ true
      eqb_same m n e = grind (arith, e)

  named : (k : PeerKey) → IsPair book k b → Contains askers k
  unfolding askers
  named k pair = elim (cases_eq k.0 key.0) [
    | inl same ↦ absurd (own_gone (subst (λ (j : PeerKey). IsPair book j b) (same_peer k key same) pair))
    | inr apart ↦
        let now = others k apart in
        let among : Contains (asked_of old.book k) b = subst (λ (bs : List BlockId). Contains bs b) now ((counted_blocks b (asked_of book k)).0 pair) in
        let joined = joined_by k among in
        let m = contains_map (λ (p : Peer). p.key) old.peers.items (subst (λ (ks : List PeerKey). Contains ks k) (sym tied.joined) ((joined_peers old.book k).0 joined)) in
        let q = map_contains (peer_of old.book) old.peers.items m.1 in
        let is : is_asked b (peer_of old.book m.0) ≡ true = has_is_asked b (peer_of old.book m.0) (subst (λ (j : PeerKey). Contains (asked_of old.book j) b) (sym m.2) among) in
        let other : not (m.0.key.0 == key.0) ≡ true = ap not (ne_eqb m.0.key.0 key.0 (λ e. apart (sym (ap (λ (j : PeerKey). j.0) m.2) ∙ e))) in
        let passes = filter_contains (is_other_asker key b) (state_of old).peers q (both_true _ _ other is) in
        subst (λ j. Contains (map (λ q. q.key) (filter (is_other_asker key b) (state_of old).peers)) j) m.2
        (map_contains (λ q. q.key) (filter (is_other_asker key b) (state_of old).peers) passes)
  ]
    where
      same_peer : (k l : PeerKey) → k.0 ≡ l.0 → k ≡ l
      same_peer k l e = grind (arith, e)

      own_gone : IsPair book key b → ⊥
      own_gone has =
          let among = (counted_blocks b (asked_of book key)).0 has in
          let left = subst (λ (bs : List BlockId). Contains bs b) own among in
          not_true _ (contains_filter (λ c. not (is_block b c)) (asked_of old.book key) left).1 (is_itself {b = b} {c = b} refl)

      joined_by : (k : PeerKey) → Contains (asked_of old.book k) b → IsJoined old.book k
      joined_by k among = elim (cases_lt 0 (count_by (is_of k) old.book.peers)) [
        | inl some ↦ some
        | inr none ↦ absurd (let no = asked_none k old.book.peers (omega (arith, none)) in contains_none (subst (λ (bs : List BlockId). Contains bs b) no among))
      ]

  pub cancels_are : (ask : Ask) (p : PeerState) → p.key ≡ key → (keys : List PeerKey) → AreAskers book b keys
      → cancels_to ask keys ≡ cancels (state_of old) p ask b
  unfolding askers
  cancels_are ask p same keys are =
      let one : keys ≡ askers = one_order keys askers are.ascending ascend (λ k. (λ c. named k ((are.exact k).0 c), λ c. (are.exact k).1 (asked_still k c))) in
      ap (cancels_to ask) one
      ∙ map_twice (λ k. (k, message_frame (Cancel ask))) (λ q. q.key) (filter (is_other_asker key b) (state_of old).peers)
      ∙ ap (λ (k : PeerKey). map (λ q. sent_to q (Cancel ask)) (filter (is_other_asker k b) (state_of old).peers)) (sym same)
