-- What follows from the clauses of `ask_all`, for its callers too.
use Rattle.std.proofs.Common.{◌≡◌, ◌≢◌, ◌+◌, ◌≤◌, ◌⊎◌, inl, inr, Bool, true, cond, List, [], ◌∷◌, ◌++◌, length, get_or, take, count_by, Option, sym, ap, ◌∙◌, subst, append-nil, length-append, arith}
use Rattle.std.specs.Prelude.{All, Contains}
use Rattle.std.specs.List.{AllPairs}
use Rattle.std.proofs.lemmas.List.Sums.{sum_by-append}
use Rattle.std.proofs.lemmas.Bool.{cases_lt, true≢false}
use Rattle.bt_book.specs.declared.names.PeerKey.{PeerKey}
use Rattle.bt_book.specs.declared.names.BlockId.{BlockId}
use Rattle.bt_book.specs.Blocks.{Blocks, member, member_count, is_block, GivesFirst, says}
use Rattle.bt_book.specs.Book.{BookState, IsBook, IsJoined, is_of, asked_in, asked_of, pair_count, peers_of, CanAsk, IsNextAsked, alone, beside, HasAskedAll, AreAskedInTurn, KeepsOthers, with_pairs, max_requests}
use Rattle.bt_book.proofs.Once.{counted_twice}
use Rattle.bt_book.proofs.Pairs.{is_itself}
use Rattle.bt_book.proofs.Changes.{joined_changed, pairs_changed, pushed_none, asked_by, others_by, peers_by}
use Rattle.bt_book.proofs.Listed.{counted_blocks}

count_append : (c : BlockId) (bs cs : List BlockId) → count_by (is_block c) (bs ++ cs) ≡ count_by (is_block c) bs + count_by (is_block c) cs
count_append c bs cs = sum_by-append (λ x. cond (is_block c x) 1 0) bs cs

-- what is asked for next is held
held_next : (has : BlockId → Bool) (book : BookState) (key : PeerKey) (b : BlockId) → IsNextAsked (says has) book key b → has b ≡ true
held_next has book key b (alone least) = least.held
held_next has book key b (beside none least) = least.held

-- the peer has each block
pub held_in_turn : (has : BlockId → Bool) (book : BookState) (key : PeerKey) (blocks : List BlockId) → AreAskedInTurn has book key blocks
    → All (λ b. has b ≡ true) blocks
held_in_turn has book key blocks turns i d lt = held_next has (with_pairs book key (take i blocks)) key (get_or blocks i d) (turns i d lt)

asked_then : (key : PeerKey) (old new : BookState) (blocks : List BlockId) → new ≡ with_pairs old key blocks → (blocks ≢ [] → IsJoined old key)
    → asked_of new key ≡ asked_of old key ++ blocks
asked_then key old new [] now joined =
    ap (λ (s : BookState). asked_of s key) now ∙ ap (asked_in key) (pushed_none key old.peers) ∙ sym (append-nil (asked_of old key))
asked_then key old new (b ∷ bs) now joined = asked_by key old new (λ blocks. blocks ++ b ∷ bs) now (joined (λ none. cc))

module _ (key : PeerKey) (old new : BookState) (blocks : List BlockId) (now : new ≡ with_pairs old key blocks) where
  -- what every other peer is asked for is the same
  pub others_with_pairs : KeepsOthers old new key
  others_with_pairs = others_by key old new (λ bs. bs ++ blocks) now

  -- the same peers have joined
  pub peers_with_pairs : peers_of new ≡ peers_of old
  peers_with_pairs = peers_by key old new (λ bs. bs ++ blocks) now

  pub joined_with_pairs : count_by (is_of key) new.peers ≡ count_by (is_of key) old.peers
  joined_with_pairs = ap (λ (s : BookState). count_by (is_of key) s.peers) now ∙ joined_changed key key (λ bs. bs ++ blocks) old.peers

  -- the same blocks are wanted
  pub wanted_with_pairs : old.wanted ≡ new.wanted
  wanted_with_pairs = sym (ap (λ (s : BookState). s.wanted) now)

  pub gives_with_pairs : (next : BlockId → Option BlockId → Type 0) (has : BlockId → Bool) → GivesFirst next old.wanted has → GivesFirst next new.wanted has
  gives_with_pairs next has gives = subst (λ (w : Blocks). GivesFirst next w has) wanted_with_pairs gives

  module _ (joined : blocks ≢ [] → IsJoined old key) where
    -- the peer is asked for them behind those before
    pub asked_with_pairs : asked_of new key ≡ asked_of old key ++ blocks
    asked_with_pairs = asked_then key old new blocks now joined

    pub size_with_pairs : length (asked_of new key) ≡ length (asked_of old key) + length blocks
    size_with_pairs = ap (λ (bs : List BlockId). length bs) asked_with_pairs ∙ length-append (asked_of old key) blocks

    pub own_with_pairs : (c : BlockId) → count_by (is_block c) (asked_of new key) ≡ count_by (is_block c) (asked_of old key) + count_by (is_block c) blocks
    own_with_pairs c = ap (λ (bs : List BlockId). count_by (is_block c) bs) asked_with_pairs ∙ count_append c (asked_of old key) blocks

    once : IsBook new → (c : BlockId) → count_by (is_block c) blocks ≤ 1
    once kept c = omega (arith, own_with_pairs c, kept.apart key c)

    -- none of them is given twice
    pub distinct_in_book : IsBook new → AllPairs (λ b c. b ≢ c) blocks
    distinct_in_book kept i j d lt inside same =
        let b = get_or blocks i d in
        let also = subst (λ x. is_block b x ≡ true) same (is_itself b) in
        absurd (omega (arith, counted_twice (is_block b) blocks i j d lt inside (is_itself b) also, once kept b))

    module _ (laws : IsBook old) where
      pub pairs_with_pairs : (c : BlockId) → pair_count new c ≡ pair_count old c + count_by (is_block c) blocks
      pairs_with_pairs c =
          let pairs = ap (λ (s : BookState). pair_count s c) now in
          let asked = ap (λ (s : BookState). count_by (is_block c) (asked_of s key)) (sym now) ∙ own_with_pairs c in
          omega (arith, pairs, asked, pairs_changed key c (λ bs. bs ++ blocks) old.peers (laws.once key))

      -- one that it might be asked for, and is not given, it may be asked for still
      still_able : (c : BlockId) → CanAsk old key c → count_by (is_block c) blocks ≡ 0 → CanAsk new key c
      still_able c (inl u) none = inl (record {
        wanted = subst (λ (w : Blocks). member w c ≡ true) wanted_with_pairs u.wanted;
        free = omega (arith, pairs_with_pairs c, u.free);
      })
      still_able c (inr s) none = inr (record {
        endgame = subst (λ (w : Blocks). member_count w ≤ 16) wanted_with_pairs s.endgame;
        wanted = subst (λ (w : Blocks). member w c ≡ true) wanted_with_pairs s.wanted;
        apart = omega (arith, own_with_pairs c, s.apart);
        room = omega (arith, pairs_with_pairs c, s.room);
      })

      -- the peer is asked for as many as may be, or for each that it has and might be asked for
      pub none_left : (next : BlockId → Option BlockId → Type 0) → HasAskedAll next new key
          → (¬ IsJoined old key) ⊎ (length (asked_of old key) + length blocks ≡ max_requests)
          ⊎ ((has : BlockId → Bool) → GivesFirst next old.wanted has → (c : BlockId) → CanAsk old key c → has c ≡ true → Contains blocks c)
      none_left next (inl out) = inl (λ there. out (omega (arith, joined_with_pairs, there)))
      none_left next (inr (inl full)) = inr (inl (omega (arith, size_with_pairs, full)))
      none_left next (inr (inr none)) = inr (inr (λ has gives c can held. elim (cases_lt 0 (count_by (is_block c) blocks)) [
        | inl there ↦ (counted_blocks c blocks).0 there
        | inr missing ↦ absurd (true≢false (sym held ∙ none has (gives_with_pairs next has gives) c (still_able c can (omega arith))))
      ]))
