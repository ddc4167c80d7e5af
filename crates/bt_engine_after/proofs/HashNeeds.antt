-- The search for the least leaf that is needed of a peer: by what it has, by unknown leaves, and by marks.
use Rattle.bt_machine.proofs.Base.{◌≡◌, ℕ, ◌+◌, ◌<◌, ◌⊎◌, inl, inr, Bool, true, false, List, length, get_or, Option, Some, None, refl, sym, ap, ◌∙◌, subst, arith, slice_get, option_map_or, cases_lt, block_count, BlockId, BlockState, Missing, Marked, Facts, blocks_of, held_at, value_at, HashKey}
use Rattle.std.specs.Prelude.{not, ◌&&◌, ◌/◌, ◌*◌, ◌-◌, ◌^◌, max, unwrap_or, IsSome, IsNone, IfSome, IfNone, slice_index_or}
use Rattle.std.specs.Option.{option_and_then}
use Rattle.std.proofs.lemmas.Bool.{true≢false}
use Rattle.bt_store.specs.BlockStates.{is_marked}
use Rattle.bt_store.specs.declared.block_states.BlockState.TheVariants.{Waiting}
use Rattle.bt_meta.specs.PieceBlocks.{HasBlock}
use Rattle.bt_book.specs.Blocks.{IsBefore, IsFrom, IsFirst, HasNoFirst}
use Rattle.bt_book.proofs.Firsts.{before_or_from, same_id}
use Rattle.bt_hashreq.specs.Request.{IsPlan}
use Rattle.bt_sparse.specs.Unknown.{HoldsLeaves, IsNextUnknown}
use Rattle.bt_sparse.proofs.Anchors.{known_above}
use Rattle.bt_machine.proofs.Lists.{get_some, some_below, some_is, some_not_none, and_then_some, and_true}
use Rattle.bt_machine.specs.State.{EngineState, PeerState, FileState}
use Rattle.bt_machine.specs.Blocks.{block_id, state_at, tree_of, leaf_at, is_marked_in}
use Rattle.bt_machine.specs.Shape.{IsShaped}
use Rattle.bt_machine.specs.FollowUp.{NeedsLeaf, IsLeastNeed}
use Rattle.bt_engine_state.specs.Parts.{state_of, file_of}
use Rattle.bt_engine_state.specs.Ties.{IsTied, LiesAmong, KnowsLeaves}
use Rattle.bt_engine_state.specs.declared.slot.Slot.{Slot}
use Rattle.bt_engine_state.specs.declared.parts.Parts.{Parts}
use Rattle.bt_engine_state.proofs.Lists.{get_mapped, get_read, get_at}
use Rattle.bt_engine_state.specs.PieceSets.{without}
use Rattle.bt_engine_state.proofs.OutsidePieces.{bit_without}
use Rattle.bt_engine_after.specs.HeldSteps.{is_held, LiesIn}
use Rattle.bt_engine_after.specs.HashRequestsSteps.{AsksForLeast, NeedsNoLeaf, IsUnknownFrom}
use Rattle.bt_engine_after.proofs.PieceOrder.{not_true, held_lies, lies_held}
use Rattle.bt_engine_after.proofs.Blocks.{has_of_held, held_of_has}

-- ---- marks

not_marked : (o : Option BlockState) {x : BlockState} → o ≡ Some x → option_map_or is_marked o false ≡ false → (o ≡ Some Missing) ⊎ (o ≡ Some Waiting)
not_marked o {x} at e = by x at (sym (ap (λ q. option_map_or is_marked q false) at) ∙ e)
  where
    by : (y : BlockState) → o ≡ Some y → is_marked y ≡ false → (o ≡ Some Missing) ⊎ (o ≡ Some Waiting)
    by Missing at free = inl at
    by Waiting at free = inr at
    by Marked at free = absurd (true≢false free)

marked_not : (o : Option BlockState) → (o ≡ Some Missing) ⊎ (o ≡ Some Waiting) → option_map_or is_marked o false ≡ true → ⊥
marked_not o (inl missing) e = true≢false (sym e ∙ ap (λ q. option_map_or is_marked q false) missing)
marked_not o (inr waiting) e = true≢false (sym e ∙ ap (λ q. option_map_or is_marked q false) waiting)

-- ---- a block of the torrent

module _ (s : EngineState) (shaped : IsShaped s.torrent s) (b : BlockId) (h : HasBlock s.torrent b.file b.block) where
  some_bytes : 0 < h.entry.length
  some_bytes = let inside = h.inside in omega arith

  below : b.file < length s.files
  below = let lt = some_below s.torrent.files b.file h.found in omega (arith, shaped.count)

  -- it has a state
  has_state : (x : BlockState) × (state_at s b ≡ Some x)
  has_state =
      let f = get_some s.files b.file below in
      let shape = shaped.each b.file h.entry f.0 h.found f.1 in
      let x = get_some f.0.states b.block (omega (arith, shape.blocks, h.inside)) in
      (x.0, ap (option_and_then (λ (g : FileState). slice_get g.states b.block)) f.1 ∙ x.1)

  -- its file has a tree, of the file's length
  pub file_tree : (f : FileState) → slice_get s.files b.file ≡ Some f → (k : Facts) × (slice_get s.trees f.tree ≡ Some k) × (k.file_length ≡ h.entry.length)
  file_tree f at = let t = (shaped.each b.file h.entry f h.found at).has_tree some_bytes in (t.0, t.1, t.3)

  pub has_tree : (k : Facts) × (tree_of s b.file ≡ Some k)
  has_tree =
      let f = get_some s.files b.file below in
      let t = file_tree f.0 f.1 in
      (t.0, ap (option_and_then (λ (g : FileState). slice_get s.trees g.tree)) f.1 ∙ t.1)

  pub leaf_inside : {k : Facts} → tree_of s b.file ≡ Some k → b.block < blocks_of k
  leaf_inside {k} tree =
      let f = and_then_some (λ (g : FileState). slice_get s.trees g.tree) (slice_get s.files b.file) tree in
      let t = file_tree f.0 f.1 in
      let same : k.file_length ≡ h.entry.length = ap (λ (j : Facts). j.file_length) (some_is (sym f.2 ∙ t.1)) ∙ t.2 in
      subst (λ n. b.block < block_count n) (sym same) h.inside

-- no leaf before this block is needed
abbrev pub NoneBefore : (List ℕ → List ℕ) → EngineState → PeerState → BlockId → Type 0
NoneBefore dig s p from = (c : BlockId) → IsBefore c from → ¬ NeedsLeaf dig s p c

pub none_yet : (dig : List ℕ → List ℕ) (s : EngineState) (p : PeerState) → NoneBefore dig s p (record { file = 0; block = 0 })
none_yet dig s p c (inl lt) = absurd (omega (arith, lt))
none_yet dig s p c (inr at) = absurd (omega (arith, at.1))

module _ (dig : List ℕ → List ℕ) (s : EngineState) (shaped : IsShaped s.torrent s) where
  -- ---- leaves

  -- what is known of a block's leaf is what is held
  pub leaf_is : (b : BlockId) {k : Facts} → tree_of s b.file ≡ Some k → b.block < blocks_of k → leaf_at dig s b ≡ held_at k 0 b.block
  leaf_is b {k} tree inside =
      let same : b.block / 1 ≡ b.block = omega arith in
      ap (option_and_then (λ (j : Facts). value_at dig j 0 b.block)) tree
      ∙ ap (λ n. value_at dig k 0 n) (sym same) ∙ known_above dig k b.block 0 inside (omega arith) ∙ ap (λ n. held_at k 0 n) same

  -- the next leaf that is unknown, or the number of blocks where there is none
  pub unknown_by : (b : BlockId) {k : Facts} → HasBlock s.torrent b.file b.block → tree_of s b.file ≡ Some k → (o : Option ℕ) (next : ℕ)
      → next ≡ unwrap_or o (blocks_of k) → IfSome o (IsNextUnknown k b.block) → IfNone o (HoldsLeaves k b.block (blocks_of k))
      → IsUnknownFrom dig s b next
  unknown_by b {k} h tree (Some leaf) next is some none = record {
    after = omega (arith, is, some.after);
    known = λ c same from lt gone. some_not_none (some.nearest c.block from (omega (arith, lt, is)))
        (sym (leaf_is c (ap (tree_of s) same ∙ tree) (omega (arith, lt, is, some.block))) ∙ gone);
    unknown = λ here.
        leaf_is (block_id b.file next) tree (leaf_inside s shaped (block_id b.file next) here tree) ∙ ap (λ n. held_at k 0 n) is ∙ some.unknown;
  }
  unknown_by b {k} h tree None next is some none =
      let inside = leaf_inside s shaped b h tree in
      record {
        after = omega (arith, is, inside);
        known = λ c same from lt gone. (let below : c.block < blocks_of k = omega (arith, lt, is) in
            some_not_none (none c.block from below) (sym (leaf_is c (ap (tree_of s) same ∙ tree) below) ∙ gone));
        unknown = λ here. absurd (let past = leaf_inside s shaped (block_id b.file next) here tree in omega (arith, is, past));
      }

  -- ---- the key of the least leaf

  module _ (b : BlockId) {k : Facts} (tree : tree_of s b.file ≡ Some k) (has : List Bool) (least : (p : PeerState) → p.has ≡ has → IsLeastNeed dig s p b) where
    pub planned : (o : Option HashKey) → IfSome o (IsPlan k b.block) → IfSome o (λ key. (p : PeerState) → p.has ≡ has → AsksForLeast dig s p key)
    planned None plan = tt
    planned (Some key) plan = λ p same. record { block = b; tree = k; least = least p same; has_tree = tree; plan = plan }

    pub unplanned : HasBlock s.torrent b.file b.block → (o : Option HashKey) → (IsNone o → IsSome (held_at k 0 b.block))
        → IfNone o ((p : PeerState) → p.has ≡ has → NeedsNoLeaf dig s p)
    unplanned h (Some key) known = tt
    unplanned h None known = λ p same c n. some_not_none (known refl) (sym (leaf_is b tree (leaf_inside s shaped b h tree)) ∙ (least p same).needs.unknown)

  -- ---- the search, among the pieces that are not known

  module _ (known : List Bool) (knows : KnowsLeaves s known) (p : PeerState) where
    has_it : (c : BlockId) → NeedsLeaf dig s p c → is_held s.torrent p.has c ≡ true
    has_it c n = elim n.not_marked [
      | inl missing ↦ held_of_has s shaped p c missing n.has
      | inr waiting ↦ held_of_has s shaped p c waiting n.has
    ]

    -- in a known piece no leaf is needed
    not_known : (c : BlockId) {q : ℕ} → LiesIn s.torrent c q → NeedsLeaf dig s p c → slice_index_or known q false ≡ true → ⊥
    not_known c l n is =
        let among : LiesAmong s known c = has_of_held s shaped (record p { has = known }) c (lies_held s.torrent known c l is) in
        let tree = has_tree s shaped c l.has in
        let inside = leaf_inside s shaped c l.has tree.1 in
        some_not_none (knows.each c tree.0 l.has among tree.1) (sym (leaf_is c tree.1 inside) ∙ n.unknown)

    needs_held : (c : BlockId) → NeedsLeaf dig s p c → is_held s.torrent (without p.has known) c ≡ true
    needs_held c n =
        let h = held_lies s.torrent p.has c (has_it c n) in
        let apart = not_true (slice_index_or known h.0 false) (λ is. not_known c h.1 n is) in
        lies_held s.torrent (without p.has known) c h.1 (bit_without p.has known h.0 ∙ ap (λ b. b && not (slice_index_or known h.0 false)) h.2 ∙ ap not apart)

    held_by_peer : (c : BlockId) → is_held s.torrent (without p.has known) c ≡ true → is_held s.torrent p.has c ≡ true
    held_by_peer c e =
        let h = held_lies s.torrent (without p.has known) c e in
        lies_held s.torrent p.has c h.1 (and_true _ (sym (bit_without p.has known h.0) ∙ h.2)).0

    module _ (from : BlockId) (none : NoneBefore dig s p from) where
      pub none_left : HasNoFirst (is_held s.torrent (without p.has known)) from → NeedsNoLeaf dig s p
      none_left past c n = elim (before_or_from from c) [
        | inl before ↦ none c before n
        | inr behind ↦ true≢false (sym (needs_held c n) ∙ past c behind)
      ]

      module _ (held : BlockId) (first : IsFirst (is_held s.torrent (without p.has known)) from held) where
        none_before : NoneBefore dig s p held
        none_before c before n = elim (before_or_from from c) [
          | inl sooner ↦ none c sooner n
          | inr behind ↦ true≢false (sym (needs_held c n) ∙ first.least c behind before)
        ]

        -- it is found
        pub least : (next : ℕ) → IsUnknownFrom dig s held next → next ≡ held.block → is_marked_in s held ≡ false → IsLeastNeed dig s p held
        least next unknown here unmarked =
            let state = has_state s shaped held (held_lies s.torrent (without p.has known) held first.held).1.has in
            record {
              needs = record {
                has = has_of_held s shaped p held (held_by_peer held first.held);
                not_marked = not_marked (state_at s held) state.1 unmarked;
                unknown = subst (λ n. leaf_at dig s (block_id held.file n) ≡ None) here
                    (unknown.unknown (subst (λ n. HasBlock s.torrent held.file n) (sym here) (held_lies s.torrent (without p.has known) held first.held).1.has));
              };
              least = λ c n before. none_before c before n;
            }

        -- none up to the next unknown leaf, nor the block itself where its leaf is known or it is marked
        pub passed : (next to : ℕ) → IsUnknownFrom dig s held next → to ≡ max next (held.block + 1) → (next ≡ held.block → is_marked_in s held ≡ true)
            → NoneBefore dig s p (record { file = held.file; block = to })
        passed next to unknown to_is marked c (inl lt) n = none_before c (inl lt) n
        passed next to unknown to_is marked c (inr at) n = elim (cases_lt c.block held.block) [
          | inl sooner ↦ none_before c (inr (at.0, sooner)) n
          | inr from_held ↦ elim (cases_lt c.block next) [
            | inl lt ↦ unknown.known c at.0 from_held lt n.unknown
            | inr past ↦ (
                let here : next ≡ held.block = omega (arith, unknown.after, past, from_held, at.1, to_is) in
                let same : c.block ≡ held.block = omega (arith, here, past, from_held, at.1, to_is) in
                marked_not (state_at s c) n.not_marked (ap (is_marked_in s) (same_id held c at.0 same) ∙ marked here)
                )
          ]
        ]

-- the search goes on after the block, in the same file, and so comes to an end
pub nearer : (files : ℕ) (from held : BlockId) (to : ℕ) → from.block < 2 ^ 32 → to < 2 ^ 32 → held.file < files → IsFrom from held → held.block < to
    → files * 2 ^ 32 - (held.file * 2 ^ 32 + to) < files * 2 ^ 32 - (from.file * 2 ^ 32 + from.block)
nearer files from held to fits limit inside (inl lt) behind = omega arith
nearer files from held to fits limit inside (inr at) behind = let same = at.0 in let le = at.1 in omega arith

-- a block that is held stands in a file of the torrent
pub in_files : (s : EngineState) (has : List Bool) (b : BlockId) → is_held s.torrent has b ≡ true → b.file < length s.torrent.files
in_files s has b e = some_below s.torrent.files b.file (held_lies s.torrent has b e).1.has.found

-- ---- the tree of a block's file, as the parts have it

module _ {D H : Type 0} (parts : Parts D H) (tied : IsTied parts) (shaped : IsShaped parts.torrent (state_of parts)) (b : BlockId)
    (h : HasBlock parts.torrent b.file b.block) (slots : List (Slot D H)) (all : slots ≡ parts.slots.items) (d : Slot D H) where
  file_here : slice_get (state_of parts).files b.file ≡ Some (file_of (get_or slots b.file d))
  file_here =
      let lt : b.file < length slots = omega (arith, some_below parts.torrent.files b.file h.found, tied.count, ap (λ xs. length xs) all) in
      get_mapped file_of parts.slots.items b.file (ap (λ xs. slice_get xs b.file) (sym all) ∙ get_at slots b.file d lt)

  module _ (trees : List Facts) (each : trees ≡ parts.trees.items) where
    tree_stands : (k : Facts) × (slice_get trees (get_or slots b.file d).tree ≡ Some k)
    tree_stands =
        let t = file_tree (state_of parts) shaped b h (file_of (get_or slots b.file d)) file_here in
        (t.0, ap (λ ks. slice_get ks (get_or slots b.file d).tree) each ∙ t.1)

    pub tree_below : (get_or slots b.file d).tree < length trees
    tree_below = let t = tree_stands in some_below trees (get_or slots b.file d).tree t.1

    pub tree_is : (k : Facts) → k ≡ get_or trees (get_or slots b.file d).tree k → tree_of (state_of parts) b.file ≡ Some k
    tree_is k read =
        ap (option_and_then (λ (f : FileState). slice_get parts.trees.items f.tree)) file_here
        ∙ ap (λ ks. slice_get ks (get_or slots b.file d).tree) (sym each) ∙ get_read trees (get_or slots b.file d).tree k tree_below read
