-- A block that has another state: what its piece's count, the book and the parts of an engine owe.
use Rattle.bt_machine.proofs.Base.{[], ◌≡◌, ◌≢◌, ℕ, ◌+◌, ◌-◌, ◌*◌, ◌/◌, ◌%◌, ◌<◌, ◌≤◌, ◌⊎◌, inl, inr, Bool, true, false, not, cond, List, ◌∷◌, length, map, filter, min, get_or, Option, Some, None, refl, sym, ap, ◌∙◌, arith, subst, slice_get, slice_set, option_map, option_and_then, option_map_or, Contains, ◌==◌, eqb-true, eq-eqb, PeerKey, BlockId, BlockState, Missing, Waiting, Marked, is_waiting, Metainfo, File, IsLaidOut, IsLawfulFile, All, total_pieces, AllPairs-filter, block_count, block_length, is_block, without_block, max_peers, Facts}
use Rattle.std.specs.Prelude.{◌↔◌, ◌^◌, count_by}
use Rattle.std.specs.Vec.{vec_capacity}
use Rattle.std.proofs.lemmas.Option.{get_or_from_slice_get}
use Rattle.std.proofs.lemmas.Bool.{cases_lt}
use Rattle.std.proofs.lemmas.List.Sums.{count_by-le-length}
use Rattle.bt_tree.specs.TreeShape.{IsPieceLength}
use Rattle.bt_meta.specs.PieceBlocks.{HasBlock, ArePieceBlocks, IsOfRun}
use Rattle.bt_meta.specs.declared.piece_blocks.BlockRun.{BlockRun}
use Rattle.bt_meta.specs.declared.piece_blocks.PieceRange.{PieceRange}
use Rattle.bt_meta.proofs.PieceBlocks.{blocks_per_piece, HasPieceOf, quotient, lies_in_piece}
use Rattle.bt_book.specs.Blocks.{Blocks, IsBefore, IsInRange, member, with_block}
use Rattle.bt_book.specs.Book.{BookState, IsBook, asked_of, peers_of}
use Rattle.bt_book.proofs.BlockSets.{member_with, shape_with}
use Rattle.bt_book.proofs.Listed.{counted_blocks, asked_le_pairs}
use Rattle.bt_book.proofs.Once.{filter_none}
use Rattle.bt_book.proofs.Pairs.{same_block, is_itself}
use Rattle.bt_store.specs.BlockStates.{is_marked}
use Rattle.bt_machine.specs.State.{EngineState, PeerState, FileState}
use Rattle.bt_machine.specs.Blocks.{state_at, states_of, piece_of, is_in_piece, is_marked_in, all_blocks, IsAsked}
use Rattle.bt_machine.specs.Changes.{DifferAt}
use Rattle.bt_machine.specs.Shape.{IsShaped}
use Rattle.bt_machine.proofs.Lists.{here, later, contains_none, contains_cases, contains_filter, map_contains, some_below, some_is, get_some, and_then_some}
use Rattle.bt_machine.proofs.Pairs.{Pairs, to_pairs, from_pairs, contains_some, pairs_map}
use Rattle.bt_engine_state.specs.BlockChange.{AreFollowed, OneChanged, HasChanged, asked_after}
use Rattle.bt_engine_state.specs.BlockChangeSteps.{mark_count, wait_count}
use Rattle.bt_engine_state.specs.Parts.{state_of, peer_of}
use Rattle.bt_engine_state.specs.Ties.{AreUnmarked, unmarked_in, waiting_count, AreCounted, IsTied, FitsFile, HaveRoots, LeavesStay}
use Rattle.bt_engine_state.specs.declared.counts.Counts.{Counts}
use Rattle.bt_engine_state.specs.declared.peer.Peer.{Peer}
use Rattle.bt_engine_state.specs.declared.slot.Slot.{Slot}
use Rattle.bt_engine_state.specs.declared.parts.Parts.{Parts}
use Rattle.bt_engine_state.proofs.Leaves.{knows_still}
use Rattle.bt_engine_state.proofs.Lists.{map_agree, get_mapped}
use Rattle.bt_engine_state.proofs.PeerLists.{AreInOrder}
use Rattle.bt_engine_state.proofs.Ties.{same_counts}
use Rattle.bt_engine_state.proofs.Unmarked.{one_if, count_moves, count_set, is_among, all_in_order}
use Rattle.bt_engine_state.proofs.WaitingBlocks.{waiting_moves, few_wait}

-- ---- blocks that have a state

below_state : (o : Option FileState) (i : ℕ) {x : BlockState} → option_and_then (λ f. slice_get f.states i) o ≡ Some x
    → i < length (option_map_or (λ f. f.states) o [])
below_state None i e = absurd cc
below_state (Some f) i e = some_below f.states i e

state_below : (o : Option FileState) (i : ℕ) → i < length (option_map_or (λ f. f.states) o [])
    → (x : BlockState) × (option_and_then (λ f. slice_get f.states i) o ≡ Some x)
state_below None i lt = absurd (omega arith)
state_below (Some f) i lt = get_some f.states i lt

pub is_inside : (s : EngineState) (b : BlockId) {x : BlockState} → state_at s b ≡ Some x → b.block < length (states_of s b.file)
is_inside s b at = below_state (slice_get s.files b.file) b.block at

pub has_state : (s : EngineState) (b : BlockId) → b.block < length (states_of s b.file) → (x : BlockState) × (state_at s b ≡ Some x)
has_state s b lt = state_below (slice_get s.files b.file) b.block lt

-- a block that has a state then had one before
pub had_state : {blocks : List BlockId} {s t : EngineState} → DifferAt blocks s t → (b : BlockId) {x : BlockState} → state_at t b ≡ Some x
    → (y : BlockState) × (state_at s b ≡ Some y)
had_state {blocks} {s} {t} d b at = has_state s b (let lt = is_inside t b at in let size = d.sizes b.file in omega arith)

-- ---- a piece has few blocks

next_number : (b c : BlockId) → IsBefore b c → b.file ≡ c.file → b.block + 1 ≤ c.block
next_number b c (inl lt) same = absurd (omega arith)
next_number b c (inr past) same = let lt = past.1 in omega arith

-- blocks in order of one file are not more than the numbers that they lie among
few_numbers : (xs : List BlockId) (file first n : ℕ) → Pairs IsBefore xs
    → ((c : BlockId) → Contains xs c → IsOfRun (record { file = file; first = first; count = n }) c.file c.block) → length xs ≤ n
few_numbers [] file first n p each = omega arith
few_numbers (x ∷ xs) file first n p each =
    let own = each x (here xs refl) in
    let from = own.from in
    let below = own.below in
    let rest = few_numbers xs file (x.block + 1) (first + n - (x.block + 1)) p.1 (λ c among. (
    let of = each c (later x xs among) in
    let end = of.below in
    record { same_file = of.same_file; from = next_number x c (p.0 c among) (own.same_file ∙ sym of.same_file); below = omega arith }
    )) in
    omega (arith, rest, from, below)

number_there : (o : Option ℕ) (piece : ℕ) → option_map_or (λ p. p == piece) o false ≡ true → o ≡ Some piece
number_there None piece e = absurd cc
number_there (Some p) piece e = ap (λ n. Some n) (eqb-true p piece e)

-- the range of a block that the torrent has
abbrev range_at : (torrent : Metainfo) (file block : ℕ) → HasBlock torrent file block → PieceRange
range_at torrent file block has = record {
  piece = has.entry.first_piece + 16384 * block / torrent.piece_length;
  begin = 16384 * block % torrent.piece_length;
  length = block_length has.entry.length block;
}

-- the blocks of the piece of a block
module _ (torrent : Metainfo) (file block piece : ℕ) (has : HasBlock torrent file block) (m : ℕ) (is : HasPieceOf torrent.piece_length m)
    (at : has.entry.first_piece + 16384 * block / torrent.piece_length ≡ piece) where
  abbrev run : BlockRun
  run = record { file = file; first = block / m * m; count = min m (block_count has.entry.length - block / m * m) }

  turn : piece - has.entry.first_piece ≡ block / m
  turn = omega (arith, at, quotient torrent.piece_length m is block)

  run_is : ArePieceBlocks torrent piece run
  run_is =
      let some = is.some in
      let whole = is.whole in
      let inside = has.inside in
      let bytes : block / m * torrent.piece_length ≡ 16384 * (block / m * m) = ap (λ p. block / m * p) whole ∙ omega arith in
      record {
        first_block = record { entry = has.entry; found = has.found; inside = omega arith };
        from = omega (arith, at);
        first = sym bytes ∙ ap (λ q. q * torrent.piece_length) (sym turn);
        count = ap (λ k. min k (block_count has.entry.length - block / m * m)) (omega arith);
      }

module _ (s : EngineState) (b : BlockId) (piece : ℕ) (length_is : IsPieceLength s.torrent.piece_length) (lay : IsLaidOut s.torrent.piece_length s.torrent.files)
    (listed : (c : BlockId) (x : BlockState) → state_at s c ≡ Some x → HasBlock s.torrent c.file c.block) (has : HasBlock s.torrent b.file b.block)
    (in_it : piece_of s.torrent b ≡ Some piece) where
  piece_is : has.entry.first_piece + 16384 * b.block / s.torrent.piece_length ≡ piece
  piece_is = some_is (ap (option_map (λ (f : File). f.first_piece + 16384 * b.block / s.torrent.piece_length)) (sym has.found) ∙ in_it)

  pub few_blocks : unmarked_in s piece ≤ 16384
  few_blocks =
      let per = blocks_per_piece s.torrent.piece_length length_is in
      let most = length_is.greatest in
      let whole = per.1.whole in
      let of = run_is s.torrent b.file b.block piece has per.0 per.1 piece_is in
      let blocks = filter (is_in_piece s.torrent piece) (all_blocks s) in
      let most_blocks = few_numbers blocks b.file (b.block / per.0 * per.0) (min per.0 (block_count has.entry.length - b.block / per.0 * per.0))
      (to_pairs IsBefore blocks (AllPairs-filter IsBefore (is_in_piece s.torrent piece) (all_blocks s) (from_pairs IsBefore (all_blocks s) (all_in_order s))))
      (λ c among. (
      let both = contains_filter (is_in_piece s.torrent piece) (all_blocks s) among in
      let x = has_state s c (is_among s both.0) in
      let own = listed c x.0 x.1 in
      let there = some_is (ap (option_map (λ (f : File). f.first_piece + 16384 * c.block / s.torrent.piece_length)) (sym own.found)
      ∙ number_there (piece_of s.torrent c) piece both.1) in
      (lies_in_piece s.torrent piece c.file c.block (run s.torrent b.file b.block piece has per.0 per.1 piece_is) (range_at s.torrent c.file c.block own)
      length_is lay of (record { has = own; piece = refl; begin = refl; length = refl })).0 there
      )) in
      omega (arith, most_blocks, whole, most, count_by-le-length (λ c. not (is_marked_in s c)) blocks)

-- ---- one block has another state

mark_few : (x : BlockState) → mark_count x ≤ 1
mark_few Missing = omega arith
mark_few Waiting = omega arith
mark_few Marked = omega arith

wait_few : (x : BlockState) → wait_count x ≤ 1
wait_few Missing = omega arith
wait_few Waiting = omega arith
wait_few Marked = omega arith

block_or : (t : Bool) → (t ≡ true) ⊎ (t ≡ false)
block_or true = inl refl
block_or false = inr refl

module _ {s t : EngineState} {b : BlockId} {was now : BlockState} {blocks : Blocks} {counts : Counts} (f : AreFollowed s blocks counts)
    (ch : OneChanged s t b was now) where
  pub in_range : IsInRange blocks b
  in_range = f.ranged b was ch.before

  pub has_block : HasBlock s.torrent b.file b.block
  has_block = f.listed b was ch.before

  module _ (piece : ℕ) (in_it : piece_of s.torrent b ≡ Some piece) (below : piece < total_pieces s.torrent) where
    count_is : get_or counts.unmarked.items piece 0 ≡ unmarked_in s piece
    count_is = get_or_from_slice_get counts.unmarked.items piece (unmarked_in s piece) 0 (f.counted.unmarked.each piece below)

    moves : unmarked_in s piece + mark_count was ≡ unmarked_in t piece + mark_count now
    moves =
        let before = ap (λ o. one_if (option_map_or is_marked o false)) ch.before in
        let after = ap (λ o. one_if (option_map_or is_marked o false)) ch.after in
        let move = count_moves ch.differ (is_inside s b ch.before) piece (ap (λ o. option_map_or (λ p. p == piece) o false) in_it ∙ eq-eqb piece piece refl) in
        omega (arith, before, after, move)

    -- what the count has to bear
    pub count_some : mark_count now ≤ get_or counts.unmarked.items piece 0 + mark_count was
    count_some = omega (arith, count_is, moves)

    pub count_few : IsPieceLength s.torrent.piece_length → IsLaidOut s.torrent.piece_length s.torrent.files
        → get_or counts.unmarked.items piece 0 + mark_count was < 2 ^ 32
    count_few length_is lay =
        let few = few_blocks s b piece length_is lay f.listed has_block in_it in
        let one = mark_few was in
        omega (arith, count_is, few, one)

    pub counts_then : AreUnmarked t (slice_set counts.unmarked.items piece (get_or counts.unmarked.items piece 0 + mark_count was - mark_count now))
    counts_then = count_set ch.differ (is_inside s b ch.before) piece _ counts.unmarked.items f.counted.unmarked in_it below (omega (arith, count_is, moves))

  -- the count of those that wait moves with it
  waits_move : counts.waiting + wait_count now ≡ waiting_count t + wait_count was
  waits_move =
      let before = ap (λ o. one_if (option_map_or is_waiting o false)) ch.before in
      let after = ap (λ o. one_if (option_map_or is_waiting o false)) ch.after in
      let move = waiting_moves ch.differ (is_inside s b ch.before) in
      omega (arith, before, after, move, f.counted.waiting)

  pub waits_some : wait_count was ≤ counts.waiting + wait_count now
  waits_some = omega (arith, waits_move)

  pub waits_few : IsLaidOut s.torrent.piece_length s.torrent.files → All (IsLawfulFile s.torrent.piece_length) s.torrent.files
      → counts.waiting + wait_count now < 2 ^ 64
  waits_few lay lawful =
      let few = few_wait s lay lawful (λ c lt. let x = has_state s c lt in f.listed c x.0 x.1) in
      let one = wait_few now in
      omega (arith, f.counted.waiting, few, one)

  others : (c : BlockId) → is_block b c ≡ false → state_at t c ≡ state_at s c
  others c off = ch.differ.others c (λ among. elim (contains_cases [] among) [
    | inl same ↦ absurd (let is = ap (is_block b) (sym same) ∙ is_itself b in cc)
    | inr none ↦ contains_none none
  ])

  -- the book that has the block just where it is missing, and counts that are right
  pub followed_set : (v : Bool) → (v ≡ true) ↔ (now ≡ Missing) → (new : Counts) → AreCounted t new → AreFollowed t (with_block blocks b v) new
  followed_set v means new right = record {
    wanted = λ c. elim (block_or (is_block b c)) [
      | inl same ↦ (
          let is = member_with blocks b c v in_range ∙ ap (λ u. cond u v (member blocks c)) same in
          let at = ap (λ d. state_at t d) (same_block b c same) ∙ ch.after in
          ((λ yes. at ∙ ap (λ x. Some x) (means.0 (sym is ∙ yes))), (λ lost. is ∙ means.1 (some_is (sym at ∙ lost))))
          )
      | inr off ↦ (
          let is = member_with blocks b c v in_range ∙ ap (λ u. cond u v (member blocks c)) off in
          rw is (rw (others c off) (f.wanted c))
          )
    ];
    ranged = λ c x at. (
        let had = had_state ch.differ c at in
        let size = shape_with blocks b v c.file in_range in
        let lt = f.ranged c had.0 had.1 in
        omega arith
        );
    listed = λ c x at. (
        let had = had_state ch.differ c at in
        subst (λ (m : Metainfo). HasBlock m c.file c.block) (sym ch.differ.same_torrent) (f.listed c had.0 had.1)
        );
    counted = right;
  }

  -- the book's blocks and the counts, as the calls leave them
  pub follows : (v : Bool) → (v ≡ true) ↔ (now ≡ Missing) → (torrent : Metainfo) → s.torrent ≡ torrent → (piece : ℕ) → piece_of torrent b ≡ Some piece
      → piece < total_pieces torrent → (book : Blocks) → book ≡ with_block blocks b v → (new : Counts)
      → new.unmarked.items ≡ slice_set counts.unmarked.items piece (get_or counts.unmarked.items piece 0 + mark_count was - mark_count now)
      → new.waiting ≡ counts.waiting + wait_count now - wait_count was → AreFollowed t book new
  follows v means torrent same piece in_it below book booked new marks waits =
      rw booked (followed_set v means new (record {
        unmarked = subst (λ (xs : List ℕ). AreUnmarked t xs) (sym marks)
            (counts_then piece (ap (λ (m : Metainfo). piece_of m b) same ∙ in_it) (subst (λ (m : Metainfo). piece < total_pieces m) (sym same) below));
        waiting = waits ∙ omega (arith, waits_move);
      }))

-- ---- what a caller shows

module _ {torrent : Metainfo} {blocks : Blocks} {counts : Counts} {b : BlockId} {was now : BlockState} (h : HasChanged torrent blocks counts b was now) where
  pub has_it : HasBlock torrent b.file b.block
  has_it = subst (λ (m : Metainfo). HasBlock m b.file b.block) h.same_torrent (has_block h.followed h.changed)

  module _ (piece : ℕ) (in_it : piece_of torrent b ≡ Some piece) (below : piece < total_pieces torrent) where
    lies : piece_of h.first.torrent b ≡ Some piece
    lies = ap (λ (m : Metainfo). piece_of m b) h.same_torrent ∙ in_it

    inside : piece < total_pieces h.first.torrent
    inside = subst (λ (m : Metainfo). piece < total_pieces m) (sym h.same_torrent) below

    pub bears_some : mark_count now ≤ get_or counts.unmarked.items piece 0 + mark_count was
    bears_some = count_some h.followed h.changed piece lies inside

    pub bears_few : IsPieceLength torrent.piece_length → IsLaidOut torrent.piece_length torrent.files → get_or counts.unmarked.items piece 0 + mark_count was < 2 ^ 32
    bears_few length_is lay =
        count_few h.followed h.changed piece lies inside (subst (λ (m : Metainfo). IsPieceLength m.piece_length) (sym h.same_torrent) length_is)
        (subst (λ (m : Metainfo). IsLaidOut m.piece_length m.files) (sym h.same_torrent) lay)

  pub bears_waiting_some : wait_count was ≤ counts.waiting + wait_count now
  bears_waiting_some = waits_some h.followed h.changed

  pub bears_waiting_few : IsLaidOut torrent.piece_length torrent.files → All (IsLawfulFile torrent.piece_length) torrent.files
      → counts.waiting + wait_count now < 2 ^ 64
  bears_waiting_few lay lawful =
      waits_few h.followed h.changed (subst (λ (m : Metainfo). IsLaidOut m.piece_length m.files) (sym h.same_torrent) lay)
      (subst (λ (m : Metainfo). All (IsLawfulFile m.piece_length) m.files) (sym h.same_torrent) lawful)

-- ---- the parts of an engine

not_among : (b : BlockId) (blocks : List BlockId) → ¬ Contains blocks b → without_block b blocks ≡ blocks
not_among b blocks none = filter_none (is_block b) blocks (elim (cases_lt 0 (count_by (is_block b) blocks)) [
  | inl some ↦ absurd (none ((counted_blocks b blocks).0 some))
  | inr le ↦ omega arith
])

-- a block that is missing, or was not missing, is asked of those that it was asked of
asked_same : (b : BlockId) (was now : BlockState) (blocks : List BlockId) → (was ≡ Missing → now ≢ Missing → ¬ Contains blocks b)
    → asked_after b was now blocks ≡ blocks
asked_same b Missing Waiting blocks none = not_among b blocks (none refl (λ e. absurd cc))
asked_same b Missing Marked blocks none = not_among b blocks (none refl (λ e. absurd cc))
asked_same b Missing Missing blocks none = refl
asked_same b Waiting now blocks none = refl
asked_same b Marked now blocks none = refl

pub asked_wanted : (b : BlockId) (was now : BlockState) (blocks : List BlockId) → now ≡ Missing → blocks ≡ asked_after b was now blocks
asked_wanted b was now blocks is = sym (asked_same b was now blocks (λ _ known. absurd (known is)))

pub asked_done : (b : BlockId) (was now : BlockState) (blocks : List BlockId) → now ≢ Missing → (was ≢ Missing → ¬ Contains blocks b)
    → without_block b blocks ≡ asked_after b was now blocks
asked_done b Missing Waiting blocks known none = refl
asked_done b Missing Marked blocks known none = refl
asked_done b Missing Missing blocks known none = absurd (known refl)
asked_done b Waiting now blocks known none = not_among b blocks (none (λ e. absurd cc))
asked_done b Marked now blocks known none = not_among b blocks (none (λ e. absurd cc))

-- nobody is asked for a block that was not missing
pub not_asked : {torrent : Metainfo} {counts : Counts} {b : BlockId} {was now : BlockState} (book : BookState) → HasChanged torrent book.wanted counts b was now
    → IsBook book → was ≢ Missing → (key : PeerKey) → ¬ Contains (asked_of book key) b
not_asked {b = b} book h laws known key among =
    let some = (counted_blocks b (asked_of book key)).1 among in
    let wanted = laws.wanted b (omega (arith, some, asked_le_pairs key b book.peers)) in
    known (some_is (sym h.changed.before ∙ (h.followed.wanted b).0 wanted))

-- a state is followed by what it has of the torrent and of files
pub followed_alike : {s : EngineState} {blocks : Blocks} {counts : Counts} (t : EngineState) → AreFollowed s blocks counts
    → t.torrent ≡ s.torrent → t.files ≡ s.files → AreFollowed t blocks counts
followed_alike {s} {blocks} {counts} t f torrent files = record {
  wanted = λ b. rw (at b) (f.wanted b);
  ranged = λ b x e. f.ranged b x (sym (at b) ∙ e);
  listed = λ b x e. subst (λ (m : Metainfo). HasBlock m b.file b.block) (sym torrent) (f.listed b x (sym (at b) ∙ e));
  counted = same_counts s t counts torrent files f.counted;
}
  where
    at : (b : BlockId) → state_at t b ≡ state_at s b
    at b = ap (λ (fs : List FileState). option_and_then (λ f. slice_get f.states b.block) (slice_get fs b.file)) files

-- each slot is of its file
abbrev pub EachFits : {D H : Type 0} → List File → List Facts → List (Slot D H) → Type 0
EachFits {D} {H} files trees slots = (i : ℕ) (slot : Slot D H) → slice_get slots i ≡ Some slot → FitsFile files trees i slot

pub pairs_of_map : {X Y : Type 0} (R : Y → Y → Type 0) (f : X → Y) (xs : List X) → Pairs R (map f xs) → Pairs (λ x y. R (f x) (f y)) xs
pairs_of_map R f [] p = tt
pairs_of_map R f (x ∷ xs) p = (λ y c. p.0 (f y) (map_contains f xs c), pairs_of_map R f xs p.1)

-- which of two peers comes first is a matter of their keys
order_of_keys : (peers other : List Peer) → map (λ p. p.key) peers ≡ map (λ p. p.key) other → AreInOrder other → AreInOrder peers
order_of_keys peers other same in_order =
    let R : PeerKey → PeerKey → Type 0 = λ k l. k.0 < l.0 in
    let pairs : Pairs R (map (λ p. p.key) other) =
    pairs_map (λ (p q : Peer). p.key.0 < q.key.0) R (λ p. p.key) other (λ p q lt. lt) (to_pairs (λ p q. p.key.0 < q.key.0) other in_order) in
    from_pairs (λ p q. p.key.0 < q.key.0) peers (pairs_of_map R (λ p. p.key) peers (subst (λ (ks : List PeerKey). Pairs R ks) (sym same) pairs))

module _ {D H : Type 0} (parts : Parts D H) (tied : IsTied parts) (shaped : IsShaped parts.torrent (state_of parts)) where
  lists : (b : BlockId) (x : BlockState) → state_at (state_of parts) b ≡ Some x → HasBlock parts.torrent b.file b.block
  lists b x at =
      let lt = is_inside (state_of parts) b at in
      let f = and_then_some (λ (f : FileState). slice_get f.states b.block) (slice_get (state_of parts).files b.file) at in
      let below = some_below (state_of parts).files b.file f.1 in
      let count = shaped.count in
      let entry = get_some parts.torrent.files b.file (omega arith) in
      let blocks = (shaped.each b.file entry.0 f.0 entry.1 f.1).blocks in
      let inside = some_below f.0.states b.block f.2 in
      record { entry = entry.0; found = entry.1; inside = omega arith }

  pub followed_tied : AreFollowed (state_of parts) parts.book.wanted parts.counts
  followed_tied = record { wanted = tied.wanted; ranged = tied.ranged; listed = lists; counted = tied.counted }

module _ {D H : Type 0} (old new : Parts D H) where
  -- the peers have the keys that they had, and the new state is followed
  pub tied_followed : IsTied old → new.torrent ≡ old.torrent → map (λ p. p.key) new.peers.items ≡ map (λ p. p.key) old.peers.items
      → max_peers ≤ vec_capacity new.peers → peers_of new.book ≡ peers_of old.book → length new.slots.items ≡ length old.slots.items
      → EachFits new.torrent.files new.trees.items new.slots.items → HaveRoots new → AreFollowed (state_of new) new.book.wanted new.counts
      → new.known ≡ old.known → LeavesStay (state_of old) (state_of new) → IsTied new
  tied_followed tied torrent keys room joined count each roots f known stay = record {
    joined = keys ∙ tied.joined ∙ sym joined;
    in_order = order_of_keys new.peers.items old.peers.items keys tied.in_order;
    room = room;
    wanted = f.wanted;
    ranged = f.ranged;
    count = count ∙ tied.count ∙ ap (λ (m : Metainfo). length m.files) (sym torrent);
    each = each;
    roots = roots;
    counted = f.counted;
    known = rw known (knows_still torrent stay tied.known);
  }

-- what a peer of the machine is asked for once the block was followed
abbrev pub asked_then : BlockId → (was now : BlockState) → PeerState → PeerState
asked_then b was now q = record q { asked = asked_after b was now q.asked }

told_peers : (old new : BookState) (b : BlockId) (was now : BlockState) (peers : List Peer)
    → ((key : PeerKey) → asked_of new key ≡ asked_after b was now (asked_of old key))
    → map (peer_of new) peers ≡ map (asked_then b was now) (map (peer_of old) peers)
told_peers old new b was now [] asked = refl
told_peers old new b was now (p ∷ peers) asked =
    ap {A = List BlockId} {B = List PeerState} (λ bs. record (peer_of old p) { asked = bs } ∷ map (peer_of new) peers) (asked p.key)
    ∙ ap (λ qs. asked_then b was now (peer_of old p) ∷ qs) (told_peers old new b was now peers asked)

-- parts with another book and other counts
module _ {D H : Type 0} (old : Parts D H) (book : BookState) (counts : Counts) where
  -- what the peers there are asked for is as it was
  pub state_kept : ((i : ℕ) (p : Peer) → slice_get old.peers.items i ≡ Some p → asked_of book p.key ≡ asked_of old.book p.key)
      → state_of (record old { book = book; counts = counts }) ≡ state_of old
  state_kept same =
      ap {A = List PeerState} (λ peers. record (state_of old) { peers = peers }) (map_agree (peer_of old.book) (peer_of book) old.peers.items
      (λ i p at. ap {A = List BlockId} {B = PeerState} (λ asked. record (peer_of old.book p) { asked = asked }) (same i p at)))

  module _ (b : BlockId) (was now : BlockState) (asked : (key : PeerKey) → asked_of book key ≡ asked_after b was now (asked_of old.book key)) where
    -- no peer is asked for the block, or it is missing, or was not
    pub state_followed : (was ≡ Missing → now ≢ Missing → ¬ IsAsked (state_of old) b) → state_of (record old { book = book; counts = counts }) ≡ state_of old
    state_followed none =
        state_kept (λ i p at. asked p.key ∙ asked_same b was now (asked_of old.book p.key)
        (λ missing known among. none missing known (peer_of old.book p, contains_some (state_of old).peers i (get_mapped (peer_of old.book) old.peers.items i at), among)))

    -- whoever is asked for the block, the peers are told of so
    pub state_told : state_of (record old { book = book; counts = counts }) ≡ record (state_of old) { peers = map (asked_then b was now) (state_of old).peers }
    state_told = ap {A = List PeerState} (λ peers. record (state_of old) { peers = peers }) (told_peers old.book book b was now old.peers.items asked)
