-- Blocks that are not read, before a share and after it.
use Rattle.std.proofs.Common.{◌≡◌, ℕ, ◌+◌, ◌-◌, ◌*◌, ◌/◌, ◌^◌, ◌<◌, ◌≤◌, ◌&&◌, false, Option, None, Some, List, [], ◌++◌, length, drop, get_or, inl, inr, arith, refl, sym, ap, ◌∙◌, subst, append-nil, append_assoc, length-append, if◌then◌else◌}
use Rattle.std.specs.Prelude.{nat_eq}
use Rattle.std.specs.Cmp.Lexicographic.{pointwise}
use Rattle.std.specs.List.{list_all}
use Rattle.std.specs.Option.{option_or}
use Rattle.std.proofs.Math.Nat.{div-lt_iff_lt-mul, mul-le-mul_right}
use Rattle.std.proofs.lemmas.Bool.{cases_lt}
use Rattle.std.proofs.lemmas.Nat.{pow_pos}
use Rattle.std.proofs.lemmas.List.{length-take, length-drop, get_or-take, get_or-drop, get_or_append_left, get_or-append_right}
use Rattle.std.proofs.lemmas.List.Folds.{list_all_at}
use Rattle.std.proofs.lemmas.List.FromFn.{length-map-range_with_len, get_or-map-range_with_len}
use Rattle.sha2.specs.Sha256.{sha256}
use Rattle.bt_tree.specs.Blocks.{block_count}
use Rattle.bt_tree.specs.Layers.{fold_of}
use Rattle.bt_sparse.specs.SparseTree.{Facts}
use Rattle.bt_store.specs.BlockReads.{BlockRead, failed}
use Rattle.bt_store.specs.Adoption.{is_whole, claimed_digest}
use Rattle.bt_check.specs.CheckSteps.{HoldsLeaves, leaves_after}
use Rattle.bt_check.specs.EntryCheck.{is_node_read, leaf_read, leaves_read, reads_below}
use Rattle.bt_check.specs.Finding.{KnownLayer, digest_of, is_right_block, piece_of}
use Rattle.bt_check.proofs.RightBlocks.{node_kept}
use Rattle.bt_check.proofs.LeafKnowledge.{same_leaves}
use Rattle.bt_check.proofs.AdoptedGroups.{IsLearned, cases_option, leaves_so_far, piece_begins, piece_ends, read_wrong, right_kept, so_far_known, so_far_past, so_far_read}
use Rattle.bt_jobs.specs.Share.{IsPieceEdge, share_reads, unread}

-- the reads of the blocks before a block, of which those from `from` on were made
abbrev pub reads_behind : ℕ → List BlockRead → List BlockRead
reads_behind from reads = unread 0 from ++ reads

length_unread : (from count : ℕ) → length (unread from count) ≡ count
length_unread from count = length-map-range_with_len (λ block. failed block) from count

pub length_behind : (from : ℕ) (reads : List BlockRead) → length (reads_behind from reads) ≡ from + length reads
length_behind from reads = omega (arith, length-append (unread 0 from) reads, length_unread 0 from)

pub behind_more : (from : ℕ) (reads others : List BlockRead) → reads_behind from reads ++ others ≡ reads_behind from (reads ++ others)
behind_more from reads others = append_assoc (unread 0 from) reads others

pub share_is : (blocks from to : ℕ) (reads : List BlockRead) → share_reads blocks from to reads ≡ reads_behind from reads ++ unread to (blocks - to)
share_is blocks from to reads = sym (append_assoc (unread 0 from) reads (unread to (blocks - to)))

-- a piece with a block that was not read is not right
pub not_read : (n : ℕ) (known : KnownLayer) (reads : List BlockRead) (i j : ℕ) → i < length reads → get_or reads i (failed i) ≡ failed j
    → is_node_read reads n known.layer (piece_of known i) (digest_of known (piece_of known i)) ≡ false
not_read n known reads i j lt is =
    let p : ℕ = piece_of known i in
    let begins = piece_begins known i p refl in
    let ends = piece_ends known i p refl in
    let size : ℕ = 2 ^ known.layer in
    let k : ℕ = i - p * size in
    let more : (p + 1) * size ≡ p * size + size = grind arith in
    let inside : k < size = omega (arith, begins, ends, more) in
    let left : length (drop (p * size) reads) ≡ length reads - p * size = length-drop (p * size) reads in
    let at : p * size + k ≡ i = omega (arith, begins) in
    let here : get_or (reads_below reads known.layer p) k (failed i) ≡ failed j =
    get_or-take size (drop (p * size) reads) k (failed i) inside ∙ get_or-drop (p * size) reads k (failed i) ∙ ap (λ m. get_or reads m (failed i)) at ∙ is in
    let long : k < length (reads_below reads known.layer p) =
    omega (arith, length-take size (drop (p * size) reads), left, inside, lt, at) in
    let none : list_all (is_whole n) (reads_below reads known.layer p) ≡ false =
    list_all_at (is_whole n) (reads_below reads known.layer p) k (failed i) long (ap (is_whole n) here) in
    ap (λ b. b && pointwise nat_eq (digest_of known p) (fold_of sha256 known.layer (leaves_read n known.layer (reads_below reads known.layer p)))) none

-- what is not read teaches nothing
pub begun_learned : (n : ℕ) (known : KnownLayer) (leaves : ℕ → Option (List ℕ)) (from : ℕ) (k : Facts) → HoldsLeaves n known leaves k
    → IsPieceEdge known n from → from ≤ block_count n → IsLearned n known leaves (reads_behind from []) from k
begun_learned n known leaves from k holds edge inside = record {
  tree = same_leaves n known leaves (leaves_so_far leaves (reads_behind from []) n known from) k (λ i lt. elim (cases_lt i from) [
    | inr le ↦ sym (so_far_past leaves (reads_behind from []) n known from i le)
    | inl before ↦ elim (cases_option (leaves i)) [
      | inr told ↦ told.1 ∙ sym (so_far_known leaves (reads_behind from []) n known from i told.0 told.1)
      | inl unknown ↦
          unknown
          ∙ sym (so_far_read leaves (reads_behind from []) n known from i unknown before
          ∙ read_wrong leaves (reads_behind from []) n known from i (not_read n known (reads_behind from []) i i (long i before) (at i before)))
    ]
  ]) holds;
  whole = λ i before unknown. elim edge [
    | inl begins ↦
        let below : i / 2 ^ known.layer < from / 2 ^ known.layer =
        (div-lt_iff_lt-mul {k = 2 ^ known.layer} {x = i} {y = from / 2 ^ known.layer} (pow_pos known.layer)).1 (omega (arith, begins, before)) in
        let times : (i / 2 ^ known.layer + 1) * 2 ^ known.layer ≤ from / 2 ^ known.layer * 2 ^ known.layer =
        mul-le-mul_right (2 ^ known.layer) (omega (arith, below)) in
        omega (arith, times, begins)
    | inr ends ↦ omega (arith, ends)
  ];
}
  where
    long : (i : ℕ) → i < from → i < length (reads_behind from [])
    long i before = omega (arith, before, length_behind from [])

    at : (i : ℕ) → i < from → get_or (reads_behind from []) i (failed i) ≡ failed i
    at i before =
        let same : 0 + i ≡ i = omega arith in
        get_or_append_left (unread 0 from) [] (failed i) i (omega (arith, before, length_unread 0 from))
        ∙ get_or-map-range_with_len (λ block. failed block) 0 from i i (failed i) before same

-- ---- after a share

module _ (n : ℕ) (known : KnownLayer) (leaves : ℕ → Option (List ℕ)) (from to : ℕ) (k : Facts) (reads : List BlockRead)
    (learned : IsLearned n known leaves (reads_behind from reads) to k) (begins : length (reads_behind from reads) ≡ to) (inside : to ≤ block_count n) where
  abbrev before : List BlockRead
  before = reads_behind from reads

  abbrev rest : List BlockRead
  rest = unread to (block_count n - to)

  -- at the file's end nothing is left
  no_rest : to ≡ block_count n → before ++ rest ≡ before
  no_rest end =
      let none_left : block_count n - to ≡ 0 = omega (arith, end) in
      ap (λ m. before ++ unread to m) none_left ∙ append-nil before

  pub right_in_share : (i : ℕ) → i < to → is_right_block (is_node_read (share_reads (block_count n) from to reads) n) known leaves i
      ≡ is_right_block (is_node_read (reads_behind from reads) n) known leaves i
  right_in_share i lt =
      ap (λ l. is_right_block (is_node_read l n) known leaves i) (share_is (block_count n) from to reads) ∙ elim (cases_lt to (block_count n)) [
        | inl real ↦ right_kept n known leaves k to before learned real begins rest (to + 1) (omega arith) i lt
        | inr le ↦ ap (λ l. is_right_block (is_node_read l n) known leaves i) (no_rest (omega (arith, le, inside)))
      ]

  -- the piece of a block of the share whose leaf is not known
  piece_in_share : (i : ℕ) → i < to → leaves i ≡ None → (digest : List ℕ)
      → is_node_read (before ++ rest) n known.layer (piece_of known i) digest ≡ is_node_read before n known.layer (piece_of known i) digest
  piece_in_share i lt unknown digest = elim (cases_lt to (block_count n)) [
    | inl real ↦ node_kept before rest n known.layer (piece_of known i) digest (omega (arith, learned.whole i lt unknown, real, begins))
    | inr le ↦ ap (λ l. is_node_read l n known.layer (piece_of known i) digest) (no_rest (omega (arith, le, inside)))
  ]

  leaf_in_share : (i : ℕ) → i < to → leaves i ≡ None → leaf_read (before ++ rest) n known i ≡ leaf_read before n known i
  leaf_in_share i lt unknown =
      let read : get_or (before ++ rest) i (failed i) ≡ get_or before i (failed i) = get_or_append_left before rest (failed i) i (omega (arith, lt, begins)) in
      ap (λ b. if b then Some (claimed_digest sha256 n (get_or (before ++ rest) i (failed i))) else None)
      (piece_in_share i lt unknown (digest_of known (piece_of known i)))
      ∙ ap (λ r. if is_node_read before n known.layer (piece_of known i) (digest_of known (piece_of known i)) then Some (claimed_digest sha256 n r) else None) read

  leaf_behind : (i : ℕ) → to ≤ i → i < block_count n → leaf_read (before ++ rest) n known i ≡ None
  leaf_behind i le lt =
      let whole : length (before ++ rest) ≡ block_count n = omega (arith, length-append before rest, begins, length_unread to (block_count n - to), inside) in
      let at : to + (i - to) ≡ i = omega (arith, le) in
      let is : get_or (before ++ rest) i (failed i) ≡ failed i =
      get_or-append_right before rest to i (failed i) begins le
      ∙ get_or-map-range_with_len (λ block. failed block) to (block_count n - to) (i - to) i (failed i) (omega (arith, le, lt)) at in
      read_wrong leaves (before ++ rest) n known to i (not_read n known (before ++ rest) i i (omega (arith, lt, whole)) is)

  pub learned_after : HoldsLeaves n known (leaves_after leaves (share_reads (block_count n) from to reads) n known) k
  learned_after =
      subst (λ l. HoldsLeaves n known (leaves_after leaves l n known) k) (sym (share_is (block_count n) from to reads))
      (same_leaves n known (leaves_so_far leaves before n known to) (leaves_after leaves (before ++ rest) n known) k (λ i lt.
      elim (cases_option (leaves i)) [
        | inr told ↦
            so_far_known leaves before n known to i told.0 told.1 ∙ sym (ap (λ o. option_or o (leaf_read (before ++ rest) n known i)) told.1)
        | inl unknown ↦ elim (cases_lt i to) [
          | inl own ↦
              so_far_read leaves before n known to i unknown own ∙ sym (leaf_in_share i own unknown)
              ∙ sym (ap (λ o. option_or o (leaf_read (before ++ rest) n known i)) unknown)
          | inr le ↦
              so_far_past leaves before n known to i le ∙ unknown ∙ sym (leaf_behind i le lt)
              ∙ sym (ap (λ o. option_or o (leaf_read (before ++ rest) n known i)) unknown)
        ]
      ]) learned.tree)
