-- What each group that is adopted adds to a check of a file's blocks, where some leaves are known before.
use Rattle.std.proofs.Common.{◌≡◌, ◌≢◌, ℕ, ◌+◌, ◌-◌, ◌*◌, ◌/◌, ◌^◌, ◌<◌, ◌≤◌, ◌⊎◌, ◌&&◌, ◌==◌, Bool, true, false, true≢false, is_some, Option, None, Some, IsSome, List, [], ◌∷◌, ◌++◌, map, length, take, drop, replicate, get_or, inl, inr, arith, refl, sym, ap, ◌∙◌, subst, min, length-append, if◌then◌else◌}
use Rattle.std.specs.Prelude.{nat_eq, nat_lt}
use Rattle.std.specs.Cmp.Lexicographic.{pointwise}
use Rattle.std.specs.List.{count_by, list_all, range_with_len}
use Rattle.std.specs.Option.{option_or}
use Rattle.std.proofs.Math.Nat.{mul-div_cancel, div-lt_iff_lt-mul, le-div_iff_mul-le}
use Rattle.std.proofs.lemmas.Bool.{cases_lt, lt-ltb, le-ltb, false_from_ne_true}
use Rattle.std.proofs.lemmas.Nat.{pow_pos, div-mul-add}
use Rattle.std.proofs.lemmas.List.{length-map, length-replicate, get_or-append_right, get_or_append_left, get_or-map, get_or-replicate, get_or_default, drop_more}
use Rattle.std.proofs.lemmas.List.FromFn.{length-range_with_len, get_or-range_with_len}
use Rattle.std.proofs.lemmas.Slice.Eq.{bytes_eq-Decides}
use Rattle.sha2.specs.Sha256.{sha256}
use Rattle.bt_tree.specs.Blocks.{block_count, block_length}
use Rattle.bt_tree.specs.Layers.{fold_of}
use Rattle.bt_tree.specs.Tree.{padding_digest}
use Rattle.bt_tree.specs.TreeShape.{real_width}
use Rattle.bt_sparse.specs.SparseTree.{Facts, blocks_of, held_at, value_at}
use Rattle.bt_sparse.specs.Acceptance.{Accepts, IsRefused}
use Rattle.bt_sparse.specs.declared.claim.ProofError.{ProofError}
use Rattle.bt_sparse.specs.declared.claim.ProofError.TheVariants.{OutOfMemory}
use Rattle.bt_sparse.proofs.Values.{value_covers, none_some}
use Rattle.bt_store.specs.BlockReads.{BlockRead, given, failed, block_of, fault_count, right_count, is_right_read, is_leaf}
use Rattle.bt_store.specs.Adoption.{Adopts, IsUnknownGroup, IsKnownGroup, AreWhole, is_whole, claimed_digest, claim_of_reads, leaf_claim, none, known as blockwise, accepted, refused, short, unread}
use Rattle.bt_store.specs.declared.adoption.Adopted.{Adopted}
use Rattle.bt_store.specs.declared.block_states.BlockState.{BlockState}
use Rattle.bt_check.specs.CheckSteps.{IsBare, HoldsLeaves}
use Rattle.bt_check.specs.EntryCheck.{leaves_read, reads_below, is_node_read, leaf_read}
use Rattle.bt_check.specs.Finding.{KnownLayer, is_right_block, by_leaf, piece_of, digest_of}
use Rattle.bt_check.proofs.PiecesNode.{covers, real_index}
use Rattle.bt_check.proofs.RightBlocks.{cases_bool, count_along, count_const, below_last, node_kept, all_whole, not_all_whole, whole_or_fault}
use Rattle.bt_check.proofs.PieceGroup.{IsReady, IsPieceGroup, ArePieceLeaves, group_is_piece, accepted_digest, refused_digest, others_bare, leaf_added}

-- ---- the leaves that are known in the midst of a check

-- once the blocks before `from` were read
abbrev pub leaves_so_far : (ℕ → Option (List ℕ)) → List BlockRead → ℕ → KnownLayer → ℕ → ℕ → Option (List ℕ)
leaves_so_far leaves reads n known from i = option_or (leaves i) (if nat_lt i from then leaf_read reads n known i else None)

-- The tree holds them; and of the blocks whose leaves were not known before, whole pieces were read.
pub record IsLearned (n : ℕ) (known : KnownLayer) (leaves : ℕ → Option (List ℕ)) (reads : List BlockRead) (from : ℕ) (k : Facts) : Type 0 where
  pub tree : HoldsLeaves n known (leaves_so_far leaves reads n known from) k
  pub whole : (i : ℕ) → i < from → leaves i ≡ None → min ((piece_of known i + 1) * 2 ^ known.layer) (block_count n) ≤ from

-- The group of block `from` was adopted.
pub record IsGroupDone (n : ℕ) (known : KnownLayer) (leaves : ℕ → Option (List ℕ)) (from : ℕ) (before reads : List BlockRead) (adopted : Adopted) (grown : Facts)
    : Type 0 where
  pub later : from < adopted.next
  pub inside : adopted.next ≤ block_count n
  pub in_order : map block_of reads ≡ range_with_len from (adopted.next - from)
  pub marks : adopted.marked ≡ count_by (is_right_block (is_node_read (before ++ reads) n) known leaves) (range_with_len from (adopted.next - from))
  pub faults : adopted.faults ≡ fault_count reads
  pub learned : IsLearned n known leaves (before ++ reads) adopted.next grown

pub cases_option : {X : Type 0} (o : Option X) → (o ≡ None) ⊎ ((x : X) × (o ≡ Some x))
cases_option None = inl refl
cases_option (Some x) = inr (x, refl)

or_none : {X : Type 0} (o : Option X) → option_or o None ≡ o
or_none None = refl
or_none (Some x) = refl

first_none : {X : Type 0} (o p : Option X) → option_or o p ≡ None → o ≡ None
first_none None p e = refl
first_none (Some x) p e = absurd (none_some x (sym e))

pub both_true : (a b : Bool) → (a && b) ≡ true → b ≡ true
both_true true b e = e
both_true false b e = absurd (true≢false (sym e))

module _ (leaves : ℕ → Option (List ℕ)) (reads : List BlockRead) (n : ℕ) (known : KnownLayer) (from i : ℕ) where
  pub so_far_past : from ≤ i → leaves_so_far leaves reads n known from i ≡ leaves i
  so_far_past le = ap (λ b. option_or (leaves i) (if b then leaf_read reads n known i else None)) (le-ltb i from le) ∙ or_none (leaves i)

  pub so_far_read : leaves i ≡ None → i < from → leaves_so_far leaves reads n known from i ≡ leaf_read reads n known i
  so_far_read e lt =
      ap (λ o. option_or o (if nat_lt i from then leaf_read reads n known i else None)) e ∙ ap (λ b. if b then leaf_read reads n known i else None) (lt-ltb i from lt)

  pub so_far_known : (d : List ℕ) → leaves i ≡ Some d → leaves_so_far leaves reads n known from i ≡ Some d
  so_far_known d e = ap (λ o. option_or o (if nat_lt i from then leaf_read reads n known i else None)) e

  pub read_right : is_node_read reads n known.layer (piece_of known i) (digest_of known (piece_of known i)) ≡ true
      → leaf_read reads n known i ≡ Some (claimed_digest sha256 n (get_or reads i (failed i)))
  read_right e = ap (λ b. if b then Some (claimed_digest sha256 n (get_or reads i (failed i))) else None) e

  pub read_wrong : is_node_read reads n known.layer (piece_of known i) (digest_of known (piece_of known i)) ≡ false → leaf_read reads n known i ≡ None
  read_wrong e = ap (λ b. if b then Some (claimed_digest sha256 n (get_or reads i (failed i))) else None) e

-- the piece of a block
pub piece_begins : (known : KnownLayer) (i p : ℕ) → piece_of known i ≡ p → p * 2 ^ known.layer ≤ i
piece_begins known i p e = (le-div_iff_mul-le {k = 2 ^ known.layer} {x = p} {y = i} (pow_pos known.layer)).0 (omega (arith, e))

pub piece_ends : (known : KnownLayer) (i p : ℕ) → piece_of known i ≡ p → i < (p + 1) * 2 ^ known.layer
piece_ends known i p e = (div-lt_iff_lt-mul {k = 2 ^ known.layer} {x = i} {y = p + 1} (pow_pos known.layer)).0 (omega (arith, e))

-- ---- one read

-- a block is right where its read is
both_tests : (b : Bool) (leaf digest other : List ℕ) → ((b && true) && pointwise nat_eq leaf (if b then digest else other)) ≡ (b && pointwise nat_eq leaf digest)
both_tests true leaf digest other = refl
both_tests false leaf digest other = refl

one_read : (n : ℕ) (leaf : List ℕ) (k : Facts) (read : BlockRead) → k.file_length ≡ n → value_at sha256 k 0 (block_of read) ≡ Some leaf
    → (list_all (is_whole n) (read ∷ []) && pointwise nat_eq leaf (fold_of sha256 0 (leaves_read n 0 (read ∷ [])))) ≡ is_right_read sha256 k read
unfolding fold_of
one_read n leaf k (given i bytes) same leaf_is =
    both_tests (length bytes == block_length n i) leaf (sha256 bytes) (padding_digest sha256 0)
    ∙ sym (ap (λ m. (length bytes == block_length m i) && is_leaf (value_at sha256 k 0 i) (sha256 bytes)) same
    ∙ ap (λ o. (length bytes == block_length n i) && is_leaf o (sha256 bytes)) leaf_is)
one_read n leaf k (failed i) same leaf_is = refl

one_leaf : (n : ℕ) (read : BlockRead) → fold_of sha256 0 (leaves_read n 0 (read ∷ [])) ≡ claimed_digest sha256 n read
unfolding fold_of
one_leaf n read = refl

one_below : (reads : List BlockRead) (i : ℕ) (d : BlockRead) → i < length reads → reads_below reads 0 i ≡ get_or reads i d ∷ []
one_below reads i d lt = let here : i * 1 ≡ i = omega arith in ap (λ m. take 1 (drop m reads)) here ∙ ap (take 1) (drop_more reads i d lt)

-- ---- each group

module _ (n : ℕ) (known : KnownLayer) (leaves : ℕ → Option (List ℕ)) (k : Facts) (from : ℕ) (before : List BlockRead)
    (is : IsLearned n known leaves before from k) (real : from < block_count n) (begins : length before ≡ from) where
  value_is_held : (i : ℕ) → i < block_count n → value_at sha256 k 0 i ≡ held_at k 0 i
  value_is_held i lt =
      let here : i < real_width (blocks_of k) 0 =
      subst (λ m. i < real_width (block_count m) 0) (sym is.tree.length_is) (real_index (block_count n) 0 i (omega (arith, lt))) in
      value_covers sha256 k 0 i (covers (blocks_of k) 0 i (omega arith) here)

  -- in a tree that knows no leaf of a piece, none is held
  none_held : (i : ℕ) → 0 < known.layer → IsBare known (piece_of known i) k → held_at k 0 i ≡ None
  none_held i above bare =
      bare 0 i above (omega (arith, piece_begins known i (piece_of known i) refl)) (omega (arith, piece_ends known i (piece_of known i) refl))

  -- the pieces of blocks before stay as they were read
  module _ (reads : List BlockRead) (next : ℕ) (later : from < next) where
    piece_kept : (i : ℕ) → i < from → leaves i ≡ None → (digest : List ℕ)
        → is_node_read (before ++ reads) n known.layer (piece_of known i) digest ≡ is_node_read before n known.layer (piece_of known i) digest
    piece_kept i lt unknown digest = node_kept before reads n known.layer (piece_of known i) digest (omega (arith, is.whole i lt unknown, real, begins))

    so_far_kept : (i : ℕ) → i < from → leaves_so_far leaves (before ++ reads) n known next i ≡ leaves_so_far leaves before n known from i
    so_far_kept i lt = elim (cases_option (leaves i)) [
      | inr e ↦ so_far_known leaves (before ++ reads) n known next i e.0 e.1 ∙ sym (so_far_known leaves before n known from i e.0 e.1)
      | inl e ↦
          let piece : ℕ = piece_of known i in
          let read : get_or (before ++ reads) i (failed i) ≡ get_or before i (failed i) = get_or_append_left before reads (failed i) i (omega (arith, lt, begins)) in
          so_far_read leaves (before ++ reads) n known next i e (omega (arith, lt, later))
          ∙ ap (λ b. if b then Some (claimed_digest sha256 n (get_or (before ++ reads) i (failed i))) else None) (piece_kept i lt e (digest_of known piece))
          ∙ ap (λ r. if is_node_read before n known.layer piece (digest_of known piece) then Some (claimed_digest sha256 n r) else None) read
          ∙ sym (so_far_read leaves before n known from i e lt)
    ]

    -- and are right where they were
    pub right_kept : (i : ℕ) → i < from
        → is_right_block (is_node_read (before ++ reads) n) known leaves i ≡ is_right_block (is_node_read before n) known leaves i
    right_kept i lt = elim (cases_option (leaves i)) [
      | inl e ↦
          let piece : ℕ = piece_of known i in
          ap (λ o. by_leaf o (is_node_read (before ++ reads) n 0 i) (is_node_read (before ++ reads) n known.layer piece (digest_of known piece))) e
          ∙ piece_kept i lt e (digest_of known piece)
          ∙ sym (ap (λ o. by_leaf o (is_node_read before n 0 i) (is_node_read before n known.layer piece (digest_of known piece))) e)
      | inr e ↦
          let piece : ℕ = piece_of known i in
          ap (λ o. by_leaf o (is_node_read (before ++ reads) n 0 i) (is_node_read (before ++ reads) n known.layer piece (digest_of known piece))) e.1
          ∙ node_kept before reads n 0 i e.0 (omega (arith, lt, begins))
          ∙ sym (ap (λ o. by_leaf o (is_node_read before n 0 i) (is_node_read before n known.layer piece (digest_of known piece))) e.1)
    ]

    -- what is known of a leaf that is not of this group
    outside : (i : ℕ) → ((i < from) ⊎ (next ≤ i)) → leaves_so_far leaves (before ++ reads) n known next i ≡ leaves_so_far leaves before n known from i
    outside i (inl lt) = so_far_kept i lt
    outside i (inr le) =
        so_far_past leaves (before ++ reads) n known next i le ∙ sym (so_far_past leaves before n known from i (omega (arith, le, later)))

  unknown_before : (i : ℕ) → leaves_so_far leaves before n known from i ≡ None → leaves i ≡ None
  unknown_before i e = first_none (leaves i) (if nat_lt i from then leaf_read before n known i else None) e

  three : (next i : ℕ) → ((i < from) ⊎ (next ≤ i)) ⊎ ((from ≤ i) × (i < next))
  three next i = elim (cases_lt i from) [
    | inl lt ↦ inl (inl lt)
    | inr le ↦ elim (cases_lt i next) [ inl lt ↦ inr (le, lt) | inr ge ↦ inl (inr ge) ]
  ]

  -- ---- blocks whose leaves are known

  module _ (count : ℕ) (reads : List BlockRead) (group : IsKnownGroup sha256 k from count) (each : map block_of reads ≡ range_with_len from count) where
    size : length reads ≡ count
    size = sym (length-map reads block_of) ∙ ap length each ∙ length-range_with_len from count

    ends : from + count ≤ block_count n
    ends = subst (λ m. from + count ≤ block_count m) is.tree.length_is group.inside

    -- a leaf that no earlier file told is one of the torrent's layer
    flat : (i : ℕ) → from ≤ i → i < from + count → leaves i ≡ None → known.layer ≡ 0
    flat i low high unknown = elim (cases_lt 0 known.layer) [
      | inr le ↦ omega (arith, le)
      | inl lt ↦
          let at : from + (i - from) ≡ i = omega (arith, low) in
          let some : IsSome (value_at sha256 k 0 i) = subst (λ j. IsSome (value_at sha256 k 0 j)) at (group.known (i - from) (omega (arith, low, high))) in
          let bare = is.tree.bare i (omega (arith, high, ends)) (so_far_past leaves before n known from i low ∙ unknown) in
          absurd (true≢false (sym some ∙ ap (λ o. is_some o) (value_is_held i (omega (arith, high, ends)) ∙ none_held i lt bare)))
    ]

    layer_leaf : known.layer ≡ 0 → (i : ℕ) → i < block_count n → held_at k 0 i ≡ Some (digest_of known i)
    layer_leaf flat_is i lt =
        let wide : i < length known.digests =
        omega (arith, real_index (block_count n) 0 i (omega (arith, lt)), ap (λ l. real_width (block_count n) l) flat_is, is.tree.width) in
        ap (λ l. held_at k l i) (sym flat_is) ∙ is.tree.holds i wide

    read_at : (i : ℕ) → from ≤ i → i < from + count → get_or (before ++ reads) i (failed i) ≡ get_or reads (i - from) (failed 0)
    read_at i low high =
        get_or-append_right before reads from i (failed i) begins low ∙ get_or_default reads (i - from) (failed i) (failed 0) (omega (arith, low, high, size))

    one_at : (i : ℕ) → from ≤ i → i < from + count → reads_below (before ++ reads) 0 i ≡ get_or reads (i - from) (failed 0) ∷ []
    one_at i low high =
        one_below (before ++ reads) i (failed i) (omega (arith, length-append before reads, begins, size, high)) ∙ ap (λ r. r ∷ []) (read_at i low high)

    block_at : (i : ℕ) → from ≤ i → i < from + count → block_of (get_or reads (i - from) (failed 0)) ≡ i
    block_at i low high =
        let j : ℕ = i - from in
        sym (get_or-map block_of reads j (failed 0) 0 (omega (arith, low, high, size))) ∙ ap (λ l. get_or l j 0) each
        ∙ get_or-range_with_len from count j 0 (omega (arith, low, high)) ∙ omega (arith, low)

    by_known : (i : ℕ) (d : List ℕ) → from ≤ i → i < from + count → held_at k 0 i ≡ Some d
        → is_node_read (before ++ reads) n 0 i d ≡ is_right_read sha256 k (get_or reads (i - from) (failed 0))
    by_known i d low high held =
        let read : BlockRead = get_or reads (i - from) (failed 0) in
        ap (λ l. list_all (is_whole n) l && pointwise nat_eq d (fold_of sha256 0 (leaves_read n 0 l))) (one_at i low high)
        ∙ one_read n d k read is.tree.length_is (ap (value_at sha256 k 0) (block_at i low high) ∙ value_is_held i (omega (arith, high, ends)) ∙ held)

    flat_node : known.layer ≡ 0 → (i : ℕ) → is_node_read (before ++ reads) n known.layer (piece_of known i) (digest_of known (piece_of known i))
        ≡ is_node_read (before ++ reads) n 0 i (digest_of known i)
    flat_node flat_is i =
        let at : piece_of known i ≡ i = ap (λ l. i / 2 ^ l) flat_is ∙ omega arith in
        ap (λ l. is_node_read (before ++ reads) n l (piece_of known i) (digest_of known (piece_of known i))) flat_is
        ∙ ap (λ p. is_node_read (before ++ reads) n 0 p (digest_of known p)) at

    block_tells : (i : ℕ) → from ≤ i → i < from + count
        → is_right_read sha256 k (get_or reads (i - from) (failed 0)) ≡ is_right_block (is_node_read (before ++ reads) n) known leaves i
    block_tells i low high =
        let piece : ℕ = piece_of known i in
        let here : i < block_count n = omega (arith, high, ends) in
        elim (cases_option (leaves i)) [
          | inl e ↦
              let flat_is = flat i low high e in
              sym (ap (λ o. by_leaf o (is_node_read (before ++ reads) n 0 i) (is_node_read (before ++ reads) n known.layer piece (digest_of known piece))) e
              ∙ flat_node flat_is i ∙ by_known i (digest_of known i) low high (layer_leaf flat_is i here))
          | inr e ↦
              sym (ap (λ o. by_leaf o (is_node_read (before ++ reads) n 0 i) (is_node_read (before ++ reads) n known.layer piece (digest_of known piece))) e.1
              ∙ by_known i e.0 low high (is.tree.leaf i e.0 here (so_far_known leaves before n known from i e.0 e.1)))
        ]

    read_leaf : (i : ℕ) (d : List ℕ) → from ≤ i → i < from + count → leaves i ≡ None → leaf_read (before ++ reads) n known i ≡ Some d → held_at k 0 i ≡ Some d
    read_leaf i d low high unknown e =
        let flat_is = flat i low high unknown in
        let here : i < block_count n = omega (arith, high, ends) in
        elim (cases_bool (is_node_read (before ++ reads) n known.layer (piece_of known i) (digest_of known (piece_of known i)))) [
          | inr wrong ↦ absurd (none_some d (sym (read_wrong leaves (before ++ reads) n known from i wrong) ∙ e))
          | inl right ↦
              let one : is_node_read (before ++ reads) n 0 i (digest_of known i) ≡ true = sym (flat_node flat_is i) ∙ right in
              let read : BlockRead = get_or reads (i - from) (failed 0) in
              let tested : (list_all (is_whole n) (read ∷ []) && pointwise nat_eq (digest_of known i) (fold_of sha256 0 (leaves_read n 0 (read ∷ [])))) ≡ true =
              sym (ap (λ l. list_all (is_whole n) l && pointwise nat_eq (digest_of known i) (fold_of sha256 0 (leaves_read n 0 l))) (one_at i low high)) ∙ one in
              let same : digest_of known i ≡ claimed_digest sha256 n read =
              (bytes_eq-Decides _ _).0 (both_true (list_all (is_whole n) (read ∷ [])) _ tested) ∙ one_leaf n read in
              layer_leaf flat_is i here ∙ ap (λ x. Some x) (same ∙ ap (claimed_digest sha256 n) (sym (read_at i low high)))
              ∙ sym (read_right leaves (before ++ reads) n known from i right) ∙ e
        ]

    known_learned : IsLearned n known leaves (before ++ reads) (from + count) k
    known_learned =
        let later : from < from + count = omega (arith, group.some) in
        record {
          tree = record {
            length_is = is.tree.length_is;
            inside = is.tree.inside;
            width = is.tree.width;
            holds = is.tree.holds;
            leaf = λ i d lt e. elim (three (from + count) i) [
              | inl other ↦ is.tree.leaf i d lt (sym (outside reads (from + count) later i other) ∙ e)
              | inr here ↦ elim (cases_option (leaves i)) [
                | inl unknown ↦ read_leaf i d here.0 here.1 unknown (sym (so_far_read leaves (before ++ reads) n known (from + count) i unknown here.1) ∙ e)
                | inr told ↦
                    is.tree.leaf i d lt
                    (so_far_known leaves before n known from i told.0 told.1 ∙ sym (so_far_known leaves (before ++ reads) n known (from + count) i told.0 told.1) ∙ e)
              ]
            ];
            bare = λ i lt e. elim (three (from + count) i) [
              | inl other ↦ is.tree.bare i lt (sym (outside reads (from + count) later i other) ∙ e)
              | inr here ↦
                  let unknown : leaves i ≡ None =
                  first_none (leaves i) (if nat_lt i (from + count) then leaf_read (before ++ reads) n known i else None) e in
                  is.tree.bare i lt (so_far_past leaves before n known from i here.0 ∙ unknown)
            ];
          };
          whole = λ i lt unknown. elim (cases_lt i from) [
            | inl before_it ↦ omega (arith, is.whole i before_it unknown)
            | inr le ↦
                let flat_is = flat i le lt unknown in
                let at : piece_of known i ≡ i = ap (λ l. i / 2 ^ l) flat_is ∙ omega arith in
                let one : 2 ^ known.layer ≡ 1 = ap (λ l. 2 ^ l) flat_is in
                let ends_at : (piece_of known i + 1) * 2 ^ known.layer ≡ i + 1 = ap (λ p. (piece_of known i + 1) * p) one ∙ omega (arith, at) in
                omega (arith, ends_at, lt)
          ];
        }

    pub known_done : IsGroupDone n known leaves from before reads
        (record { next = from + count; anchor = 0; marked = right_count sha256 k reads; faults = fault_count reads }) k
    known_done =
        let next : from + count - from ≡ count = omega arith in
        record {
          later = omega (arith, group.some);
          inside = ends;
          in_order = each ∙ ap (range_with_len from) (sym next);
          marks = count_along (is_right_read sha256 k) (is_right_block (is_node_read (before ++ reads) n) known leaves) (failed 0) from reads
              (λ j lt.
              let at : from + j - from ≡ j = omega arith in
              ap (λ m. is_right_read sha256 k (get_or reads m (failed 0))) (sym at) ∙ block_tells (from + j) (omega arith) (omega (arith, lt, size)))
              ∙ ap (λ m. count_by (is_right_block (is_node_read (before ++ reads) n) known leaves) (range_with_len from m)) (size ∙ sym next);
          faults = refl;
          learned = known_learned;
        }

  -- ---- a piece whose leaves are unknown

  module _ (anchor first count : ℕ) (reads : List BlockRead) (group : IsUnknownGroup k from anchor first count)
      (each_first : map block_of reads ≡ range_with_len first count) where
    from_unknown : leaves from ≡ None
    from_unknown = elim (cases_option (leaves from)) [
      | inl e ↦ e
      | inr e ↦
          let at : from / 2 ^ 0 ≡ from = omega arith in
          let held = is.tree.leaf from e.0 real (so_far_known leaves before n known from from e.0 e.1) in
          absurd (none_some e.0 (sym (group.nearest.nearest 0 group.above) ∙ ap (held_at k 0) at ∙ held))
    ]

    bare_here : IsBare known (piece_of known from) k
    bare_here = is.tree.bare from real (so_far_past leaves before n known from from (omega arith) ∙ from_unknown)

    among : piece_of known from < length known.digests
    among =
        let begins_here = piece_begins known from (piece_of known from) refl in
        let in_width = real_index (block_count n) known.layer (piece_of known from) (omega (arith, begins_here, real)) in
        omega (arith, in_width, is.tree.width)

    above : 0 < known.layer
    above = elim (cases_lt known.layer anchor) [
      | inl lt ↦ absurd (none_some _ (sym (group.nearest.nearest known.layer lt) ∙ is.tree.holds (piece_of known from) among))
      | inr le ↦ omega (arith, le, group.above)
    ]

    -- no leaf of the piece is known
    piece_unknown : (i : ℕ) → i < block_count n → piece_of known i ≡ piece_of known from → leaves_so_far leaves before n known from i ≡ None
    piece_unknown i lt same = elim (cases_option (leaves_so_far leaves before n known from i)) [
      | inl e ↦ e
      | inr e ↦
          absurd (none_some e.0 (sym (none_held i above (subst (λ p. IsBare known p k) (sym same) bare_here)) ∙ is.tree.leaf i e.0 lt e.1))
    ]

    place : from ≡ piece_of known from * 2 ^ known.layer
    place =
        let start : ℕ = piece_of known from * 2 ^ known.layer in
        let low = piece_begins known from (piece_of known from) refl in
        let high = piece_ends known from (piece_of known from) refl in
        elim (cases_lt start from) [
          | inr le ↦ omega (arith, le, low)
          | inl lt ↦
              let same : piece_of known start ≡ piece_of known from = mul-div_cancel (piece_of known from) (pow_pos known.layer) in
              let whole = is.whole start lt (unknown_before start (piece_unknown start (omega (arith, lt, real)) same)) in
              let next : (piece_of known start + 1) * 2 ^ known.layer ≡ (piece_of known from + 1) * 2 ^ known.layer = ap (λ p. (p + 1) * 2 ^ known.layer) same in
              absurd (omega (arith, whole, next, high, real))
        ]

    ready : IsReady n known (piece_of known from) k
    ready = record { length_is = is.tree.length_is; inside = is.tree.inside; width = is.tree.width; holds = is.tree.holds; bare = bare_here }

    is_piece : IsPieceGroup n known from anchor first count
    is_piece = group_is_piece n known k (piece_of known from) from ready place real anchor first count group

    each : map block_of reads ≡ range_with_len from count
    each = each_first ∙ ap (λ f. range_with_len f count) is_piece.first_is

    claim_is : claim_of_reads sha256 k.file_length anchor first reads ≡ leaf_claim from (leaves_read n known.layer reads)
    claim_is =
        ap (λ m. claim_of_reads sha256 m anchor first reads) is.tree.length_is ∙ ap (λ a. claim_of_reads sha256 n a first reads) is_piece.anchor_is
        ∙ ap (λ f. claim_of_reads sha256 n known.layer f reads) is_piece.first_is

    unknown_size : length reads ≡ count
    unknown_size = sym (length-map reads block_of) ∙ ap length each ∙ length-range_with_len from count

    leaves_are : ArePieceLeaves n known from (leaves_read n known.layer reads)
    leaves_are =
        let digests : List (List ℕ) = map (claimed_digest sha256 n) reads in
        let behind : List (List ℕ) = replicate (2 ^ known.layer - length reads) (padding_digest sha256 0) in
        let own : length digests ≡ length reads = length-map reads (claimed_digest sha256 n) in
        let rest = length-replicate {A = List ℕ} (2 ^ known.layer - length reads) (padding_digest sha256 0) in
        record {
          all = length-append digests behind ∙ omega (arith, own, rest, unknown_size, is_piece.count_is);
          past = λ i past low.
              let here : length digests ≤ i = omega (arith, own, unknown_size, is_piece.count_is, past, real) in
              get_or-append_right digests behind (length digests) i [] refl here
              ∙ get_or-replicate (2 ^ known.layer - length reads) (i - length digests) (padding_digest sha256 0) [] (omega (arith, own, low, unknown_size));
        }

    tells : is_node_read (before ++ reads) n known.layer (piece_of known from) (digest_of known (piece_of known from))
        ≡ (list_all (is_whole n) reads && pointwise nat_eq (digest_of known (piece_of known from)) (fold_of sha256 known.layer (leaves_read n known.layer reads)))
    tells =
        ap (λ l. list_all (is_whole n) l && pointwise nat_eq (digest_of known (piece_of known from)) (fold_of sha256 known.layer (leaves_read n known.layer l)))
        (below_last before reads known.layer (piece_of known from) (begins ∙ place) (omega (arith, unknown_size, is_piece.count_is)))

    -- the blocks of the group are those of the piece
    of_piece : (i : ℕ) → from ≤ i → i < from + count → piece_of known i ≡ piece_of known from
    of_piece i low high =
        let split : i ≡ piece_of known from * 2 ^ known.layer + (i - from) = omega (arith, place, low) in
        ap (λ m. m / 2 ^ known.layer) split ∙ div-mul-add (piece_of known from) (2 ^ known.layer) (i - from) (omega (arith, low, high, is_piece.count_is))

    not_of_piece : (i : ℕ) → i < block_count n → ((i < from) ⊎ (from + count ≤ i)) → piece_of known i ≡ piece_of known from → ⊥
    not_of_piece i lt other same =
        let low = piece_begins known i (piece_of known from) same in
        let high = piece_ends known i (piece_of known from) same in
        elim other [ inl before_it ↦ omega (arith, before_it, low, place) | inr behind ↦ omega (arith, behind, high, place, is_piece.count_is, lt) ]

    group_unknown : (i : ℕ) → from ≤ i → i < from + count → leaves i ≡ None
    group_unknown i low high =
        unknown_before i (piece_unknown i (omega (arith, high, is_piece.count_is, real)) (of_piece i low high))

    group_reads : (i : ℕ) → from ≤ i → i < from + count → (b : Bool)
        → is_node_read (before ++ reads) n known.layer (piece_of known from) (digest_of known (piece_of known from)) ≡ b
        → is_node_read (before ++ reads) n known.layer (piece_of known i) (digest_of known (piece_of known i)) ≡ b
    group_reads i low high b e =
        ap (λ p. is_node_read (before ++ reads) n known.layer p (digest_of known p)) (of_piece i low high) ∙ e

    some : 0 < count
    some = omega (arith, is_piece.count_is, real, pow_pos known.layer)

    -- what the tree has then
    tree_grown : (grown : Facts) → HoldsLeaves n known (leaves_so_far leaves (before ++ reads) n known (from + count)) grown
        → IsLearned n known leaves (before ++ reads) (from + count) grown
    tree_grown grown tree = record {
      tree = tree;
      whole = λ i lt unknown. elim (cases_lt i from) [
        | inl before_it ↦ omega (arith, is.whole i before_it unknown)
        | inr le ↦
            let same : (piece_of known i + 1) * 2 ^ known.layer ≡ (piece_of known from + 1) * 2 ^ known.layer = ap (λ p. (p + 1) * 2 ^ known.layer) (of_piece i le lt) in
            omega (arith, same, place, is_piece.count_is)
      ];
    }

    wrong_tree : is_node_read (before ++ reads) n known.layer (piece_of known from) (digest_of known (piece_of known from)) ≡ false
        → HoldsLeaves n known (leaves_so_far leaves (before ++ reads) n known (from + count)) k
    wrong_tree wrong =
        let later : from < from + count = omega (arith, some) in
        record {
          length_is = is.tree.length_is;
          inside = is.tree.inside;
          width = is.tree.width;
          holds = is.tree.holds;
          leaf = λ i d lt e. elim (three (from + count) i) [
            | inl other ↦ is.tree.leaf i d lt (sym (outside reads (from + count) later i other) ∙ e)
            | inr here ↦
                let unknown = group_unknown i here.0 here.1 in
                absurd (none_some d (sym (so_far_read leaves (before ++ reads) n known (from + count) i unknown here.1
                ∙ read_wrong leaves (before ++ reads) n known from i (group_reads i here.0 here.1 false wrong)) ∙ e))
          ];
          bare = λ i lt e. elim (three (from + count) i) [
            | inl other ↦ is.tree.bare i lt (sym (outside reads (from + count) later i other) ∙ e)
            | inr here ↦ is.tree.bare i lt (so_far_past leaves before n known from i here.0 ∙ group_unknown i here.0 here.1)
          ];
        }

    leaf_of_read : (i : ℕ) → from ≤ i → i < from + count
        → get_or (leaves_read n known.layer reads) (i - from) [] ≡ claimed_digest sha256 n (get_or (before ++ reads) i (failed i))
    leaf_of_read i low high =
        let j : ℕ = i - from in
        let few : j < length reads = omega (arith, low, high, unknown_size) in
        let own : length (map (claimed_digest sha256 n) reads) ≡ length reads = length-map reads (claimed_digest sha256 n) in
        get_or_append_left (map (claimed_digest sha256 n) reads) (replicate (2 ^ known.layer - length reads) (padding_digest sha256 0)) [] j (omega (arith, few, own))
        ∙ get_or-map (claimed_digest sha256 n) reads j (failed i) [] few
        ∙ ap (claimed_digest sha256 n) (sym (get_or-append_right before reads from i (failed i) begins low))

    right_tree : (grown : Facts) → Accepts sha256 k (leaf_claim from (leaves_read n known.layer reads)) grown
        → is_node_read (before ++ reads) n known.layer (piece_of known from) (digest_of known (piece_of known from)) ≡ true
        → HoldsLeaves n known (leaves_so_far leaves (before ++ reads) n known (from + count)) grown
    right_tree grown accepts right =
        let later : from < from + count = omega (arith, some) in
        let kept = accepts.joins.kept in
        record {
          length_is = accepts.joins.file_length ∙ is.tree.length_is;
          inside = is.tree.inside;
          width = is.tree.width;
          holds = λ i lt. kept known.layer i _ (is.tree.holds i lt);
          leaf = λ i d lt e. elim (three (from + count) i) [
            | inl other ↦ kept 0 i d (is.tree.leaf i d lt (sym (outside reads (from + count) later i other) ∙ e))
            | inr here ↦
                let unknown = group_unknown i here.0 here.1 in
                let at : from + (i - from) ≡ i = omega (arith, here.0) in
                let added : held_at grown 0 (from + (i - from)) ≡ Some (get_or (leaves_read n known.layer reads) (i - from) []) =
                leaf_added n known k (piece_of known from) from ready place real (leaves_read n known.layer reads) leaves_are grown accepts (i - from)
                (omega (arith, at, lt)) (omega (arith, here.0, here.1, is_piece.count_is)) in
                ap (held_at grown 0) (sym at) ∙ added ∙ ap (λ x. Some x) (leaf_of_read i here.0 here.1)
                ∙ sym (so_far_read leaves (before ++ reads) n known (from + count) i unknown here.1
                ∙ read_right leaves (before ++ reads) n known from i (group_reads i here.0 here.1 true right)) ∙ e
          ];
          bare = λ i lt e. elim (three (from + count) i) [
            | inl other ↦
                others_bare n known k (piece_of known from) from ready place real (leaves_read n known.layer reads) leaves_are grown accepts (piece_of known i)
                (not_of_piece i lt other) (is.tree.bare i lt (sym (outside reads (from + count) later i other) ∙ e))
            | inr here ↦
                let unknown = group_unknown i here.0 here.1 in
                absurd (none_some _ (sym (sym (so_far_read leaves (before ++ reads) n known (from + count) i unknown here.1
                ∙ read_right leaves (before ++ reads) n known from i (group_reads i here.0 here.1 true right)) ∙ e)))
          ];
        }

    piece_done : (b : Bool) (tag marked faults : ℕ) (grown : Facts)
        → is_node_read (before ++ reads) n known.layer (piece_of known from) (digest_of known (piece_of known from)) ≡ b → marked ≡ (if b then count else 0)
        → faults ≡ fault_count reads → HoldsLeaves n known (leaves_so_far leaves (before ++ reads) n known (from + count)) grown
        → IsGroupDone n known leaves from before reads (record { next = first + count; anchor = tag; marked = marked; faults = faults }) grown
    piece_done b tag marked faults grown told marked_is faults_are tree =
        let next : from + count - from ≡ count = omega arith in
        subst (λ f. IsGroupDone n known leaves from before reads (record { next = f + count; anchor = tag; marked = marked; faults = faults }) grown)
        (sym is_piece.first_is)
        (record {
          later = omega (arith, some);
          inside = omega (arith, is_piece.count_is, real);
          in_order = each ∙ ap (range_with_len from) (sym next);
          marks = marked_is
              ∙ sym (ap (λ m. count_by (is_right_block (is_node_read (before ++ reads) n) known leaves) (range_with_len from m)) next
              ∙ count_const (is_right_block (is_node_read (before ++ reads) n) known leaves) b from count (λ i low high.
              ap (λ o. by_leaf o (is_node_read (before ++ reads) n 0 i) (is_node_read (before ++ reads) n known.layer (piece_of known i) (digest_of known (piece_of known i))))
              (group_unknown i low high) ∙ group_reads i low high b told));
          faults = faults_are;
          learned = tree_grown grown tree;
        })

    whole_reads : AreWhole k.file_length first count reads → list_all (is_whole n) reads ≡ true
    whole_reads whole =
        all_whole n reads (omega (arith, unknown_size, subst (λ m. count_by (is_whole m) reads ≡ count) is.tree.length_is whole.whole))

    no_faults : AreWhole k.file_length first count reads → 0 ≡ fault_count reads
    no_faults whole =
        omega (arith, unknown_size, subst (λ m. count_by (is_whole m) reads ≡ count) is.tree.length_is whole.whole, whole_or_fault n reads)

    accepted_done : (grown : Facts) → AreWhole k.file_length first count reads → Accepts sha256 k (claim_of_reads sha256 k.file_length anchor first reads) grown
        → IsGroupDone n known leaves from before reads (record { next = first + count; anchor = anchor; marked = count; faults = 0 }) grown
    accepted_done grown whole accepts =
        let here : Accepts sha256 k (leaf_claim from (leaves_read n known.layer reads)) grown = subst (λ c. Accepts sha256 k c grown) claim_is accepts in
        let same = accepted_digest n known k (piece_of known from) from ready place real (leaves_read n known.layer reads) leaves_are grown here in
        let right = (bytes_eq-Decides (digest_of known (piece_of known from)) (fold_of sha256 known.layer (leaves_read n known.layer reads))).1 same in
        let told : is_node_read (before ++ reads) n known.layer (piece_of known from) (digest_of known (piece_of known from)) ≡ true =
        tells ∙ rw (whole_reads whole, right) refl in
        piece_done true anchor count 0 grown told refl (no_faults whole) (right_tree grown here told)

    wrong_done : (tag faults : ℕ) → is_node_read (before ++ reads) n known.layer (piece_of known from) (digest_of known (piece_of known from)) ≡ false
        → faults ≡ fault_count reads → IsGroupDone n known leaves from before reads (record { next = first + count; anchor = tag; marked = 0; faults = faults }) k
    wrong_done tag faults told faults_are = piece_done false tag 0 faults k told refl faults_are (wrong_tree told)

    refused_done : (error : ProofError) → AreWhole k.file_length first count reads
        → IsRefused sha256 k (claim_of_reads sha256 k.file_length anchor first reads) error → error ≢ OutOfMemory
        → IsGroupDone n known leaves from before reads (record { next = first + count; anchor = anchor; marked = 0; faults = 0 }) k
    refused_done error whole refusal other =
        let here : IsRefused sha256 k (leaf_claim from (leaves_read n known.layer reads)) error = subst (λ c. IsRefused sha256 k c error) claim_is refusal in
        let apart = refused_digest n known k (piece_of known from) from ready place real (leaves_read n known.layer reads) leaves_are error above here other in
        let wrong : pointwise nat_eq (digest_of known (piece_of known from)) (fold_of sha256 known.layer (leaves_read n known.layer reads)) ≡ false =
        false_from_ne_true _ (λ t. apart ((bytes_eq-Decides (digest_of known (piece_of known from)) (fold_of sha256 known.layer (leaves_read n known.layer reads))).0 t)) in
        wrong_done anchor 0 (tells ∙ rw (whole_reads whole, wrong) refl) (no_faults whole)

    short_done : fault_count reads ≡ 0 → count_by (is_whole k.file_length) reads < count
        → IsGroupDone n known leaves from before reads (record { next = first + count; anchor = anchor; marked = 0; faults = 0 }) k
    short_done sound few =
        let part = not_all_whole n reads (omega (arith, unknown_size, subst (λ m. count_by (is_whole m) reads < count) is.tree.length_is few)) in
        wrong_done anchor 0 (tells ∙ rw part refl) (sym sound)

    unread_done : 0 < fault_count reads
        → IsGroupDone n known leaves from before reads (record { next = first + count; anchor = 0; marked = 0; faults = fault_count reads }) k
    unread_done faulty =
        let part = not_all_whole n reads (omega (arith, faulty, whole_or_fault n reads)) in
        wrong_done 0 (fault_count reads) (tells ∙ rw part refl) refl

  pub group_done : (states after : List BlockState) (reads : List BlockRead) (adopted : Adopted) (grown : Facts)
      → Adopts sha256 k from states reads adopted grown after → IsGroupDone n known leaves from before reads adopted grown
  group_done states after _ _ _ (none past) = absurd (omega (arith, real, past, ap block_count is.tree.length_is))
  group_done states after _ _ _ (blockwise count reads group in_order) = known_done count reads group in_order
  group_done states after _ _ _ (accepted anchor first count reads grown group whole accepts) =
      accepted_done anchor first count reads group whole.blocks grown whole accepts
  group_done states after _ _ _ (refused anchor first count reads error group whole refusal other) =
      refused_done anchor first count reads group whole.blocks error whole refusal other
  group_done states after _ _ _ (short anchor first count reads group in_order sound few) =
      short_done anchor first count reads group in_order sound few
  group_done states after _ _ _ (unread anchor first count reads group in_order faulty) =
      unread_done anchor first count reads group in_order faulty
