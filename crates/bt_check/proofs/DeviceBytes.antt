-- A check by the answers of an honest device is one of its bytes.
use Rattle.std.proofs.Common.{◌≡◌, ℕ, zero, suc, ◌+◌, ◌-◌, ◌*◌, ◌^◌, ◌<◌, ◌≤◌, ◌&&◌, Bool, true, false, true≢false, cond, Option, None, Some, IsSomeAnd, List, [], ◌∷◌, map, length, take, drop, replicate, get_or, inl, inr, arith, refl, sym, ap, ◌∙◌, subst, min}
use Rattle.std.specs.Prelude.{nat_eq}
use Rattle.std.specs.Cmp.Lexicographic.{pointwise}
use Rattle.std.specs.List.{list_all, range_with_len}
use Rattle.std.proofs.lemmas.Bool.{cases_lt, eq-eqb}
use Rattle.std.proofs.lemmas.Bool.Decides.{eqb_tells, leb_tells}
use Rattle.std.proofs.lemmas.Nat.{pow_pos}
use Rattle.std.proofs.lemmas.List.{length-map, length-take, length-drop, drop-take, get_or-map, get_or_append_left, get_or-append_right, get_or-replicate}
use Rattle.std.proofs.lemmas.List.FromFn.{get_or-map-range_with_len, length-map-range_with_len}
use Rattle.sha2.specs.Sha256.{sha256}
use Rattle.bt_tree.specs.Blocks.{block_count, block_at, block_length}
use Rattle.bt_tree.specs.Layers.{fold_of}
use Rattle.bt_tree.specs.Tree.{padding_digest, node_digest}
use Rattle.bt_tree.proofs.TreeNodes.{fold_is, row_node_same, node_digest_below, leaf_is, leaf_past}
use Rattle.bt_disk.specs.Conduct.{Conduct}
use Rattle.bt_disk.specs.History.{History}
use Rattle.bt_disk.specs.Calls.{AreAnswered, HasCalls, IsAnswered}
use Rattle.bt_store.specs.BlockReads.{BlockRead, given, failed, block_of, call_of, fault_count, is_fault}
use Rattle.bt_store.specs.Adoption.{is_whole, claimed_digest}
use Rattle.bt_check.specs.EntryCheck.{Answers, calls_of, len_call_of, leaves_read, reads_below, is_node_read, IsFindingBy}
use Rattle.bt_check.specs.Finding.{KnownLayer, is_right_block, by_leaf, piece_of, digest_of, IsFindingOf}
use Rattle.bt_check.specs.Pieces.{piece_start, piece_size, has_piece}
use Rattle.bt_check.specs.declared.data_file.Finding.{Finding}
use Rattle.bt_check.proofs.RightBlocks.{count_cons, count_same}
use Rattle.bt_check.proofs.AdoptedGroups.{piece_begins}

-- ---- the reads that a device with these bytes answers

-- what block i has of these bytes, in a file of n bytes
abbrev bytes_read : ℕ → List ℕ → ℕ → List ℕ
bytes_read n bytes i = take (block_length n i) (drop (16384 * i) bytes)

abbrev read_from : ℕ → List ℕ → ℕ → BlockRead
read_from n bytes i = given i (bytes_read n bytes i)

reads_are : (n : ℕ) (h new : History) (reads : List BlockRead) → AreAnswered h (map (call_of n) reads) new → fault_count reads ≡ 0
    → reads ≡ map (read_from n h.now.bytes) (map block_of reads)
reads_are n h new [] answered sound = refl
reads_are n h new (given i bytes ∷ reads) answered sound =
    let rest : fault_count reads ≡ 0 = omega (arith, count_cons is_fault (given i bytes) reads, sound) in
    let here : AreAnswered h (map (call_of n) reads) new = subst (λ m. AreAnswered m (map (call_of n) reads) new) answered.1.1 answered.2 in
    ap (λ b. given i b ∷ reads) answered.1.0
    ∙ ap (λ l. given i (take (block_length n i) (drop (16384 * i) h.now.bytes)) ∷ l) (reads_are n h new reads here rest)
reads_are n h new (failed i ∷ reads) answered sound = absurd (omega (arith, count_cons is_fault (failed i) reads, sound))

drop_range : (a m k : ℕ) → k ≤ m → drop k (range_with_len a m) ≡ range_with_len (a + k) (m - k)
drop_range a m zero le =
    let here : a + 0 ≡ a = omega arith in
    let all : m - 0 ≡ m = omega arith in
    sym (ap (λ s. range_with_len s (m - 0)) here ∙ ap (range_with_len a) all)
drop_range a zero (suc k) le = absurd (omega (arith, le))
drop_range a (suc m) (suc k) le =
    let here : a + 1 + k ≡ a + suc k = omega arith in
    let rest : m - k ≡ suc m - suc k = omega arith in
    drop_range (a + 1) m k (omega (arith, le)) ∙ ap (λ s. range_with_len s (m - k)) here ∙ ap (range_with_len (a + suc k)) rest

take_range : (a m k : ℕ) → take k (range_with_len a m) ≡ range_with_len a (min k m)
take_range a m zero = let e : 0 ≡ min 0 m = omega arith in ap (range_with_len a) e
take_range a zero (suc k) = let e : 0 ≡ min (suc k) 0 = omega arith in ap (range_with_len a) e
take_range a (suc m) (suc k) =
    let up : suc (min k m) ≡ min (suc k) (suc m) = omega arith in
    ap (λ l. a ∷ l) (take_range (a + 1) m k) ∙ ap (range_with_len a) up

pub drop_map : {A B : Type 0} (f : A → B) (k : ℕ) (xs : List A) → drop k (map f xs) ≡ map f (drop k xs)
drop_map f zero xs = refl
drop_map f (suc k) [] = refl
drop_map f (suc k) (x ∷ xs) = drop_map f k xs

take_map : {A B : Type 0} (f : A → B) (k : ℕ) (xs : List A) → take k (map f xs) ≡ map f (take k xs)
take_map f zero xs = refl
take_map f (suc k) [] = refl
take_map f (suc k) (x ∷ xs) = ap (λ l. f x ∷ l) (take_map f k xs)

all_in_range : {X : Type 0} (p : X → Bool) (f : ℕ → X) (a m : ℕ) → ((i : ℕ) → a ≤ i → i < a + m → p (f i) ≡ true) → list_all p (map f (range_with_len a m)) ≡ true
all_in_range p f a zero all = refl
all_in_range p f a (suc m) all =
    ap (λ b. b && list_all p (map f (range_with_len (a + 1) m))) (all a (omega arith) (omega arith))
    ∙ all_in_range p f (a + 1) m (λ i low high. all i (omega (arith, low)) (omega (arith, high)))

one_in_range : {X : Type 0} (p : X → Bool) (f : ℕ → X) (a m i : ℕ) → a ≤ i → i < a + m → p (f i) ≡ false → list_all p (map f (range_with_len a m)) ≡ false
one_in_range p f a zero i low high is = absurd (omega (arith, low, high))
one_in_range p f a (suc m) i low high is = elim (cases_lt a i) [
  | inl lt ↦
      ap (λ b. p (f a) && b) (one_in_range p f (a + 1) m i (omega (arith, lt)) (omega (arith, high)) is) ∙ and_false (p (f a))
  | inr le ↦
      let here : i ≡ a = omega (arith, low, le) in
      ap (λ b. b && list_all p (map f (range_with_len (a + 1) m))) (subst (λ j. p (f j) ≡ false) here is)
]
  where
    and_false : (b : Bool) → (b && false) ≡ false
    and_false true = refl
    and_false false = refl

-- ---- a piece

drop_past : (k : ℕ) (xs : List ℕ) → length xs ≤ k → drop k xs ≡ []
drop_past zero [] le = refl
drop_past (suc k) [] le = refl
drop_past zero (x ∷ xs) le = absurd (omega (arith, le))
drop_past (suc k) (x ∷ xs) le = drop_past k xs (omega (arith, le))

take_twice : (a b : ℕ) (xs : List ℕ) → take a (take b xs) ≡ take (min a b) xs
take_twice zero b xs = let e : min 0 b ≡ 0 = omega arith in ap (λ m. take m xs) (sym e)
take_twice (suc a) zero xs = let e : 0 ≡ min (suc a) 0 = omega arith in ap (λ m. take m xs) e
take_twice (suc a) (suc b) [] = let up : suc (min a b) ≡ min (suc a) (suc b) = omega arith in ap (λ m. take m []) up
take_twice (suc a) (suc b) (x ∷ xs) =
    let up : suc (min a b) ≡ min (suc a) (suc b) = omega arith in
    ap (λ l. x ∷ l) (take_twice a b xs) ∙ ap (λ m. take m (x ∷ xs)) up

-- a block of the first n bytes
file_block : (n : ℕ) (bytes : List ℕ) (i : ℕ) → block_at (take n bytes) i ≡ bytes_read n bytes i
file_block n bytes i = elim (cases_lt n (16384 * i)) [
  | inl past ↦
      let none : block_length n i ≡ 0 = omega (arith, past) in
      let few = length-take n bytes in
      ap (take 16384) (drop_past (16384 * i) (take n bytes) (omega (arith, few, past))) ∙ ap (λ m. take m (drop (16384 * i) bytes)) (sym none)
  | inr le ↦
      let split : n ≡ 16384 * i + (n - 16384 * i) = omega (arith, le) in
      ap (λ m. take 16384 (drop (16384 * i) (take m bytes))) split ∙ ap (take 16384) (drop-take (16384 * i) (n - 16384 * i) bytes)
      ∙ take_twice 16384 (n - 16384 * i) (drop (16384 * i) bytes)
]

length_read : (n : ℕ) (bytes : List ℕ) (i : ℕ) → length (bytes_read n bytes i) ≡ min (block_length n i) (length bytes - 16384 * i)
length_read n bytes i = length-take (block_length n i) (drop (16384 * i) bytes) ∙ ap (min (block_length n i)) (length-drop (16384 * i) bytes)

whole_read : (n : ℕ) (bytes : List ℕ) (i : ℕ) → 16384 * i + block_length n i ≤ length bytes → is_whole n (read_from n bytes i) ≡ true
whole_read n bytes i h = eq-eqb (length (bytes_read n bytes i)) (block_length n i) (omega (arith, length_read n bytes i, h))

short_read : (n : ℕ) (bytes : List ℕ) (i : ℕ) → i < block_count n → length bytes < 16384 * i + block_length n i → is_whole n (read_from n bytes i) ≡ false
short_read n bytes i inside h = elim (eqb_tells (length (bytes_read n bytes i)) (block_length n i)) [
  | inl is ↦ absurd (omega (arith, is.1, length_read n bytes i, h, inside))
  | inr is ↦ is.0
]

claimed_whole : (n : ℕ) (bytes : List ℕ) (i : ℕ) → is_whole n (read_from n bytes i) ≡ true
    → claimed_digest sha256 n (read_from n bytes i) ≡ sha256 (bytes_read n bytes i)
claimed_whole n bytes i is = ap (λ t. cond t (sha256 (bytes_read n bytes i)) (padding_digest sha256 0)) is

-- how many blocks lie below a node
abbrev blocks_below : ℕ → ℕ → ℕ → ℕ
blocks_below n layer index = min (2 ^ layer) (block_count n - index * 2 ^ layer)

module _ (n : ℕ) (bytes : List ℕ) (layer j : ℕ) (digest : List ℕ) (real : j * 2 ^ layer < block_count n) where
  piece_is : reads_below (map (read_from n bytes) (range_with_len 0 (block_count n))) layer j
      ≡ map (read_from n bytes) (range_with_len (j * 2 ^ layer) (blocks_below n layer j))
  piece_is =
      let f : ℕ → BlockRead = read_from n bytes in
      let first : ℕ = j * 2 ^ layer in
      let here : 0 + first ≡ first = omega arith in
      ap (take (2 ^ layer)) (drop_map f first (range_with_len 0 (block_count n)) ∙ ap (map f) (drop_range 0 (block_count n) first (omega (arith, real))))
      ∙ take_map f (2 ^ layer) (range_with_len (0 + first) (block_count n - first))
      ∙ ap (map f) (take_range (0 + first) (block_count n - first) (2 ^ layer) ∙ ap (λ s. range_with_len s (min (2 ^ layer) (block_count n - first))) here)

  leaf_read : (first count i : ℕ) → first ≡ j * 2 ^ layer → count ≡ blocks_below n layer j
      → piece_start layer j + piece_size n layer j ≤ length bytes → i < 2 ^ layer
      → get_or (leaves_read n layer (map (read_from n bytes) (range_with_len first count))) i [] ≡ node_digest sha256 (take n bytes) 0 (first + i)
  leaf_read first count i first_is count_is h low =
      let reads : List BlockRead = map (read_from n bytes) (range_with_len first count) in
      let own : List (List ℕ) = map (claimed_digest sha256 n) reads in
      let rest : List (List ℕ) = replicate (2 ^ layer - length reads) (padding_digest sha256 0) in
      let few : length reads ≡ count = length-map-range_with_len (read_from n bytes) first count in
      let same : length own ≡ count = length-map reads (claimed_digest sha256 n) ∙ few in
      let shorter = length-take n bytes in
      elim (cases_lt i count) [
        | inl lt ↦
            let whole : 16384 * (first + i) + block_length n (first + i) ≤ length bytes = omega (arith, h, lt, real, first_is, count_is) in
            get_or_append_left own rest [] i (omega (arith, lt, same))
            ∙ get_or-map (claimed_digest sha256 n) reads i (failed 0) [] (omega (arith, lt, few))
            ∙ ap (claimed_digest sha256 n) (get_or-map-range_with_len (read_from n bytes) first count i (first + i) (failed 0) lt refl)
            ∙ claimed_whole n bytes (first + i) (whole_read n bytes (first + i) whole) ∙ ap sha256 (sym (file_block n bytes (first + i)))
            ∙ sym (leaf_is sha256 (take n bytes) (first + i) (omega (arith, shorter, whole, lt, real, first_is, count_is)))
        | inr le ↦
            get_or-append_right own rest count i [] same le
            ∙ get_or-replicate (2 ^ layer - length reads) (i - count) (padding_digest sha256 0) [] (omega (arith, few, low, le))
            ∙ sym (leaf_past sha256 (take n bytes) (first + i) (omega (arith, shorter, le, low, real, first_is, count_is)))
      ]

  -- the node over the blocks that were read
  node_read : piece_start layer j + piece_size n layer j ≤ length bytes
      → fold_of sha256 layer (leaves_read n layer (map (read_from n bytes) (range_with_len (j * 2 ^ layer) (blocks_below n layer j))))
      ≡ node_digest sha256 (take n bytes) layer j
  node_read h =
      let first : ℕ = j * 2 ^ layer in
      let reads : List BlockRead = map (read_from n bytes) (range_with_len first (blocks_below n layer j)) in
      fold_is sha256 layer (leaves_read n layer reads)
      ∙ row_node_same sha256 (λ i. get_or (leaves_read n layer reads) i []) (λ i. node_digest sha256 (take n bytes) 0 (first + i)) layer 0
      (λ i low high. leaf_read first (blocks_below n layer j) i refl refl h (omega (arith, high)))
      ∙ node_digest_below sha256 (take n bytes) layer j

  all_read : piece_start layer j + piece_size n layer j ≤ length bytes
      → list_all (is_whole n) (map (read_from n bytes) (range_with_len (j * 2 ^ layer) (blocks_below n layer j))) ≡ true
  all_read h =
      all_in_range (is_whole n) (read_from n bytes) (j * 2 ^ layer) (blocks_below n layer j)
      (λ i low high. whole_read n bytes i (omega (arith, h, low, high, real)))

  not_all_read : length bytes < piece_start layer j + piece_size n layer j
      → list_all (is_whole n) (map (read_from n bytes) (range_with_len (j * 2 ^ layer) (blocks_below n layer j))) ≡ false
  not_all_read h =
      let wide = pow_pos layer in
      let last : ℕ = j * 2 ^ layer + blocks_below n layer j - 1 in
      one_in_range (is_whole n) (read_from n bytes) (j * 2 ^ layer) (blocks_below n layer j) last (omega (arith, wide, real)) (omega (arith, wide, real))
      (short_read n bytes last (omega (arith, wide, real)) (omega (arith, h, wide, real)))

  -- the reads tell of the node what the bytes do
  pub node_same : is_node_read (map (read_from n bytes) (range_with_len 0 (block_count n))) n layer j digest ≡ has_piece bytes n layer j digest
  node_same =
      let piece : List BlockRead = map (read_from n bytes) (range_with_len (j * 2 ^ layer) (blocks_below n layer j)) in
      let until : ℕ = piece_start layer j + piece_size n layer j in
      ap (λ reads. list_all (is_whole n) reads && pointwise nat_eq digest (fold_of sha256 layer (leaves_read n layer reads))) piece_is
      ∙ elim (leb_tells until (length bytes)) [
        | inl is ↦
            ap (λ b. b && pointwise nat_eq digest (fold_of sha256 layer (leaves_read n layer piece))) (all_read is.1)
            ∙ ap (λ d. pointwise nat_eq digest d) (node_read is.1)
            ∙ sym (ap (λ b. b && pointwise nat_eq digest (node_digest sha256 (take n bytes) layer j)) is.0)
        | inr is ↦
            ap (λ b. b && pointwise nat_eq digest (fold_of sha256 layer (leaves_read n layer piece))) (not_all_read (omega (arith, is.1)))
            ∙ sym (ap (λ b. b && pointwise nat_eq digest (node_digest sha256 (take n bytes) layer j)) is.0)
      ]

-- ---- the whole file

module _ {D : Type 0} (conduct : Conduct D) (n : ℕ) (known : KnownLayer) (leaves : ℕ → Option (List ℕ)) where
  -- the reads tell of a block what the bytes do
  block_same : (bytes : List ℕ) (reads : List BlockRead) → reads ≡ map (read_from n bytes) (range_with_len 0 (block_count n)) → (i : ℕ) → i < block_count n
      → is_right_block (is_node_read reads n) known leaves i ≡ is_right_block (has_piece bytes n) known leaves i
  block_same bytes reads are i lt =
      let begins = piece_begins known i (piece_of known i) refl in
      let piece_too : is_node_read reads n known.layer (piece_of known i) (digest_of known (piece_of known i))
      ≡ has_piece bytes n known.layer (piece_of known i) (digest_of known (piece_of known i)) =
      ap (λ l. is_node_read l n known.layer (piece_of known i) (digest_of known (piece_of known i))) are
      ∙ node_same n bytes known.layer (piece_of known i) (digest_of known (piece_of known i)) (omega (arith, begins, lt)) in
      by_either (leaves i) (is_node_read reads n 0 i) (has_piece bytes n 0 i)
      (λ d. ap (λ l. is_node_read l n 0 i d) are ∙ node_same n bytes 0 i d (omega (arith, lt))) piece_too
    where
      by_either : (leaf : Option (List ℕ)) (f g : List ℕ → Bool) → ((d : List ℕ) → f d ≡ g d) → {a b : Bool} → a ≡ b → by_leaf leaf f a ≡ by_leaf leaf g b
      by_either None f g same e = e
      by_either (Some d) f g same e = same d

  found_of_reads : (answers : Answers) (finding : Finding) (h new : History) (len : ℕ) → IsFindingBy answers n known leaves finding → finding.faulty ≡ false
      → answers.len ≡ Some len → len ≡ length h.now.bytes → AreAnswered h (map (call_of n) answers.reads) new → IsFindingOf h.now.bytes n known leaves finding
  found_of_reads answers finding h new len found sound asked is answered =
      let none : fault_count answers.reads ≡ 0 = elim (cases_lt 0 (fault_count answers.reads)) [
        | inl lt ↦ absurd (true≢false (sym (found.faulty.1 (inr lt)) ∙ sound))
        | inr le ↦ omega (arith, le)
      ] in
      let reads : answers.reads ≡ map (read_from n h.now.bytes) (range_with_len 0 (block_count n)) =
      reads_are n h new answers.reads answered none ∙ ap (map (read_from n h.now.bytes)) found.each in
      record {
        marks = record {
          blocks = found.marks.blocks;
          marked = found.marks.marked
              ∙ count_same (is_right_block (is_node_read answers.reads n) known leaves) (is_right_block (has_piece h.now.bytes n) known leaves) 0 (block_count n)
              (λ i low high. block_same h.now.bytes answers.reads reads i (omega (arith, high)));
        };
        longer = (
          λ t. omega (arith, is, subst (λ o. IsSomeAnd o (λ l. n < l)) asked (found.longer.0 t)),
          λ lt. found.longer.1 (subst (λ o. IsSomeAnd o (λ l. n < l)) (sym asked) (omega (arith, is, lt))),
        );
      }

  pub honest_finding : (old new : D) (answers : Answers) (finding : Finding) → conduct.honest old → HasCalls conduct old (calls_of n answers) new
      → IsFindingBy answers n known leaves finding → finding.faulty ≡ false → IsFindingOf (conduct.history old).now.bytes n known leaves finding
  honest_finding old new answers finding is calls found sound = go answers.len refl (calls.answered is)
    where
      go : (o : Option ℕ) → answers.len ≡ o → AreAnswered (conduct.history old) (len_call_of answers.len ∷ map (call_of n) answers.reads) (conduct.history new)
          → IsFindingOf (conduct.history old).now.bytes n known leaves finding
      go None none answered = absurd (true≢false (sym (found.faulty.1 (inl none)) ∙ sound))
      go (Some len) asked answered =
          let first : IsAnswered (conduct.history old) (len_call_of (Some len)) answered.0 = subst (λ l. IsAnswered (conduct.history old) (len_call_of l) answered.0) asked answered.1 in
          let rest : AreAnswered (conduct.history old) (map (call_of n) answers.reads) (conduct.history new) =
          subst (λ h. AreAnswered h (map (call_of n) answers.reads) (conduct.history new)) first.1 answered.2 in
          found_of_reads answers finding (conduct.history old) (conduct.history new) len found sound asked first.0 rest
