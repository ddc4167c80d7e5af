-- How many blocks of an engine lie in a piece: as many as the run of the piece's blocks has.
use Rattle.bt_machine.proofs.Base.{[], ◌≡◌, ◌≢◌, ℕ, zero, suc, ◌+◌, ◌-◌, ◌*◌, ◌/◌, ◌%◌, ◌<◌, ◌≤◌, inl, inr, min, Bool, true, false, not, cond, List, ◌∷◌, length, map, filter, flat_map, Option, Some, refl, sym, ap, ◌∙◌, arith, slice_get, option_map, option_map_or, range_with_len, cases_lt, eq-eqb, eqb-true, File, IsLaidOut, BlockId, block_count, block_length}
use Rattle.std.specs.Prelude.{max, count_by, ◌↔◌, ◌==◌}
use Rattle.std.proofs.lemmas.Bool.{cases_eq}
use Rattle.std.proofs.lemmas.List.Sums.{sum_by-append}
use Rattle.std.proofs.lemmas.Option.{slice_get_past}
use Rattle.bt_tree.specs.TreeShape.{IsPieceLength}
use Rattle.bt_book.proofs.Once.{count_cons}
use Rattle.bt_meta.specs.PieceBlocks.{HasBlock, ArePieceBlocks, IsOfRun}
use Rattle.bt_meta.specs.declared.piece_blocks.BlockRun.{BlockRun}
use Rattle.bt_meta.specs.Law.{LiesInItsPiece}
use Rattle.bt_machine.proofs.Lists.{some_below, get_some}
use Rattle.bt_machine.specs.State.{EngineState, FileState}
use Rattle.bt_machine.specs.Blocks.{block_id, states_of, is_marked_in, is_in_piece, all_blocks}
use Rattle.bt_machine.specs.Shape.{IsShaped}
use Rattle.bt_engine_state.specs.Ties.{AreUnmarked}
use Rattle.bt_engine_start.specs.BooksSteps.{ArePieceSizes}

not_true : (t : Bool) → (t ≡ true → ⊥) → t ≡ false
not_true true wrong = absurd (wrong refl)
not_true false _ = refl

-- ---- counts

-- the numbers of a window that lie in a range
one_counted : (f : ℕ → Bool) (first count a n : ℕ) (b : Bool) → f a ≡ b → ((f a ≡ true) ↔ ((first ≤ a) × (a < first + count)))
    → count_by f (range_with_len (a + 1) n) ≡ min (first + count) (a + 1 + n) - max first (a + 1)
    → count_by f (a ∷ range_with_len (a + 1) n) ≡ min (first + count) (a + suc n) - max first a
one_counted f first count a n true e inside rest =
    let at = inside.0 e in
    let low : first ≤ a = at.0 in
    let high : a < first + count = at.1 in
    let one = count_cons f a (range_with_len (a + 1) n) ∙ ap (λ t. cond t 1 0 + count_by f (range_with_len (a + 1) n)) e in
    omega (arith, one, rest, low, high)
one_counted f first count a n false e inside rest =
    let none = count_cons f a (range_with_len (a + 1) n) ∙ ap (λ t. cond t 1 0 + count_by f (range_with_len (a + 1) n)) e in
    elim (cases_lt a first) [
      | inl below ↦ omega (arith, none, rest)
      | inr from ↦ elim (cases_lt a (first + count)) [
        | inl within ↦ absurd (let clash = sym e ∙ inside.1 (from, within) in cc)
        | inr past ↦ omega (arith, none, rest)
      ]
    ]

count_window : (f : ℕ → Bool) (first count a n : ℕ) → ((i : ℕ) → i < a + n → (f i ≡ true) ↔ ((first ≤ i) × (i < first + count)))
    → count_by f (range_with_len a n) ≡ min (first + count) (a + n) - max first a
count_window f first count a zero inside = omega arith
count_window f first count a (suc n) inside =
    one_counted f first count a n (f a) refl (inside a (omega arith)) (count_window f first count (a + 1) n (λ i lt. inside i (omega arith)))

count_none : (f : ℕ → Bool) (a n : ℕ) → ((i : ℕ) → i < a + n → f i ≡ false) → count_by f (range_with_len a n) ≡ 0
count_none f a zero none = refl
count_none f a (suc n) none =
    let rest = count_none f (a + 1) n (λ i lt. none i (omega arith)) in
    let one = count_cons f a (range_with_len (a + 1) n) ∙ ap (λ t. cond t 1 0 + count_by f (range_with_len (a + 1) n)) (none a (omega arith)) in
    omega (arith, rest, one)

count_mapped : {X Y : Type 0} (f : X → Y) (p : Y → Bool) (xs : List X) → count_by p (map f xs) ≡ count_by (λ x. p (f x)) xs
count_mapped f p [] = refl
count_mapped f p (x ∷ xs) =
    count_cons p (f x) (map f xs) ∙ ap (λ n. cond (p (f x)) 1 0 + n) (count_mapped f p xs) ∙ sym (count_cons (λ x. p (f x)) x xs)

count_filtered : {X : Type 0} (p f : X → Bool) → ((x : X) → f x ≡ true) → (xs : List X) → count_by f (filter p xs) ≡ count_by p xs
count_filtered p f all [] = refl
count_filtered {X} p f all (x ∷ xs) = by_test (p x) refl (count_filtered p f all xs)
  where
    by_test : (b : Bool) → p x ≡ b → count_by f (filter p xs) ≡ count_by p xs → count_by f (filter p (x ∷ xs)) ≡ count_by p (x ∷ xs)
    by_test true e rest =
        ap (λ t. count_by f (cond t (x ∷ filter p xs) (filter p xs))) e ∙ count_cons f x (filter p xs) ∙ ap (λ t. cond t 1 0 + count_by f (filter p xs)) (all x)
        ∙ ap (λ n. 1 + n) rest ∙ ap (λ t. cond t 1 0 + count_by p xs) (sym e) ∙ sym (count_cons p x xs)
    by_test false e rest =
        let first : count_by f (filter p (x ∷ xs)) ≡ count_by f (filter p xs) = ap (λ t. count_by f (cond t (x ∷ filter p xs) (filter p xs))) e in
        let second : count_by p (x ∷ xs) ≡ 0 + count_by p xs = count_cons p x xs ∙ ap (λ t. cond t 1 0 + count_by p xs) e in
        omega (arith, first, second, rest)

-- of the lists only that of one number counts
module _ {X : Type 0} (p : X → Bool) (h : ℕ → List X) (at : ℕ) (others : (i : ℕ) → i ≢ at → count_by p (h i) ≡ 0) where
  joined : (a n : ℕ) → count_by p (flat_map h (a ∷ range_with_len (a + 1) n)) ≡ count_by p (h a) + count_by p (flat_map h (range_with_len (a + 1) n))
  joined a n = sum_by-append (λ x. cond (p x) 1 0) (h a) (flat_map h (range_with_len (a + 1) n))

  count_past : (a n : ℕ) → at < a → count_by p (flat_map h (range_with_len a n)) ≡ 0
  count_past a zero lt = refl
  count_past a (suc n) lt =
      let own = others a (λ same. absurd (omega arith)) in
      let rest = count_past (a + 1) n (omega arith) in
      omega (arith, joined a n, own, rest)

  count_at : (a n : ℕ) → a ≤ at → at < a + n → count_by p (flat_map h (range_with_len a n)) ≡ count_by p (h at)
  count_at a zero from below = absurd (omega arith)
  count_at a (suc n) from below = elim (cases_eq a at) [
    | inl same ↦ (
        let rest = count_past (a + 1) n (omega arith) in
        let own = ap (λ i. count_by p (h i)) same in
        omega (arith, joined a n, rest, own)
        )
    | inr apart ↦ (
        let own = others a apart in
        let rest = count_at (a + 1) n (omega arith) (omega arith) in
        omega (arith, joined a n, own, rest)
        )
  ]

-- ---- the blocks of a piece

module _ (lies_in_piece : LiesInItsPiece) (s : EngineState) (shaped : IsShaped s.torrent s) (size : IsPieceLength s.torrent.piece_length)
    (lay : IsLaidOut s.torrent.piece_length s.torrent.files) where
  state_sizes : (i : ℕ) {file : File} → slice_get s.torrent.files i ≡ Some file → length (states_of s i) ≡ block_count file.length
  state_sizes i {file} listed =
      let below = some_below s.torrent.files i listed in
      let f = get_some s.files i (omega (arith, shaped.count)) in
      ap (λ (o : Option FileState). length (option_map_or (λ f. f.states) o [])) f.1 ∙ (shaped.each i file f.0 listed f.1).blocks

  file_there : (i block : ℕ) → block < length (states_of s i) → i < length s.torrent.files
  file_there i block lt = elim (cases_lt i (length s.files)) [
    | inl below ↦ omega (arith, shaped.count)
    | inr past ↦ absurd (omega (arith, ap (λ (o : Option FileState). length (option_map_or (λ f. f.states) o [])) (slice_get_past s.files i past)))
  ]

  has_block : (i block : ℕ) → block < length (states_of s i) → HasBlock s.torrent i block
  has_block i block lt =
      let file = get_some s.torrent.files i (file_there i block lt) in
      record { entry = file.0; found = file.1; inside = omega (arith, state_sizes i file.1, lt) }

  module _ (piece : ℕ) (run : BlockRun) (are : ArePieceBlocks s.torrent piece run) where
    lies : (i block : ℕ) → block < length (states_of s i) → (is_in_piece s.torrent piece (block_id i block) ≡ true) ↔ IsOfRun run i block
    lies i block lt =
        let has = has_block i block lt in
        let turn : ℕ = has.entry.first_piece + 16384 * block / s.torrent.piece_length in
        let law = lies_in_piece s.torrent piece i block run (record { piece = turn; begin = 16384 * block % s.torrent.piece_length; length = block_length has.entry.length block })
        size lay are (record { has = has; piece = refl; begin = refl; length = refl }) in
        let is : is_in_piece s.torrent piece (block_id i block) ≡ (turn == piece) =
        ap (λ (o : Option File). option_map_or (λ q. q == piece) (option_map (λ f. f.first_piece + 16384 * block / s.torrent.piece_length) o) false) has.found in (
          λ e. law.0 (eqb-true turn piece (sym is ∙ e)),
          λ of. is ∙ eq-eqb turn piece (law.1 of),
        )

    abbrev counted : ℕ → List BlockId
    counted i = map (block_id i) (range_with_len 0 (length (states_of s i)))

    other_file : (i : ℕ) → i ≢ run.file → count_by (is_in_piece s.torrent piece) (counted i) ≡ 0
    other_file i apart =
        let n : ℕ = length (states_of s i) in
        count_mapped (block_id i) (is_in_piece s.torrent piece) (range_with_len 0 n)
        ∙ count_none (λ b. is_in_piece s.torrent piece (block_id i b)) 0 n (λ b lt. not_true _ (λ e. apart ((lies i b (omega arith)).0 e).same_file))

    own_file : count_by (is_in_piece s.torrent piece) (counted run.file) ≡ run.count
    own_file =
        let n : ℕ = length (states_of s run.file) in
        let first = are.first_block in
        let window = count_mapped (block_id run.file) (is_in_piece s.torrent piece) (range_with_len 0 n)
        ∙ count_window (λ b. is_in_piece s.torrent piece (block_id run.file b)) run.first run.count 0 n
        (λ b lt. let law = lies run.file b (omega arith) in (
          λ e. (let of = law.0 e in (of.from, of.below)),
          λ at. law.1 (record { same_file = refl; from = at.0; below = at.1 }),
        )) in
        omega (arith, window, state_sizes run.file first.found, first.inside, are.count)

    run_counted : count_by (is_in_piece s.torrent piece) (all_blocks s) ≡ run.count
    run_counted =
        let below = some_below s.torrent.files run.file are.first_block.found in
        count_at (is_in_piece s.torrent piece) counted run.file other_file 0 (length s.files) (omega arith) (omega (arith, below, shaped.count)) ∙ own_file

  -- where no block is marked, as many are unmarked in each piece
  pub sizes_unmarked : ((b : BlockId) → is_marked_in s b ≡ false) → {sizes : List ℕ} → ArePieceSizes s.torrent sizes → AreUnmarked s sizes
  sizes_unmarked none {sizes} are = record {
    size = are.size;
    each = λ piece below. (
        let at = get_some sizes piece (omega (arith, are.size, below)) in
        let run = are.each piece at.0 at.1 in
        at.1 ∙ ap (λ n. Some n) (sym run.2 ∙ sym (
        count_filtered (is_in_piece s.torrent piece) (λ b. not (is_marked_in s b)) (λ b. ap not (none b)) (all_blocks s) ∙ run_counted piece run.0 run.1))
        );
  }
