-- What has become marked, whole and complete is among the blocks that differ.
use Rattle.std.specs.Prelude.{◌↔◌}
use Rattle.std.specs.List.{list_all}
use Rattle.std.proofs.lemmas.Bool.{cases_eq}
use Rattle.bt_book.specs.Blocks.{IsBefore}
use Rattle.bt_meta.specs.PieceBlocks.{HasBlock, ArePieceBlocks, IsOfRun}
use Rattle.bt_meta.specs.Law.{LiesInItsPiece, RunHasBlocks}
use Rattle.bt_meta.specs.declared.piece_blocks.BlockRun.{BlockRun}
use Rattle.bt_meta.specs.declared.piece_blocks.PieceRange.{PieceRange}
use Rattle.bt_store.specs.BlockStates.{is_marked}
use Rattle.bt_wire.specs.declared.message.Message.TheVariants.{Have}
use Rattle.bt_tree.specs.TreeShape.{IsPieceLength}
use Rattle.bt_machine.proofs.Base.{[], ◌≡◌, ℕ, zero, suc, ◌+◌, ◌*◌, ◌/◌, ◌%◌, ◌<◌, ◌≤◌, ◌⊎◌, inl, inr, Bool, true, false, not, ◌&&◌, List, ◌∷◌, length, map, Option, Some, refl, sym, ap, ◌∙◌, subst, arith, ◌==◌, eqb-true, eq-eqb, slice_get, Contains, All, AllPairs, AllPairs-filter, All-get_or, filter, flat_map, option_map, option_map_or, option_and_then, range_with_len, Metainfo, File, IsLaidOut, total_pieces, block_length, block_count, BlockState, Missing, Waiting, Marked, None, BlockId}
use Rattle.bt_machine.proofs.Machine.{FileState, EngineState, block_id, file_numbers, state_at, IsShaped, sent_to}
use Rattle.bt_machine.specs.Blocks.{states_of, piece_of, all_blocks, is_marked_in, is_in_piece, is_whole, is_complete, has_become, piece_numbers}
use Rattle.bt_machine.specs.Changes.{DifferAt, NewMarkedBlocksAreOfChanges, NewWholePiecesAreOfChanges, HavesAreOfChanges, NewCompleteFilesAreOfChanges, PieceIsWhole, RunIsWhole}
use Rattle.bt_machine.proofs.Lists.{here, later, contains_none, contains_cases, contains_filter, filter_contains, contains_map, map_contains, contains_flat_map, flat_map_contains, range_limits, range_contains, and_true, some_below, get_some, some_is, map_some}
use Rattle.bt_machine.proofs.Pairs.{Pairs, to_pairs, from_pairs, pairs_append, pairs_map}

-- ---- lists in strict order

module _ {X : Type 0} (R : X → X → Type 0) (apart : (x y : X) → R x y → R y x → ⊥) where
  tail_in : (x y : X) (xs ys : List X) → x ≡ y → Pairs R (x ∷ xs) → ((z : X) → Contains (x ∷ xs) z → Contains (y ∷ ys) z)
      → (z : X) → Contains xs z → Contains ys z
  tail_in x y xs ys e p f z c = elim (contains_cases ys (f z (later x xs c))) [
    | inl same ↦ let itself : R x x = subst (λ w. R x w) (sym (e ∙ same)) (p.0 z c) in absurd (apart x x itself itself)
    | inr more ↦ more
  ]

  -- two with the same elements are one
  one_list : (xs ys : List X) → Pairs R xs → Pairs R ys → ((z : X) → Contains xs z → Contains ys z)
      → ((z : X) → Contains ys z → Contains xs z) → xs ≡ ys
  one_list [] [] p q f g = refl
  one_list [] (y ∷ ys) p q f g = absurd (contains_none (g y (here ys refl)))
  one_list (x ∷ xs) [] p q f g = absurd (contains_none (f x (here xs refl)))
  one_list (x ∷ xs) (y ∷ ys) p q f g =
      let same : x ≡ y = elim (contains_cases ys (f x (here xs refl))) [
        | inl e ↦ sym e
        | inr more ↦ elim (contains_cases xs (g y (here ys refl))) [
          | inl e ↦ e
          | inr other ↦ absurd (apart x y (p.0 y other) (q.0 x more))
        ]
      ] in
      let rest = one_list xs ys p.1 q.1 (tail_in x y xs ys same p f) (tail_in y x ys xs (sym same) q g) in
      ap (λ w. w ∷ xs) same ∙ ap (λ ws. y ∷ ws) rest

  -- what a test finds among the one is what it finds among the other
  filter_of : (test : X → Bool) (xs ys : List X) → Pairs R xs → AllPairs R ys → ((z : X) → Contains ys z → Contains xs z)
      → ((z : X) → Contains xs z → test z ≡ true → Contains ys z) → filter test xs ≡ filter test ys
  filter_of test xs ys p q inside among =
      one_list (filter test xs) (filter test ys) (to_pairs R (filter test xs) (AllPairs-filter R test xs (from_pairs R xs p)))
      (to_pairs R (filter test ys) (AllPairs-filter R test ys q))
      (λ z c. (let of = contains_filter test xs c in filter_contains test ys (among z of.0 of.1) of.1))
      (λ z c. (let of = contains_filter test ys c in filter_contains test xs (inside z of.0) of.1))

number_apart : (m n : ℕ) → m < n → n < m → ⊥
number_apart m n p q = absurd (omega arith)

block_apart : (b c : BlockId) → IsBefore b c → IsBefore c b → ⊥
block_apart b c (inl p) (inl q) = absurd (omega arith)
block_apart b c (inl p) (inr q) = absurd (omega arith)
block_apart b c (inr p) (inl q) = absurd (omega arith)
block_apart b c (inr p) (inr q) = absurd (omega arith)

range_in_order : (a n : ℕ) → Pairs (λ i j. i < j) (range_with_len a n)
range_in_order a zero = tt
range_in_order a (suc n) = (λ y c. (let from = (range_limits (a + 1) n c).0 in omega arith), range_in_order (a + 1) n)

-- an element is in a list or is not
contains_or : {X : Type 0} → ((x y : X) → (x ≡ y) ⊎ (x ≡ y → ⊥)) → (xs : List X) (z : X) → Contains xs z ⊎ (Contains xs z → ⊥)
contains_or decide [] z = inr (λ c. contains_none c)
contains_or decide (x ∷ xs) z = elim (decide x z) [
  | inl same ↦ inl (here xs same)
  | inr other ↦ elim (contains_or decide xs z) [
    | inl more ↦ inl (later x xs more)
    | inr none ↦ inr (λ c. elim (contains_cases xs c) [ inl same ↦ other same | inr more ↦ none more ])
  ]
]

same_id : (b c : BlockId) → b.file ≡ c.file → b.block ≡ c.block → b ≡ c
same_id b c file block = ap (λ n. record b { file = n }) file ∙ ap (λ n. record c { block = n }) block

block_is : (b c : BlockId) → (b ≡ c) ⊎ (b ≡ c → ⊥)
block_is b c = elim (cases_eq b.file c.file) [
  | inl file ↦ elim (cases_eq b.block c.block) [
    | inl block ↦ inl (same_id b c file block)
    | inr other ↦ inr (λ e. other (ap (λ x. x.block) e))
  ]
  | inr other ↦ inr (λ e. other (ap (λ x. x.file) e))
]

-- ---- all blocks of an engine

blocks_in_order : (size : ℕ → ℕ) (files : List ℕ) → Pairs (λ i j. i < j) files
    → Pairs IsBefore (flat_map (λ file. map (block_id file) (range_with_len 0 (size file))) files)
blocks_in_order size [] p = tt
blocks_in_order size (file ∷ files) p =
    pairs_append IsBefore (map (block_id file) (range_with_len 0 (size file))) _
    (pairs_map (λ i j. i < j) IsBefore (block_id file) (range_with_len 0 (size file)) (λ i j lt. inr (refl, lt)) (range_in_order 0 (size file)))
    (blocks_in_order size files p.1)
    (λ b c own other.
    let x = contains_map (block_id file) (range_with_len 0 (size file)) own in
    let y = contains_flat_map (λ file. map (block_id file) (range_with_len 0 (size file))) files other in
    let z = contains_map (block_id y.0) (range_with_len 0 (size y.0)) y.2 in
    let before = p.0 y.0 y.1 in
    inl (omega (arith, ap (λ d. d.file) x.2, ap (λ d. d.file) z.2)))

is_among : (s : EngineState) {b : BlockId} → Contains (all_blocks s) b → b.block < length (states_of s b.file)
is_among s {b} c =
    let y = contains_flat_map (λ file. map (block_id file) (range_with_len 0 (length (states_of s file)))) (file_numbers s) c in
    let z = contains_map (block_id y.0) (range_with_len 0 (length (states_of s y.0))) y.2 in
    let below = (range_limits 0 (length (states_of s y.0)) z.1).1 in
    rw (← z.2) (omega arith)

-- no file past the last one has blocks
has_file : {X : Type 0} (f : X → List BlockState) (files : List X) (file i : ℕ) → i < length (option_map_or f (slice_get files file) []) → file < length files
has_file f [] zero i lt = absurd (omega arith)
has_file f [] (suc file) i lt = absurd (omega arith)
has_file f (x ∷ files) zero i lt = omega arith
has_file f (x ∷ files) (suc file) i lt = let below = has_file f files file i lt in omega arith

among : (s : EngineState) (b : BlockId) → b.block < length (states_of s b.file) → Contains (all_blocks s) b
among s b lt =
    flat_map_contains (λ file. map (block_id file) (range_with_len 0 (length (states_of s file)))) (file_numbers s)
    (range_contains (length s.files) (has_file (λ f. f.states) s.files b.file b.block lt))
    (map_contains (block_id b.file) (range_with_len 0 (length (states_of s b.file))) (range_contains (length (states_of s b.file)) lt))

flat_map_same : {X Y : Type 0} (f g : X → List Y) (xs : List X) → ((x : X) → f x ≡ g x) → flat_map f xs ≡ flat_map g xs
flat_map_same f g [] same = refl
flat_map_same f g (x ∷ xs) same = rw (same x, flat_map_same f g xs same) refl

same_blocks : {blocks : List BlockId} {old new : EngineState} → DifferAt blocks old new → all_blocks new ≡ all_blocks old
same_blocks {blocks} {old} {new} d =
    ap (λ n. flat_map (λ file. map (block_id file) (range_with_len 0 (length (states_of new file)))) (range_with_len 0 n)) d.files
    ∙ flat_map_same _ _ (file_numbers old) (λ file. ap (λ n. map (block_id file) (range_with_len 0 n)) (d.sizes file))

-- ---- tests of all elements

all_contains : (P : ℕ → Type 0) (xs : List ℕ) (x : ℕ) → All P xs → Contains xs x → P x
all_contains P xs x all c = subst P c.2 (All-get_or P xs c.0 x c.1 all)

all_same : {X : Type 0} (f g : X → Bool) (xs : List X) → ((x : X) → Contains xs x → f x ≡ g x) → list_all f xs ≡ list_all g xs
all_same f g [] same = refl
all_same f g (x ∷ xs) same = rw (same x (here xs refl), all_same f g xs (λ y c. same y (later x xs c))) refl

all_true : {X : Type 0} (f : X → Bool) (xs : List X) {x : X} → list_all f xs ≡ true → Contains xs x → f x ≡ true
all_true f [] e c = absurd (contains_none c)
all_true f (y ∷ xs) e c =
    let both = and_true (f y) e in
    elim (contains_cases xs c) [ inl same ↦ ap f (sym same) ∙ both.0 | inr more ↦ all_true f xs both.1 more ]

true_all : {X : Type 0} (f : X → Bool) (xs : List X) → ((x : X) → Contains xs x → f x ≡ true) → list_all f xs ≡ true
true_all f [] each = refl
true_all f (y ∷ xs) each = rw (each y (here xs refl)) (true_all f xs (λ x c. each x (later y xs c)))

not_become : {X : Type 0} (holds : EngineState → X → Bool) (old new : EngineState) (x : X) → holds new x ≡ holds old x → has_become holds old new x ≡ true → ⊥
not_become holds old new x same e = by (holds old x) (ap (λ b. b && not (holds old x)) (sym same) ∙ e)
  where
    by : (b : Bool) → (b && not b) ≡ true → ⊥
    by true e = absurd cc
    by false e = absurd cc

-- ---- states of blocks

state_is : (o : Option FileState) (i : ℕ) → slice_get (option_map_or (λ f. f.states) o []) i ≡ option_and_then (λ f. slice_get f.states i) o
state_is None zero = refl
state_is None (suc i) = refl
state_is (Some f) i = refl

is_state : (s : EngineState) (file i : ℕ) → slice_get (states_of s file) i ≡ state_at s (block_id file i)
is_state s file i = state_is (slice_get s.files file) i

same_list : {X : Type 0} (xs ys : List X) → length xs ≡ length ys → ((i : ℕ) → slice_get xs i ≡ slice_get ys i) → xs ≡ ys
same_list [] [] size each = refl
same_list [] (y ∷ ys) size each = absurd (omega arith)
same_list (x ∷ xs) [] size each = absurd (omega arith)
same_list (x ∷ xs) (y ∷ ys) size each = ap (λ z. z ∷ xs) (some_is (each 0)) ∙ ap (λ zs. y ∷ zs) (same_list xs ys (omega arith) (λ i. each (suc i)))

marked_is : (o : Option BlockState) → option_map_or is_marked o false ≡ true → o ≡ Some Marked
marked_is None e = absurd cc
marked_is (Some Missing) e = absurd cc
marked_is (Some Waiting) e = absurd cc
marked_is (Some Marked) e = refl

number_there : (o : Option ℕ) (n : ℕ) → option_map_or (λ p. p == n) o false ≡ true → o ≡ Some n
number_there None n e = absurd cc
number_there (Some p) n e = ap (λ m. Some m) (eqb-true p n e)

there_number : (o : Option ℕ) (n : ℕ) → o ≡ Some n → option_map_or (λ p. p == n) o false ≡ true
there_number o n e = ap (λ o. option_map_or (λ p. p == n) o false) e ∙ eq-eqb n n refl

-- ---- blocks

pub new_marked_blocks_are : NewMarkedBlocksAreOfChanges
new_marked_blocks_are old new blocks d are =
    filter_of IsBefore block_apart (has_become is_marked_in old new) (all_blocks new) blocks
    (blocks_in_order (λ file. length (states_of new file)) (file_numbers new) (range_in_order 0 (length new.files)))
    are.in_order
    (λ b c. among new b (are.inside b c))
    (λ b c e. elim (contains_or block_is blocks b) [
      | inl found ↦ found
      | inr none ↦ absurd (not_become is_marked_in old new b (ap (λ o. option_map_or is_marked o false) (d.others b none)) e)
    ])

-- ---- pieces

module _ {blocks : List BlockId} {old new : EngineState} (d : DifferAt blocks old new) where
  whole_alike : (piece : ℕ) → ((b : BlockId) → Contains blocks b → piece_of new.torrent b ≡ Some piece → ⊥) → is_whole new piece ≡ is_whole old piece
  whole_alike piece apart =
      all_same (is_marked_in new) (is_marked_in old) (filter (is_in_piece new.torrent piece) (all_blocks new))
      (λ b c. (let of = contains_filter (is_in_piece new.torrent piece) (all_blocks new) c in
      ap (λ o. option_map_or is_marked o false) (d.others b (λ e. apart b e (number_there (piece_of new.torrent b) piece of.1)))))
      ∙ ap (λ t. list_all (is_marked_in old) (filter (is_in_piece t piece) (all_blocks new))) d.same_torrent
      ∙ ap (λ l. list_all (is_marked_in old) (filter (is_in_piece old.torrent piece) l)) (same_blocks d)

  complete_alike : (file : ℕ) → ((b : BlockId) → Contains blocks b → b.file ≡ file → ⊥) → is_complete new file ≡ is_complete old file
  complete_alike file apart =
      ap (list_all is_marked)
      (same_list (states_of new file) (states_of old file) (d.sizes file)
      (λ i. is_state new file i ∙ d.others (block_id file i) (λ c. apart (block_id file i) c refl) ∙ sym (is_state old file i)))

pub new_whole_pieces_are : NewWholePiecesAreOfChanges
new_whole_pieces_are old new blocks pieces d are =
    filter_of (λ p q. p < q) number_apart (has_become is_whole old new) (piece_numbers new) pieces
    (range_in_order 0 (total_pieces new.torrent)) are.in_order
    (λ piece c. range_contains (total_pieces new.torrent) (all_contains (λ q. q < total_pieces new.torrent) pieces piece are.inside c))
    (λ piece c e. elim (contains_or cases_eq pieces piece) [
      | inl found ↦ found
      | inr none ↦ absurd (not_become is_whole old new piece (whole_alike d piece (λ b of in_it. none (are.all b piece of in_it))) e)
    ])

pub haves_are : HavesAreOfChanges
haves_are old new blocks pieces d are =
    ap (λ whole. flat_map (λ piece. map (λ p. sent_to p (Have piece)) new.peers) whole) (new_whole_pieces_are old new blocks pieces d are)

pub new_complete_files_are : NewCompleteFilesAreOfChanges
new_complete_files_are old new blocks files d are =
    filter_of (λ f g. f < g) number_apart (has_become is_complete old new) (file_numbers new) files
    (range_in_order 0 (length new.files)) are.in_order
    (λ file c. range_contains (length new.files) (all_contains (λ f. f < length new.files) files file are.inside c))
    (λ file c e. elim (contains_or cases_eq files file) [
      | inl found ↦ found
      | inr none ↦ absurd (not_become is_complete old new file (complete_alike d file (λ b of at. none (subst (Contains files) at (are.all b of)))) e)
    ])

-- ---- when a piece is whole

pub piece_is_whole : PieceIsWhole
piece_is_whole s piece = (
  λ e b lt in_it. marked_is (state_at s b)
      (all_true (is_marked_in s) (filter (is_in_piece s.torrent piece) (all_blocks s)) e
      (filter_contains (is_in_piece s.torrent piece) (all_blocks s) (among s b lt) (there_number (piece_of s.torrent b) piece in_it))),
  λ each. true_all (is_marked_in s) (filter (is_in_piece s.torrent piece) (all_blocks s))
      (λ b c. (let of = contains_filter (is_in_piece s.torrent piece) (all_blocks s) c in
      ap (λ o. option_map_or is_marked o false) (each b (is_among s of.0) (number_there (piece_of s.torrent b) piece of.1)))),
)

-- the range of a block that the torrent has
abbrev range_at : (torrent : Metainfo) (file block : ℕ) → HasBlock torrent file block → PieceRange
range_at torrent file block has = record {
  piece = has.entry.first_piece + 16384 * block / torrent.piece_length;
  begin = 16384 * block % torrent.piece_length;
  length = block_length has.entry.length block;
}

module _ (in_piece : LiesInItsPiece) (has_blocks : RunHasBlocks) where
  module _ (s : EngineState) (piece : ℕ) (run : BlockRun) (lawful : IsPieceLength s.torrent.piece_length)
      (lay : IsLaidOut s.torrent.piece_length s.torrent.files) (shaped : IsShaped s.torrent s) (are : ArePieceBlocks s.torrent piece run) where
    lies : (file block : ℕ) (has : HasBlock s.torrent file block) → ((range_at s.torrent file block has).piece ≡ piece) ↔ IsOfRun run file block
    lies file block has =
        in_piece s.torrent piece file block run (range_at s.torrent file block has) lawful lay are
        (record { has = has; piece = refl; begin = refl; length = refl })

    states_are : (file : ℕ) (entry : File) → slice_get s.torrent.files file ≡ Some entry → length (states_of s file) ≡ block_count entry.length
    states_are file entry found =
        let f = get_some s.files file (let below = some_below s.torrent.files file found in let count = shaped.count in omega arith) in
        ap (λ o. length (option_map_or (λ (x : FileState). x.states) o [])) f.1 ∙ (shaped.each file entry f.0 found f.1).blocks

    of_piece : (i : ℕ) → run.first ≤ i → i < run.first + run.count → (i < length (states_of s run.file)) × (piece_of s.torrent (block_id run.file i) ≡ Some piece)
    of_piece i from below =
        let of : IsOfRun run run.file i = record { same_file = refl; from = from; below = below } in
        let has = has_blocks s.torrent piece run.file i run are of in
        let same = (lies run.file i has).1 of in
        let size = states_are run.file has.entry has.found in
        let inside = has.inside in (
          omega arith,
          ap (option_map (λ (f : File). f.first_piece + 16384 * i / s.torrent.piece_length)) has.found ∙ ap (λ n. Some n) same,
        )

    to_run : (b : BlockId) → b.block < length (states_of s b.file) → piece_of s.torrent b ≡ Some piece → IsOfRun run b.file b.block
    to_run b lt in_it =
        let entry = map_some (λ (f : File). f.first_piece + 16384 * b.block / s.torrent.piece_length) (slice_get s.torrent.files b.file) in_it in
        let size = states_are b.file entry.0 entry.1 in
        (lies b.file b.block (record { entry = entry.0; found = entry.1; inside = omega arith })).0 entry.2

  pub run_is_whole : RunIsWhole
  run_is_whole s piece run lawful lay shaped are =
      let whole = piece_is_whole s piece in (
        λ e i from below. (let of = of_piece s piece run lawful lay shaped are i from below in
            is_state s run.file i ∙ whole.0 e (block_id run.file i) of.0 of.1),
        λ each. whole.1 (λ b lt in_it. (let of = to_run s piece run lawful lay shaped are b lt in_it in
            sym (is_state s b.file b.block)
            ∙ ap (λ file. slice_get (states_of s file) b.block) of.same_file
            ∙ each b.block of.from of.below)),
      )
