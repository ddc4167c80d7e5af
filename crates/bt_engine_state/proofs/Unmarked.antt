-- A block that becomes marked, or is no more, changes the count of its piece by one, and no other count.
use Rattle.bt_machine.proofs.Base.{[], ◌≡◌, ◌≢◌, ℕ, zero, suc, ◌+◌, ◌<◌, ◌⊎◌, inl, inr, Bool, true, false, not, ◌&&◌, cond, List, ◌∷◌, length, map, filter, Some, refl, sym, ap, ◌∙◌, arith, subst, slice_get, slice_set, Contains, BlockId, Metainfo, option_map_or, length-set}
use Rattle.std.specs.Prelude.{count_by, flat_map, ◌==◌}
use Rattle.std.specs.List.{range_with_len}
use Rattle.bt_meta.specs.Torrent.{total_pieces}
use Rattle.bt_book.specs.Blocks.{IsBefore}
use Rattle.bt_book.proofs.Once.{count_cons}
use Rattle.bt_machine.proofs.Pairs.{Pairs, pairs_append, pairs_map}
use Rattle.bt_machine.proofs.Lists.{contains_map, contains_flat_map, contains_cases, contains_none, range_limits, range_contains, map_contains, flat_map_contains, here, later, set_same, set_other}
use Rattle.bt_machine.specs.State.{EngineState}
use Rattle.bt_machine.specs.Blocks.{block_id, states_of, piece_of, all_blocks, file_numbers, is_marked_in, is_in_piece}
use Rattle.bt_machine.specs.Changes.{DifferAt}
use Rattle.bt_store.specs.BlockStates.{is_marked}
use Rattle.bt_store.specs.declared.block_states.BlockState.{BlockState}
use Rattle.std.specs.Prelude.{slice_get as get_in}
use Rattle.std.proofs.lemmas.Bool.{cases_eq, ne_eqb}
use Rattle.bt_engine_state.specs.Ties.{unmarked_in, AreUnmarked}

-- ---- counts

count_agree : {X : Type 0} (f g : X → Bool) (xs : List X) → ((x : X) → Contains xs x → f x ≡ g x) → count_by f xs ≡ count_by g xs
count_agree f g [] same = refl
count_agree f g (x ∷ xs) same =
    count_cons f x xs ∙ ap (λ t. cond t 1 0 + count_by f xs) (same x (here xs refl))
    ∙ ap (λ n. cond (g x) 1 0 + n) (count_agree f g xs (λ y c. same y (later x xs c))) ∙ sym (count_cons g x xs)

filtered_by : {X : Type 0} (p f : X → Bool) (x : X) (xs : List X) (t : Bool) → p x ≡ t → count_by f (filter p xs) ≡ count_by (λ x. p x && f x) xs
    → count_by f (filter p (x ∷ xs)) ≡ count_by (λ x. p x && f x) (x ∷ xs)
filtered_by p f x xs true e rest =
    ap (λ t. count_by f (cond t (x ∷ filter p xs) (filter p xs))) e ∙ count_cons f x (filter p xs) ∙ ap (λ n. cond (f x) 1 0 + n) rest
    ∙ ap (λ t. cond (t && f x) 1 0 + count_by (λ x. p x && f x) xs) (sym e) ∙ sym (count_cons (λ x. p x && f x) x xs)
filtered_by p f x xs false e rest =
    let first : count_by f (filter p (x ∷ xs)) ≡ count_by f (filter p xs) = ap (λ t. count_by f (cond t (x ∷ filter p xs) (filter p xs))) e in
    let step : count_by (λ x. p x && f x) (x ∷ xs) ≡ 0 + count_by (λ x. p x && f x) xs =
    count_cons (λ x. p x && f x) x xs ∙ ap (λ t. cond (t && f x) 1 0 + count_by (λ x. p x && f x) xs) e in
    omega (arith, first, step, rest)

count_filtered : {X : Type 0} (p f : X → Bool) (xs : List X) → count_by f (filter p xs) ≡ count_by (λ x. p x && f x) xs
count_filtered p f [] = refl
count_filtered p f (x ∷ xs) = filtered_by p f x xs (p x) refl (count_filtered p f xs)

apart : (b c : BlockId) → IsBefore b c → b ≢ c
apart b c (inl lt) same = absurd (let e = ap (λ x. x.file) same in omega arith)
apart b c (inr lt) same = absurd (let e = ap (λ x. x.block) same in let l = lt.1 in omega arith)

abbrev pub one_if : Bool → ℕ
one_if t = cond t 1 0

one_of : (t : Bool) → one_if (not t) + one_if t ≡ 1
one_of true = refl
one_of false = refl

-- of blocks in order all but one are counted alike
pub count_but_one : (f g : BlockId → Bool) (b : BlockId) (xs : List BlockId) → Pairs IsBefore xs → Contains xs b → ((c : BlockId) → c ≢ b → f c ≡ g c)
    → count_by f xs + one_if (g b) ≡ count_by g xs + one_if (f b)
count_but_one f g b [] p c same = absurd (contains_none c)
count_but_one f g b (x ∷ xs) p c same = elim (contains_cases xs c) [
  | inl is ↦ (
      let rest = count_agree f g xs (λ y d. same y (λ e. apart x y (p.0 y d) (is ∙ sym e))) in
      let one : count_by f (x ∷ xs) ≡ one_if (f b) + count_by f xs = count_cons f x xs ∙ ap (λ y. one_if (f y) + count_by f xs) is in
      let two : count_by g (x ∷ xs) ≡ one_if (g b) + count_by g xs = count_cons g x xs ∙ ap (λ y. one_if (g y) + count_by g xs) is in
      omega (arith, one, two, rest)
      )
  | inr more ↦ (
      let rest = count_but_one f g b xs p.1 more same in
      let one : count_by f (x ∷ xs) ≡ one_if (g x) + count_by f xs =
      count_cons f x xs ∙ ap (λ t. one_if t + count_by f xs) (same x (apart x b (p.0 b more))) in
      let two = count_cons g x xs in
      omega (arith, one, two, rest)
      )
]

-- ---- all blocks of an engine

range_in_order : (a n : ℕ) → Pairs (λ i j. i < j) (range_with_len a n)
range_in_order a zero = tt
range_in_order a (suc n) = (λ y c. (let from = (range_limits (a + 1) n c).0 in omega arith), range_in_order (a + 1) n)

blocks_in_order : (size : ℕ → ℕ) (files : List ℕ) → Pairs (λ i j. i < j) files
    → Pairs IsBefore (flat_map (λ file. map (block_id file) (range_with_len 0 (size file))) files)
blocks_in_order size [] p = tt
blocks_in_order size (file ∷ files) p =
    pairs_append IsBefore (map (block_id file) (range_with_len 0 (size file))) _
    (pairs_map (λ i j. i < j) IsBefore (block_id file) (range_with_len 0 (size file)) (λ i j lt. inr (refl, lt)) (range_in_order 0 (size file)))
    (blocks_in_order size files p.1)
    (λ b c own other.
    let x = contains_map (block_id file) (range_with_len 0 (size file)) own in
    let y = contains_flat_map (λ file. map (block_id file) (range_with_len 0 (size file))) files other in
    let z = contains_map (block_id y.0) (range_with_len 0 (size y.0)) y.2 in
    let before = p.0 y.0 y.1 in
    inl (omega (arith, ap (λ d. d.file) x.2, ap (λ d. d.file) z.2)))

has_file : {X : Type 0} (f : X → List BlockState) (files : List X) (file i : ℕ) → i < length (option_map_or f (get_in files file) []) → file < length files
has_file f [] zero i lt = absurd (omega arith)
has_file f [] (suc file) i lt = absurd (omega arith)
has_file f (x ∷ files) zero i lt = omega arith
has_file f (x ∷ files) (suc file) i lt = let below = has_file f files file i lt in omega arith

pub among : (s : EngineState) (b : BlockId) → b.block < length (states_of s b.file) → Contains (all_blocks s) b
among s b lt =
    flat_map_contains (λ file. map (block_id file) (range_with_len 0 (length (states_of s file)))) (file_numbers s)
    (range_contains (length s.files) (has_file (λ f. f.states) s.files b.file b.block lt))
    (map_contains (block_id b.file) (range_with_len 0 (length (states_of s b.file))) (range_contains (length (states_of s b.file)) lt))

pub is_among : (s : EngineState) {b : BlockId} → Contains (all_blocks s) b → b.block < length (states_of s b.file)
is_among s {b} c =
    let y = contains_flat_map (λ file. map (block_id file) (range_with_len 0 (length (states_of s file)))) (file_numbers s) c in
    let z = contains_map (block_id y.0) (range_with_len 0 (length (states_of s y.0))) y.2 in
    let below = (range_limits 0 (length (states_of s y.0)) z.1).1 in
    rw (← z.2) (omega arith)

pub all_in_order : (s : EngineState) → Pairs IsBefore (all_blocks s)
all_in_order s = blocks_in_order (λ file. length (states_of s file)) (file_numbers s) (range_in_order 0 (length s.files))

flat_map_same : {X Y : Type 0} (f g : X → List Y) (xs : List X) → ((x : X) → f x ≡ g x) → flat_map f xs ≡ flat_map g xs
flat_map_same f g [] same = refl
flat_map_same f g (x ∷ xs) same = rw (same x, flat_map_same f g xs same) refl

pub same_blocks : {blocks : List BlockId} {old new : EngineState} → DifferAt blocks old new → all_blocks new ≡ all_blocks old
same_blocks {blocks} {old} {new} d =
    ap (λ n. flat_map (λ file. map (block_id file) (range_with_len 0 (length (states_of new file)))) (range_with_len 0 n)) d.files
    ∙ flat_map_same _ _ (file_numbers old) (λ file. ap (λ n. map (block_id file) (range_with_len 0 n)) (d.sizes file))

-- ---- the counts of pieces

-- the blocks of the piece that are not marked in an engine, among those of another
counts_alike : {blocks : List BlockId} {s t : EngineState} → DifferAt blocks s t → (piece : ℕ)
    → unmarked_in t piece ≡ count_by (λ c. is_in_piece s.torrent piece c && not (is_marked_in t c)) (all_blocks s)
counts_alike {blocks} {s} {t} d piece =
    ap (λ (m : Metainfo). count_by (λ c. not (is_marked_in t c)) (filter (is_in_piece m piece) (all_blocks t))) d.same_torrent
    ∙ ap (λ (bs : List BlockId). count_by (λ c. not (is_marked_in t c)) (filter (is_in_piece s.torrent piece) bs)) (same_blocks d)
    ∙ count_filtered (is_in_piece s.torrent piece) (λ c. not (is_marked_in t c)) (all_blocks s)

-- one block differs, and lies in the engine
module _ {s t : EngineState} {b : BlockId} (d : DifferAt (b ∷ []) s t) (inside : b.block < length (states_of s b.file)) where
  others : (c : BlockId) → c ≢ b → is_marked_in t c ≡ is_marked_in s c
  others c other =
      ap (λ o. option_map_or is_marked o false)
      (d.others c (λ among. elim (contains_cases [] among) [ inl same ↦ other (sym same) | inr none ↦ contains_none none ]))

  -- the count of its piece moves with its mark
  pub count_moves : (piece : ℕ) → is_in_piece s.torrent piece b ≡ true
      → unmarked_in s piece + one_if (is_marked_in s b) ≡ unmarked_in t piece + one_if (is_marked_in t b)
  count_moves piece in_it =
      let all = all_blocks s in
      let f : BlockId → Bool = λ c. is_in_piece s.torrent piece c && not (is_marked_in s c) in
      let g : BlockId → Bool = λ c. is_in_piece s.torrent piece c && not (is_marked_in t c) in
      let move : count_by f all + one_if (g b) ≡ count_by g all + one_if (f b) =
      count_but_one f g b all (all_in_order s) (among s b inside)
      (λ c other. ap (λ m. is_in_piece s.torrent piece c && not m) (sym (others c other))) in
      let own_f : one_if (f b) ≡ one_if (not (is_marked_in s b)) = ap (λ x. one_if (x && not (is_marked_in s b))) in_it in
      let own_g : one_if (g b) ≡ one_if (not (is_marked_in t b)) = ap (λ x. one_if (x && not (is_marked_in t b))) in_it in
      let first : unmarked_in s piece ≡ count_by f all = count_filtered (is_in_piece s.torrent piece) (λ c. not (is_marked_in s c)) all in
      let then : unmarked_in t piece ≡ count_by g all = counts_alike d piece in
      omega (arith, move, own_f, own_g, first, then, one_of (is_marked_in s b), one_of (is_marked_in t b))

  -- a piece that it does not lie in has the same count
  pub none_less : (piece : ℕ) → is_in_piece s.torrent piece b ≡ false → unmarked_in t piece ≡ unmarked_in s piece
  none_less piece out =
      counts_alike d piece
      ∙ count_agree (λ c. is_in_piece s.torrent piece c && not (is_marked_in t c)) (λ c. is_in_piece s.torrent piece c && not (is_marked_in s c)) (all_blocks s)
      (λ c among. elim (block_or c b) [
        | inl same ↦ ap (λ x. x && not (is_marked_in t c)) (ap (is_in_piece s.torrent piece) same ∙ out)
            ∙ sym (ap (λ x. x && not (is_marked_in s c)) (ap (is_in_piece s.torrent piece) same ∙ out))
        | inr other ↦ ap (λ m. is_in_piece s.torrent piece c && not m) (others c other)
      ])
      ∙ sym (count_filtered (is_in_piece s.torrent piece) (λ c. not (is_marked_in s c)) (all_blocks s))
    where
      block_or : (x y : BlockId) → (x ≡ y) ⊎ (x ≢ y)
      block_or x y = elim (cases_eq x.file y.file) [
        | inl file ↦ elim (cases_eq x.block y.block) [
          | inl block ↦ inl (ap (λ n. record x { file = n }) file ∙ ap (λ n. record y { block = n }) block)
          | inr off ↦ inr (λ e. off (ap (λ z. z.block) e))
        ]
        | inr off ↦ inr (λ e. off (ap (λ z. z.file) e))
      ]

-- one count changed, with which the engine's are right again
pub count_set : {s t : EngineState} {b : BlockId} (d : DifferAt (b ∷ []) s t) (inside : b.block < length (states_of s b.file)) (piece n : ℕ) (counts : List ℕ)
    → AreUnmarked s counts → piece_of s.torrent b ≡ Some piece → piece < total_pieces s.torrent → unmarked_in t piece ≡ n → AreUnmarked t (slice_set counts piece n)
count_set {s} {t} {b} d inside piece n counts are in_it below is = record {
  size = length-set counts piece n ∙ are.size ∙ ap total_pieces (sym d.same_torrent);
  each = λ q lt. (
      let there : q < total_pieces s.torrent = subst (λ (m : Metainfo). q < total_pieces m) d.same_torrent lt in
      elim (cases_eq q piece) [
        | inl same ↦ ap (λ k. slice_get (slice_set counts piece n) k) same ∙ set_same counts piece {x = n} (are.each piece below)
            ∙ ap (λ k. Some k) (sym is ∙ ap (unmarked_in t) (sym same))
        | inr other ↦ set_other counts piece q n other ∙ are.each q there
            ∙ ap (λ k. Some k) (sym (none_less d inside q (ap (λ o. option_map_or (λ p. p == q) o false) in_it ∙ ne_eqb piece q (λ e. other (sym e)))))
      ]
      );
}
