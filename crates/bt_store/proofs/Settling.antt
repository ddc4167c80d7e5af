-- What reads of different blocks leave of the states, and which blocks wait.
use Rattle.std.proofs.Common.{◌≡◌, ◌≢◌, ℕ, zero, suc, ◌+◌, ◌-◌, ◌<◌, ◌≤◌, inl, inr, Bool, false, List, [], ◌∷◌, ◌++◌, map, length, min, Some, refl, sym, ap, ◌∙◌, subst, arith, append-nil, if◌then◌else◌}
use Rattle.std.specs.Prelude.{slice_get, slice_set, filter, is_some, ◌&&◌, Contains, AllPairs}
use Rattle.std.specs.Option.{option_map_or}
use Rattle.std.specs.List.{range_with_len}
use Rattle.std.proofs.Math.ListN.{length-set}
use Rattle.std.proofs.lemmas.Bool.{cases_lt}
use Rattle.std.proofs.lemmas.List.{get_or-set_same}
use Rattle.std.proofs.lemmas.List.Elements.{filter-append}
use Rattle.std.proofs.lemmas.List.FromFn.{get_or-range_with_len, length-range_with_len}
use Rattle.std.proofs.lemmas.List.Kept.{AllPairs-filter}
use Rattle.std.proofs.lemmas.Option.{slice_get-get_or, slice_get_past}
use Rattle.bt_sparse.specs.SparseTree.{Facts, value_at}
use Rattle.bt_store.specs.BlockStates.{is_waiting}
use Rattle.bt_store.specs.BlockReads.{BlockRead, given, failed, block_of, is_right_read, after_read, judged}
use Rattle.bt_store.specs.Review.{is_waiting_at, waiting_blocks}
use Rattle.bt_store.specs.Law.{DecidesEach}
use Rattle.bt_store.specs.declared.block_states.BlockState.{BlockState}
use Rattle.bt_store.specs.declared.block_states.BlockState.TheVariants.{Missing, Marked}
use Rattle.bt_store.proofs.Reviews.{range_split, filter_none, read_kept}

-- ---- states after reads

set_there : {X : Type 0} (xs : List X) (i : ℕ) (x : X) → i < length xs → slice_get (slice_set xs i x) i ≡ Some x
set_there xs i x lt =
    let size = length-set xs i x in
    slice_get-get_or (slice_set xs i x) i x (omega arith) ∙ ap (λ y. Some y) (get_or-set_same xs i x x lt)

module _ (dig : List ℕ → List ℕ) (k : Facts) where
  unread_stays : (reads : List BlockRead) (states : List BlockState) (i : ℕ) → (Contains (map block_of reads) i → ⊥)
      → slice_get (judged dig k false reads states) i ≡ slice_get states i
  unread_stays [] states i none = refl
  unread_stays (read ∷ reads) states i none =
      unread_stays reads (after_read dig k false read states) i (λ c. none (suc c.0, omega (arith, c.1), c.2))
      ∙ read_kept dig k false read states i (λ e. none (0, omega arith, sym e))

  pub read_there : (read : BlockRead) (states : List BlockState) → block_of read < length states
      → slice_get (after_read dig k false read states) (block_of read) ≡ Some (if is_right_read dig k read then Marked else Missing)
  read_there (given i bytes) states lt = set_there states i _ lt
  read_there (failed i) states lt = set_there states i Missing lt

  pub length-read : (read : BlockRead) (states : List BlockState) → length (after_read dig k false read states) ≡ length states
  length-read (given i bytes) states = length-set states i _
  length-read (failed i) states = length-set states i Missing

  decided : (reads : List BlockRead) (states : List BlockState) (read : BlockRead) → AllPairs (λ i j. i ≢ j) (map block_of reads) → Contains reads read
      → block_of read < length states → slice_get (judged dig k false reads states) (block_of read) ≡ Some (if is_right_read dig k read then Marked else Missing)
  decided [] states read apart (j, lt, e) within = absurd (omega arith)
  decided (first ∷ reads) states read apart (zero, lt, e) within =
      rw (← e)
      (unread_stays reads (after_read dig k false first states) (block_of first) (λ c. apart 0 (suc c.0) (block_of first) (omega arith) (omega (arith, c.1)) (sym c.2))
      ∙ read_there first states (subst (λ r. block_of r < length states) (sym e) within))
  decided (first ∷ reads) states read apart (suc j, lt, e) within =
      decided reads (after_read dig k false first states) read (λ a b d below inside. apart (suc a) (suc b) d (omega arith) (omega arith)) (j, omega arith, e)
      (omega (arith, length-read first states))

  pub reads_decide : (reads : List BlockRead) (states : List BlockState) → AllPairs (λ i j. i ≢ j) (map block_of reads)
      → DecidesEach dig k reads states (judged dig k false reads states)
  reads_decide reads states apart = record { read = λ read. decided reads states read apart; unread = unread_stays reads states }

  -- ---- blocks that wait

  pub waiting_differ : (states : List BlockState) (from count : ℕ) → AllPairs (λ i j. i ≢ j) (waiting_blocks dig k states from count)
  waiting_differ states from count = AllPairs-filter (λ i j. i ≢ j) _ (range_with_len from count) (λ i j d lt within.
      let size = length-range_with_len from count in
      let one = get_or-range_with_len from count i d (omega arith) in
      let other = get_or-range_with_len from count j d (omega arith) in
      λ e. absurd (omega arith))

  abbrev is_due : List BlockState → ℕ → Bool
  is_due states i = is_waiting_at states i && is_some (value_at dig k 0 i)

  none_past : (states : List BlockState) (i : ℕ) → length states ≤ i → is_due states i ≡ false
  none_past states i le = ap (λ s. option_map_or is_waiting s false && is_some (value_at dig k 0 i)) (slice_get_past states i le)

  none_behind : (states : List BlockState) (from count m : ℕ) → m ≡ min count (length states - from)
      → filter (is_due states) (range_with_len (from + m) (count - m)) ≡ []
  none_behind states from count m cut = elim (cases_lt (length states - from) count) [
    | inl less ↦ filter_none (is_due states) (from + m) (count - m) (λ i le. none_past states i (omega arith))
    | inr enough ↦ let none : count - m ≡ 0 = omega arith in ap (λ n. filter (is_due states) (range_with_len (from + m) n)) none
  ]

  pub waiting_inside : (states : List BlockState) (from count : ℕ)
      → waiting_blocks dig k states from count ≡ waiting_blocks dig k states from (min count (length states - from))
  waiting_inside states from count =
      let m = min count (length states - from) in
      let size : count ≡ m + (count - m) = omega arith in
      ap (waiting_blocks dig k states from) size ∙ ap (filter (is_due states)) (range_split from m (count - m))
      ∙ filter-append (is_due states) (range_with_len from m) (range_with_len (from + m) (count - m))
      ∙ ap (λ l. filter (is_due states) (range_with_len from m) ++ l) (none_behind states from count m refl) ∙ append-nil _
