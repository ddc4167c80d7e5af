-- Which blocks of a file have become marked.
use Rattle.bt_machine.proofs.Base.{[], ◌≡◌, ◌≢◌, ℕ, zero, suc, ◌+◌, ◌<◌, ◌≤◌, ◌⊎◌, inl, inr, Bool, true, false, not, ◌&&◌, List, ◌∷◌, length, map, filter, Option, Some, None, refl, sym, ap, ◌∙◌, subst, arith, cases_lt, length-set, slice_get, option_map_or, is_some, Contains, range_with_len, Facts, value_at, BlockRead, block_of, given, failed, judged, is_waiting, is_waiting_at, waiting_blocks, BlockState, Missing, Waiting, Marked}
use Rattle.std.proofs.lemmas.Bool.{cases_eq}
use Rattle.bt_store.specs.BlockStates.{is_marked}
use Rattle.bt_store.specs.Review.{is_marked_at}
use Rattle.bt_store.specs.Adoption.{marked_group}
use Rattle.bt_machine.proofs.Lists.{set_same, set_other, get_some, and_true, contains_filter, range_limits}
use Rattle.bt_machine.proofs.PeerChanges.{judged_other}
use Rattle.bt_engine_after.specs.MarksSteps.{unmarked_blocks, newly_marked}
use Rattle.bt_engine_after.proofs.Ranges.{and_not, filter_alike, filter_off, filter_within, filter_both}

marked_so : (states : List BlockState) (i : ℕ) {o : Option BlockState} → slice_get states i ≡ o → is_marked_at states i ≡ option_map_or is_marked o false
marked_so states i at = ap (λ o. option_map_or is_marked o false) at

alike_at : (old new : List BlockState) (i : ℕ) → slice_get new i ≡ slice_get old i → (is_marked_at new i && not (is_marked_at old i)) ≡ false
alike_at old new i same = ap (λ b. b && not (is_marked_at old i)) (marked_so new i same) ∙ and_not (is_marked_at old i)

pub newly_none : (states : List BlockState) → newly_marked states states ≡ []
newly_none states = filter_off (λ i. is_marked_at states i && not (is_marked_at states i)) 0 (length states) (λ i low high. and_not (is_marked_at states i))

-- ---- a group that is marked

pub length_marked : (first count : ℕ) (states : List BlockState) → length (marked_group first count states) ≡ length states
unfolding marked_group
length_marked first zero states = refl
length_marked first (suc count) states = length-set (marked_group first count states) (first + count) Marked ∙ length_marked first count states

group_other : (first count : ℕ) (states : List BlockState) (i : ℕ) → ((j : ℕ) → j < count → i ≢ first + j) → slice_get (marked_group first count states) i ≡ slice_get states i
unfolding marked_group
group_other first zero states i out = refl
group_other first (suc count) states i out =
    set_other (marked_group first count states) (first + count) i Marked (out count (omega arith)) ∙ group_other first count states i (λ j lt. out j (omega arith))

group_there : (first count : ℕ) (states : List BlockState) (i : ℕ) → first ≤ i → i < first + count → first + count ≤ length states
    → slice_get (marked_group first count states) i ≡ Some Marked
unfolding marked_group
group_there first zero states i low high inside = absurd (omega arith)
group_there first (suc count) states i low high inside = elim (cases_eq i (first + count)) [
  | inl last ↦
      let had = get_some (marked_group first count states) (first + count) (omega (arith, inside, length_marked first count states)) in
      ap (slice_get (marked_group first (suc count) states)) last ∙ set_same (marked_group first count states) (first + count) had.1
  | inr apart ↦
      set_other (marked_group first count states) (first + count) i Marked apart
      ∙ group_there first count states i low (below (omega arith) apart) (omega arith)
]
  where
    below : i < suc (first + count) → i ≢ first + count → i < first + count
    below lt apart = elim (cases_lt i (first + count)) [ inl less ↦ less | inr past ↦ absurd (apart (omega arith)) ]

pub newly_in_group : (first count : ℕ) (states : List BlockState) → first + count ≤ length states
    → newly_marked states (marked_group first count states) ≡ unmarked_blocks states first count
newly_in_group first count states inside =
    let new = marked_group first count states in
    let p : ℕ → Bool = λ i. is_marked_at (marked_group first count states) i && not (is_marked_at states i) in
    filter_within p first count (length new) (omega (arith, inside, length_marked first count states))
    (λ i lt. alike_at states new i (group_other first count states i (λ j below e. absurd (omega arith))))
    (λ i le. alike_at states new i (group_other first count states i (λ j below e. absurd (omega arith))))
    ∙ filter_alike p (λ i. not (is_marked_at states i)) first count
    (λ i low high. ap (λ b. b && not (is_marked_at states i)) (marked_so new i (group_there first count states i low high inside)))

-- ---- blocks that are judged

pub length_judged : (dig : List ℕ → List ℕ) (k : Facts) (forgiving : Bool) (reads : List BlockRead) (states : List BlockState)
    → length (judged dig k forgiving reads states) ≡ length states
length_judged dig k forgiving [] states = refl
length_judged dig k forgiving (given i bytes ∷ reads) states = length_judged dig k _ reads _ ∙ length-set states i _
length_judged dig k true (failed i ∷ reads) states = length_judged dig k true reads _
length_judged dig k false (failed i ∷ reads) states = length_judged dig k false reads _ ∙ length-set states i Missing

module _ (dig : List ℕ → List ℕ) (k : Facts) (reads : List BlockRead) (states : List BlockState) where
  -- those of blocks that lie next to each other, of which so many are read
  pub newly_known : (forgiving : Bool) (from count wide : ℕ) → map block_of reads ≡ range_with_len from count → count ≤ wide → from + wide ≤ length states
      → newly_marked states (judged dig k forgiving reads states) ≡ filter (is_marked_at (judged dig k forgiving reads states)) (unmarked_blocks states from wide)
  newly_known forgiving from count wide read few inside =
      let new = judged dig k forgiving reads states in
      let p : ℕ → Bool = λ i. is_marked_at (judged dig k forgiving reads states) i && not (is_marked_at states i) in
      filter_within p from wide (length new) (omega (arith, inside, length_judged dig k forgiving reads states))
      (λ i lt. alike_at states new i (judged_other dig k forgiving reads states i (λ c. outside i (inl lt) c)))
      (λ i le. alike_at states new i (judged_other dig k forgiving reads states i (λ c. outside i (inr le) c)))
      ∙ sym (filter_both (is_marked_at new) (λ i. not (is_marked_at states i)) (range_with_len from wide))
    where
      outside : (i : ℕ) → (i < from) ⊎ (from + wide ≤ i) → Contains (map block_of reads) i → ⊥
      outside i (inl lt) c = (let at = range_limits from count (subst (λ (xs : List ℕ). Contains xs i) read c) in absurd (omega (arith, lt, at.0)))
      outside i (inr le) c = (let at = range_limits from count (subst (λ (xs : List ℕ). Contains xs i) read c) in absurd (omega (arith, le, at.1, few)))

  -- those of all blocks that waited
  pub newly_settled : (from count : ℕ) → map block_of reads ≡ waiting_blocks dig k states from count
      → newly_marked states (judged dig k false reads states)
      ≡ filter (is_marked_at (judged dig k false reads states)) (filter (is_waiting_at states) (range_with_len 0 (length states)))
  newly_settled from count read =
      let new = judged dig k false reads states in
      ap (λ n. filter (λ i. is_marked_at (judged dig k false reads states) i && not (is_marked_at states i)) (range_with_len 0 n)) (length_judged dig k false reads states)
      ∙ filter_alike (λ i. is_marked_at (judged dig k false reads states) i && not (is_marked_at states i)) (λ i. is_marked_at (judged dig k false reads states) i && is_waiting_at states i) 0 (length states)
      (λ i low high. by i (slice_get states i) refl)
      ∙ sym (filter_both (is_marked_at new) (is_waiting_at states) (range_with_len 0 (length states)))
    where
      -- a block that did not wait was not read
      unread : (i : ℕ) → is_waiting_at states i ≡ false → slice_get (judged dig k false reads states) i ≡ slice_get states i
      unread i off = judged_other dig k false reads states i (λ c.
          let due = contains_filter (λ j. is_waiting_at states j && is_some (value_at dig k 0 j)) (range_with_len from count) (subst (λ (xs : List ℕ). Contains xs i) read c) in
          let waits = (and_true (is_waiting_at states i) due.1).0 in
          absurd cc)

      still : (i : ℕ) → is_waiting_at states i ≡ false → is_marked_at states i ≡ false → is_marked_at (judged dig k false reads states) i ≡ false
      still i off was = marked_so (judged dig k false reads states) i (unread i off) ∙ was

      same : (i : ℕ) (a b : Bool) → is_marked_at (judged dig k false reads states) i ≡ false
          → (is_marked_at (judged dig k false reads states) i && a) ≡ (is_marked_at (judged dig k false reads states) i && b)
      same i a b none = ap (λ m. m && a) none ∙ sym (ap (λ m. m && b) none)

      by : (i : ℕ) (o : Option BlockState) → slice_get states i ≡ o
          → (is_marked_at (judged dig k false reads states) i && not (is_marked_at states i)) ≡ (is_marked_at (judged dig k false reads states) i && is_waiting_at states i)
      by i (Some Waiting) at =
          ap (λ o. is_marked_at (judged dig k false reads states) i && not (option_map_or is_marked o false)) at
          ∙ sym (ap (λ o. is_marked_at (judged dig k false reads states) i && option_map_or is_waiting o false) at)
      by i (Some Marked) at =
          ap (λ o. is_marked_at (judged dig k false reads states) i && not (option_map_or is_marked o false)) at
          ∙ sym (ap (λ o. is_marked_at (judged dig k false reads states) i && option_map_or is_waiting o false) at)
      by i (Some Missing) at = same i _ _ (still i (ap (λ o. option_map_or is_waiting o false) at) (marked_so states i at))
      by i None at = same i _ _ (still i (ap (λ o. option_map_or is_waiting o false) at) (marked_so states i at))
