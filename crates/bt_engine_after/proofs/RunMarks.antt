-- Loops over the blocks of a group: which are not marked, in runs and one by one, and at which a proof begins.
use Rattle.bt_machine.proofs.Base.{[], ◌≡◌, ℕ, zero, suc, ◌+◌, ◌-◌, ◌*◌, ◌%◌, ◌^◌, ◌<◌, ◌≤◌, min, Bool, true, false, not, cond, ◌==◌, if◌then◌else◌, List, ◌∷◌, ◌++◌, length, map, take, get_or, filter, flat_map, refl, sym, ap, ◌∙◌, subst, arith, append-nil, filter-append, length-append, range_with_len, All, Contains, Contains-append_left, Contains-append_right, HeightsAreLeast, height_of-pow, answer_size, max_run_height, planned_key, sum_by, Facts, BlockState}
use Rattle.std.specs.List.{AllZip}
use Rattle.std.proofs.Common.{append_assoc}
use Rattle.std.proofs.lemmas.List.{map-append}
use Rattle.std.proofs.lemmas.List.Elements.{filter_more, All-push, All-nil, All-cons, All-head, All-tail, All-weaker, All-filter}
use Rattle.std.proofs.lemmas.List.Quantifiers.{all_pairs_push}
use Rattle.std.proofs.lemmas.List.Sums.{sum_by-cons, sum_by_more, sum_by_more_le}
use Rattle.std.specs.Int.{div_ceil}
use Rattle.bt_tree.specs.Limits.{max_block_count}
use Rattle.bt_resume.specs.Hint.{IsRun}
use Rattle.bt_resume.specs.declared.hint.Hint.{Hint}
use Rattle.bt_store.specs.Review.{is_marked_at}
use Rattle.bt_store.proofs.Reviews.{range_split}
use Rattle.bt_machine.proofs.Lists.{here}
use Rattle.bt_machine.specs.Hints.{mark_of, add_hint, add_hints}
use Rattle.bt_machine.specs.Blocks.{block_id}
use Rattle.bt_machine.specs.Adopting.{run_starts}
use Rattle.bt_engine_after.specs.declared.marks.FileRun.{FileRun}
use Rattle.bt_engine_after.specs.MarksSteps.{unmarked_blocks, marks_in, run_blocks, AreRuns, EndBefore, most_hints}
use Rattle.bt_engine_after.specs.RunProofsSteps.{run_keys}
use Rattle.bt_engine_after.proofs.Ranges.{range_more, flat_map_more, flat_map_take}
use Rattle.bt_engine_after.proofs.Hints.{add_more}

-- what a filter keeps of one number more
kept_more : (p : ℕ → Bool) (first i : ℕ) → filter p (range_with_len first (i + 1)) ≡ filter p (range_with_len first i) ++ cond (p (first + i)) ((first + i) ∷ []) []
kept_more p first i = ap (filter p) (range_more first i) ∙ filter-append p (range_with_len first i) ((first + i) ∷ [])

pub kept_so : (p : ℕ → Bool) (first i : ℕ) → p (first + i) ≡ true → filter p (range_with_len first (i + 1)) ≡ filter p (range_with_len first i) ++ (first + i) ∷ []
kept_so p first i on = kept_more p first i ∙ ap (λ b. filter p (range_with_len first i) ++ cond b ((first + i) ∷ []) []) on

pub dropped_so : (p : ℕ → Bool) (first i : ℕ) → p (first + i) ≡ false → filter p (range_with_len first (i + 1)) ≡ filter p (range_with_len first i)
dropped_so p first i off =
    kept_more p first i ∙ ap (λ b. filter p (range_with_len first i) ++ cond b ((first + i) ∷ []) []) off ∙ append-nil (filter p (range_with_len first i))

-- ---- blocks that are not marked

module _ (states : List BlockState) (first i : ℕ) where
  pub unmarked_kept : is_marked_at states (first + i) ≡ false → unmarked_blocks states first (i + 1) ≡ unmarked_blocks states first i ++ (first + i) ∷ []
  unmarked_kept off = kept_so (λ j. not (is_marked_at states j)) first i (ap not off)

  pub unmarked_dropped : is_marked_at states (first + i) ≡ true → unmarked_blocks states first (i + 1) ≡ unmarked_blocks states first i
  unmarked_dropped on = dropped_so (λ j. not (is_marked_at states j)) first i (ap not on)

-- ---- blocks of a kind, in runs

module _ (p : ℕ → Bool) (first i : ℕ) (runs : List FileRun) (current : FileRun) (so_far : flat_map run_blocks runs ++ run_blocks current ≡ filter p (range_with_len first i))
    (ends : current.first + current.count ≡ first + i) where
  pub run_goes_on : p (first + i) ≡ true → flat_map run_blocks runs ++ range_with_len current.first (current.count + 1) ≡ filter p (range_with_len first (i + 1))
  run_goes_on on =
      ap (λ xs. flat_map run_blocks runs ++ xs) (range_more current.first current.count)
      ∙ sym (append_assoc (flat_map run_blocks runs) (run_blocks current) ((current.first + current.count) ∷ []))
      ∙ ap (λ xs. xs ++ (current.first + current.count) ∷ []) so_far ∙ ap (λ b. filter p (range_with_len first i) ++ b ∷ []) ends ∙ sym (kept_so p first i on)

  pub run_ends : (more : List FileRun) → flat_map run_blocks more ≡ flat_map run_blocks runs ++ run_blocks current → p (first + i) ≡ false
      → flat_map run_blocks more ++ [] ≡ filter p (range_with_len first (i + 1))
  run_ends more closed off = append-nil (flat_map run_blocks more) ∙ closed ∙ so_far ∙ sym (dropped_so p first i off)

no_more : (n : ℕ) → n ≤ 0 → n ≡ 0
no_more n le = omega arith

pub no_blocks : (run : FileRun) → run.count ≤ 0 → run_blocks run ≡ []
no_blocks run none = ap (range_with_len run.first) (no_more run.count none)

pub run_put : (runs : List FileRun) (run : FileRun) → flat_map run_blocks (runs ++ run ∷ []) ≡ flat_map run_blocks runs ++ run_blocks run
run_put runs run = flat_map_more run_blocks runs (run ∷ []) ∙ ap (λ xs. flat_map run_blocks runs ++ xs) (append-nil (run_blocks run))

pub run_empty : (runs : List FileRun) (run : FileRun) → run.count ≤ 0 → flat_map run_blocks runs ≡ flat_map run_blocks runs ++ run_blocks run
run_empty runs run none = sym (append-nil (flat_map run_blocks runs)) ∙ ap (λ xs. flat_map run_blocks runs ++ xs) (sym (no_blocks run none))

pub no_runs : AreRuns []
no_runs = record { each = All-nil (λ (r : FileRun). IsRun r.first r.count); apart = λ i j d lt within. absurd (omega arith) }

pub are_more : (runs : List FileRun) (run : FileRun) → AreRuns runs → EndBefore run.first runs → 0 < run.count → run.first + run.count ≤ max_block_count → AreRuns (runs ++ run ∷ [])
are_more runs run are before some within = record {
  each = All-push (λ (r : FileRun). IsRun r.first r.count) runs run are.each (record { some = some; within = within });
  apart = all_pairs_push (λ (r later : FileRun). r.first + r.count < later.first) runs run are.apart (λ k d lt. before k d lt);
}

pub ends_later : (runs : List FileRun) (low high : ℕ) → low ≤ high → EndBefore low runs → EndBefore high runs
ends_later runs low high le before =
    All-weaker (λ (r : FileRun). r.first + r.count < low) (λ (r : FileRun). r.first + r.count < high) (λ r lt. omega (arith, lt, le)) runs before

pub ends_more : (runs : List FileRun) (run : FileRun) → EndBefore run.first runs → EndBefore (run.first + run.count + 1) (runs ++ run ∷ [])
ends_more runs run before =
    All-push (λ (r : FileRun). r.first + r.count < run.first + run.count + 1) runs run (ends_later runs run.first (run.first + run.count + 1) (omega arith) before) (omega arith)

-- ---- how many hints the marks of runs take at most

-- runs that lie apart have no more blocks than a file may have, from where the first of them begins
hints_within : (runs : List FileRun) (low : ℕ) → low ≤ max_block_count → All (λ r. low ≤ r.first) runs → AreRuns runs → low + most_hints runs ≤ max_block_count
hints_within [] low inside from are = omega (arith, inside)
hints_within (run ∷ runs) low inside from are =
    let starts : low ≤ run.first = All-head (λ (r : FileRun). low ≤ r.first) run runs from in
    let own : IsRun run.first run.count = All-head (λ (r : FileRun). IsRun r.first r.count) run runs are.each in
    let rest = hints_within runs (run.first + run.count) own.within later
    (record { each = All-tail (λ (r : FileRun). IsRun r.first r.count) run runs are.each; apart = λ i j d lt within. are.apart (suc i) (suc j) d (omega (arith, lt)) (omega (arith, within)) }) in
    omega (arith, starts, rest, own.some, half run.count, sum_by-cons (λ (r : FileRun). div_ceil r.count 2) run runs)
  where
    half : (n : ℕ) → div_ceil n 2 ≤ n
    half n = omega arith

    later : All (λ r. run.first + run.count ≤ r.first) runs
    later = λ k d lt. (let apart = are.apart zero (suc k) d (omega arith) (omega (arith, lt)) in omega (arith, apart))

pub few_hints : (runs : List FileRun) → AreRuns runs → most_hints runs ≤ max_block_count
few_hints runs are = omega (arith, hints_within runs 0 (omega arith) (λ k d lt. omega arith) are)

-- runs that leave no hint have no block
pub no_hints : (runs : List FileRun) → AreRuns runs → most_hints runs ≤ 0 → runs ≡ []
no_hints [] are none = refl
no_hints (run ∷ runs) are none =
    let own : IsRun run.first run.count = All-head (λ (r : FileRun). IsRun r.first r.count) run runs are.each in
    absurd (omega (arith, none, own.some, half run.count own.some, sum_by-cons (λ (r : FileRun). div_ceil r.count 2) run runs))
  where
    half : (n : ℕ) → 0 < n → 0 < div_ceil n 2
    half n some = omega arith

-- ---- sums over a list, with one element more, and room for them

module _ {X : Type 0} (f : X → ℕ) (xs : List X) (i : ℕ) {x : X} (d : X) (lt : i < length xs) (is : x ≡ get_or xs i d) where
  pub room_for_one : (old left : ℕ) → sum_by f xs ≤ old → old ≤ left + sum_by f (take i xs) → f x ≤ left
  room_for_one old left has so_far =
      let own : f x ≡ f (get_or xs i d) = ap f is in
      omega (arith, has, so_far, own, sum_by_more_le f xs i d lt)

  pub room_with_one : (old left new : ℕ) → old ≤ left + sum_by f (take i xs) → left ≤ new + f x → old ≤ new + sum_by f (take (i + 1) xs)
  room_with_one old left new so_far more =
      let own : f x ≡ f (get_or xs i d) = ap f is in
      omega (arith, so_far, more, own, sum_by_more f xs i d lt)

  pub sum_fits : (most sum more : ℕ) → sum_by f xs ≤ most → sum ≡ sum_by f (take i xs) → more ≡ f x → sum + more ≤ most
  sum_fits most sum more has so_far is_more =
      let own : f x ≡ f (get_or xs i d) = ap f is in
      omega (arith, has, so_far, is_more, own, sum_by_more_le f xs i d lt)

  pub sum_with_one : (sum more : ℕ) → sum ≡ sum_by f (take i xs) → more ≡ f x → sum + more ≡ sum_by f (take (i + 1) xs)
  sum_with_one sum more so_far is_more =
      let own : f x ≡ f (get_or xs i d) = ap f is in
      omega (arith, so_far, is_more, own, sum_by_more f xs i d lt)

-- ---- marks that are left one after the other

pub marks_then : (file : ℕ) (old : List Hint) (xs ys : List ℕ) → add_hints (add_hints old (marks_in file xs)) (marks_in file ys) ≡ add_hints old (marks_in file (xs ++ ys))
marks_then file old xs ys = sym (add_more old (marks_in file xs) (marks_in file ys)) ∙ ap (add_hints old) (sym (map-append (λ j. mark_of (block_id file j)) xs ys))

-- a run of marked blocks goes on, or ends at a block that is not marked
module _ (states : List BlockState) (file first i : ℕ) (run : FileRun) (old hints : List Hint)
    (so_far : add_hints hints (marks_in file (run_blocks run)) ≡ add_hints old (marks_in file (filter (is_marked_at states) (range_with_len first i)))) where
  pub marked_goes_on : run.first + run.count ≡ first + i → is_marked_at states (first + i) ≡ true
      → add_hints hints (marks_in file (range_with_len run.first (run.count + 1))) ≡ add_hints old (marks_in file (filter (is_marked_at states) (range_with_len first (i + 1))))
  marked_goes_on ends on =
      let before = filter (is_marked_at states) (range_with_len first i) in
      ap (λ bs. add_hints hints (marks_in file bs)) (range_more run.first run.count)
      ∙ sym (marks_then file hints (run_blocks run) ((run.first + run.count) ∷ []))
      ∙ ap (λ hs. add_hints hs (marks_in file ((run.first + run.count) ∷ []))) so_far
      ∙ ap (λ b. add_hints (add_hints old (marks_in file (filter (is_marked_at states) (range_with_len first i)))) (marks_in file (b ∷ []))) ends
      ∙ marks_then file old before ((first + i) ∷ [])
      ∙ ap (λ bs. add_hints old (marks_in file bs)) (sym (kept_so (is_marked_at states) first i on))

  pub marked_ends : is_marked_at states (first + i) ≡ false → (new : List Hint) → new ≡ add_hints hints (marks_in file (run_blocks run))
      → new ≡ add_hints old (marks_in file (filter (is_marked_at states) (range_with_len first (i + 1))))
  marked_ends off new left = left ∙ so_far ∙ ap (λ bs. add_hints old (marks_in file bs)) (sym (dropped_so (is_marked_at states) first i off))

-- Between two runs of marked blocks there is one that is not, so each takes room for two blocks at most.
up_by_half : (n : ℕ) → n ≤ 2 * div_ceil n 2
up_by_half n = omega arith

pub room_left : (count i marked old left : ℕ) → i ≤ count → div_ceil count 2 ≤ old → 2 * old + marked ≤ 2 * left + i → min marked 1 ≤ left
room_left count i marked old left le had so_far = omega (arith, le, had, so_far, up_by_half count)

pub room_then : (i marked old left new : ℕ) → 2 * old + marked ≤ 2 * left + i → left ≤ new + min marked 1 → 2 * old ≤ 2 * new + (i + 1)
room_then i marked old left new so_far more = omega (arith, so_far, more)

-- the marked blocks of one run more
pub marked_more : (states : List BlockState) (file : ℕ) (runs : List FileRun) (i : ℕ) {run : FileRun} (d : FileRun) → i < length runs → run ≡ get_or runs i d → (old : List Hint) {hints new : List Hint}
    → hints ≡ add_hints old (marks_in file (filter (is_marked_at states) (flat_map run_blocks (take i runs))))
    → new ≡ add_hints hints (marks_in file (filter (is_marked_at states) (run_blocks run)))
    → new ≡ add_hints old (marks_in file (filter (is_marked_at states) (flat_map run_blocks (take (i + 1) runs))))
marked_more states file runs i {run} d lt is old {hints} {new} so_far left =
    let before = flat_map run_blocks (take i runs) in
    left ∙ ap (λ hs. add_hints hs (marks_in file (filter (is_marked_at states) (run_blocks run)))) so_far
    ∙ marks_then file old (filter (is_marked_at states) before) (filter (is_marked_at states) (run_blocks run))
    ∙ ap (λ bs. add_hints old (marks_in file bs)) (sym (filter-append (is_marked_at states) before (run_blocks run)))
    ∙ ap (λ bs. add_hints old (marks_in file (filter (is_marked_at states) bs))) (sym (flat_map_take run_blocks runs i d lt is))

-- the mark of one block more, where it is marked
pub marks_more : (states : List BlockState) (file : ℕ) (blocks : List ℕ) (i : ℕ) {b : ℕ} (d : ℕ) → i < length blocks → b ≡ get_or blocks i d → (old hints : List Hint)
    → hints ≡ add_hints old (marks_in file (filter (is_marked_at states) (take i blocks))) → (is : Bool) → is_marked_at states b ≡ is → (new : List Hint)
    → new ≡ (if is then add_hint hints (mark_of (block_id file b)) else hints) → new ≡ add_hints old (marks_in file (filter (is_marked_at states) (take (i + 1) blocks)))
marks_more states file blocks i {b} d lt at old hints so_far is e new next =
    let test = is_marked_at states in
    let before = filter test (take i blocks) in
    next ∙ by is e
    ∙ ap (λ c. add_hints old (marks_in file (before ++ cond (test c) (c ∷ []) []))) at
    ∙ ap (λ xs. add_hints old (marks_in file xs)) (sym (filter_more test blocks i d lt))
  where
    by : (t : Bool) → is_marked_at states b ≡ t → (if t then add_hint hints (mark_of (block_id file b)) else hints)
        ≡ add_hints old (marks_in file (filter (is_marked_at states) (take i blocks) ++ cond (is_marked_at states b) (b ∷ []) []))
    by true e =
        let before = filter (is_marked_at states) (take i blocks) in
        ap (λ hs. add_hint hs (mark_of (block_id file b))) so_far ∙ sym (add_more old (marks_in file before) (mark_of (block_id file b) ∷ []))
        ∙ ap (add_hints old) (sym (map-append (λ j. mark_of (block_id file j)) before (b ∷ [])))
        ∙ ap (λ t. add_hints old (marks_in file (filter (is_marked_at states) (take i blocks) ++ cond t (b ∷ []) []))) (sym e)
    by false e =
        so_far ∙ ap (λ xs. add_hints old (marks_in file xs)) (sym (append-nil (filter (is_marked_at states) (take i blocks))))
        ∙ ap (λ t. add_hints old (marks_in file (filter (is_marked_at states) (take i blocks) ++ cond t (b ∷ []) []))) (sym e)

-- ---- they lie where a file's blocks may

range_within : (a n : ℕ) → a + n ≤ max_block_count → All (λ b. b < max_block_count) (range_with_len a n)
range_within a zero low = All-nil (λ b. b < max_block_count)
range_within a (suc n) low = All-cons (λ b. b < max_block_count) a (range_with_len (a + 1) n) (omega arith) (range_within (a + 1) n (omega arith))

pub unmarked_within : (states : List BlockState) (first count : ℕ) → first + count ≤ max_block_count → All (λ b. b < max_block_count) (unmarked_blocks states first count)
unmarked_within states first count low =
    All-filter (λ i. not (is_marked_at states i)) (λ b. b < max_block_count) (range_with_len first count) (range_within first count low)

-- ---- runs of proofs

-- how many digests a proof has
pub room_size : HeightsAreLeast → (anchor : ℕ) → 0 < anchor → answer_size (2 ^ min anchor max_run_height) (anchor - 1) ≡ 2 ^ min anchor 9 + (anchor - min anchor 9)
room_size heights anchor above =
    ap (λ h. 2 ^ min anchor 9 + (anchor - 1 - (h - 1))) (height_of-pow heights (2 ^ min anchor 9) (min anchor 9) refl)
    ∙ ap (λ n. 2 ^ min anchor 9 + n) (omega (arith, above))

module _ (anchor first i : ℕ) where
  pub starts_kept : ((first + i) % 2 ^ min anchor max_run_height == 0) ≡ true
      → run_starts anchor (range_with_len first (i + 1)) ≡ run_starts anchor (range_with_len first i) ++ (first + i) ∷ []
  starts_kept on = kept_so (λ j. j % 2 ^ min anchor max_run_height == 0) first i on

  pub starts_dropped : ((first + i) % 2 ^ min anchor max_run_height == 0) ≡ false
      → run_starts anchor (range_with_len first (i + 1)) ≡ run_starts anchor (range_with_len first i)
  starts_dropped off = dropped_so (λ j. j % 2 ^ min anchor max_run_height == 0) first i off

  pub count_kept : ((first + i) % 2 ^ min anchor max_run_height == 0) ≡ true
      → length (run_starts anchor (range_with_len first (i + 1))) ≡ length (run_starts anchor (range_with_len first i)) + 1
  count_kept on = ap (λ xs. length xs) (starts_kept on) ∙ length-append (run_starts anchor (range_with_len first i)) ((first + i) ∷ [])

  pub count_dropped : ((first + i) % 2 ^ min anchor max_run_height == 0) ≡ false
      → length (run_starts anchor (range_with_len first (i + 1))) ≡ length (run_starts anchor (range_with_len first i))
  count_dropped off = ap (λ xs. length xs) (starts_dropped off)

  module _ (k : Facts) where
    pub keys_kept : ((first + i) % 2 ^ min anchor max_run_height == 0) ≡ true
        → run_keys k anchor (range_with_len first (i + 1)) ≡ run_keys k anchor (range_with_len first i) ++ planned_key k (first + i) anchor ∷ []
    keys_kept on =
        ap (map (λ j. planned_key k j anchor)) (starts_kept on) ∙ map-append (λ j. planned_key k j anchor) (run_starts anchor (range_with_len first i)) ((first + i) ∷ [])

    pub keys_dropped : ((first + i) % 2 ^ min anchor max_run_height == 0) ≡ false
        → run_keys k anchor (range_with_len first (i + 1)) ≡ run_keys k anchor (range_with_len first i)
    keys_dropped off = ap (map (λ j. planned_key k j anchor)) (starts_dropped off)

  module _ (count : ℕ) (inside : i < count) where
    -- the blocks are those up to this one, and others
    splits : run_starts anchor (range_with_len first count)
        ≡ run_starts anchor (range_with_len first (i + 1)) ++ run_starts anchor (range_with_len (first + (i + 1)) (count - (i + 1)))
    splits =
        let split : count ≡ (i + 1) + (count - (i + 1)) = omega (arith, inside) in
        let p : ℕ → Bool = λ j. j % 2 ^ min anchor max_run_height == 0 in
        ap (λ n. run_starts anchor (range_with_len first n)) split ∙ ap (run_starts anchor) (range_split first (i + 1) (count - (i + 1)))
        ∙ filter-append p (range_with_len first (i + 1)) (range_with_len (first + (i + 1)) (count - (i + 1)))

    pub count_left : ((first + i) % 2 ^ min anchor max_run_height == 0) ≡ true
        → length (run_starts anchor (range_with_len first i)) < length (run_starts anchor (range_with_len first count))
    count_left on =
        let later = run_starts anchor (range_with_len (first + (i + 1)) (count - (i + 1))) in
        omega (arith, ap (λ xs. length xs) splits, length-append (run_starts anchor (range_with_len first (i + 1))) later, count_kept on)

    pub key_among : (k : Facts) → ((first + i) % 2 ^ min anchor max_run_height == 0) ≡ true → Contains (run_keys k anchor (range_with_len first count)) (planned_key k (first + i) anchor)
    key_among k on =
        let later = run_keys k anchor (range_with_len (first + (i + 1)) (count - (i + 1))) in
        let key = planned_key k (first + i) anchor in
        subst (λ xs. Contains xs key)
        (sym (ap (map (λ j. planned_key k j anchor)) splits ∙ map-append (λ j. planned_key k j anchor) (run_starts anchor (range_with_len first (i + 1))) (run_starts anchor (range_with_len (first + (i + 1)) (count - (i + 1))))))
        (Contains-append_left (run_keys k anchor (range_with_len first (i + 1))) later key
        (subst (λ xs. Contains xs key) (sym (keys_kept k on)) (Contains-append_right (run_keys k anchor (range_with_len first i)) (key ∷ []) key (here [] refl))))

-- a proof by one key more
pub zip_more : {X Y : Type 0} (R : X → Y → Type 0) (xs : List X) (ys : List Y) (x : X) (y : Y) → AllZip R xs ys → R x y → AllZip R (xs ++ x ∷ []) (ys ++ y ∷ [])
zip_more R [] [] x y zip one = (one, tt)
zip_more R [] (b ∷ ys) x y zip one = absurd zip
zip_more R (a ∷ xs) [] x y zip one = absurd zip
zip_more R (a ∷ xs) (b ∷ ys) x y zip one = (zip.0, zip_more R xs ys x y zip.1 one)
