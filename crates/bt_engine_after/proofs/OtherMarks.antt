-- Blocks that wait, and what is left of them for a log once they are settled.
use Rattle.bt_machine.proofs.Base.{[], ◌≡◌, ◌≢◌, ℕ, zero, suc, ◌+◌, ◌-◌, ◌<◌, ◌≤◌, inl, inr, Bool, true, false, not, cond, if◌then◌else◌, ◌==◌, List, ◌∷◌, ◌++◌, length, map, take, get_or, filter, flat_map, Option, Some, None, is_some, refl, sym, ap, ◌∙◌, subst, arith, append-nil, length-map, filter-append, slice_get, option_map_or, range_with_len, cases_lt, eq-eqb, eqb-true, is_waiting, is_waiting_at, BlockState, Missing, Waiting, Marked, BlockId}
use Rattle.std.specs.List.{count_by}
use Rattle.std.proofs.lemmas.Bool.{ne_eqb}
use Rattle.std.proofs.lemmas.List.{map-append}
use Rattle.std.proofs.lemmas.List.Elements.{filter_agree, All-head, All-tail}
use Rattle.bt_store.specs.Review.{is_marked_at}
use Rattle.bt_engine_state.proofs.Lists.{filter_mapped}
use Rattle.std.proofs.lemmas.List.Sums.{sum_by-cons}
use Rattle.bt_store.specs.FileStore.{StoreView}
use Rattle.bt_machine.specs.declared.answer.Note.{Note}
use Rattle.bt_machine.specs.State.{EngineState, FileState, Hint, mark_of}
use Rattle.bt_machine.specs.Hints.{add_hints}
use Rattle.bt_machine.specs.Devices.{DeviceCalls, HaveCalls}
use Rattle.bt_machine.specs.Blocks.{block_id, new_marked_blocks}
use Rattle.bt_machine.specs.Next.{with_pending}
use Rattle.bt_machine.specs.Settling.{SettlesIn}
use Rattle.bt_machine.specs.Adopting.{is_other}
use Rattle.bt_engine_state.specs.Parts.{state_of, file_of, disks_of, pending_of}
use Rattle.bt_engine_state.specs.declared.slot.Slot.{Slot}
use Rattle.bt_engine_state.specs.declared.parts.Parts.{Parts}
use Rattle.bt_machine.proofs.Lists.{get_some}
use Rattle.bt_engine_state.proofs.Lists.{get_mapped}
use Rattle.bt_engine_state.proofs.Chains.{NoneOfTree}
use Rattle.bt_engine_after.specs.PartsSteps.{KeepsRest, block_count_of_tree}
use Rattle.bt_engine_after.specs.SettlingSteps.{SettlesFiles, SettlesOthers, IsDue}
use Rattle.bt_tree.specs.Limits.{max_block_count}
use Rattle.bt_engine_after.specs.declared.marks.FileRun.{FileRun}
use Rattle.bt_engine_after.specs.MarksSteps.{marks_in, run_blocks, AreRuns, most_hints}
use Rattle.bt_engine_after.specs.WaitingSteps.{OnlyPendingChanges, is_marked_among, waiting_blocks_in, waiting_in, waiting_in_others, listed_in, listed_blocks, AreListed, most_hints_of_all}
use Rattle.bt_engine_after.specs.declared.waiting.FileRuns.{FileRuns}
use Rattle.bt_engine_after.proofs.Ranges.{range_more, flat_map_more, flat_map_take, filter_off, keeps_none}
use Rattle.bt_engine_after.proofs.Hints.{add_more}
use Rattle.bt_engine_after.proofs.RunMarks.{few_hints, no_hints}
use Rattle.bt_engine_after.proofs.News.{all_listed, marked_of, map_both}
use Rattle.bt_engine_after.proofs.Logs.{logged_same, state_with, state_same, same_disks}
use Rattle.bt_disk.specs.Conduct.{Conduct}

-- ---- listing

abbrev step_ids : (file tree : ℕ) → List FileState → ℕ → List BlockId
step_ids file tree files other = if is_other file other then waiting_in tree files other else []

-- those of the files before a number
abbrev pub waiting_before : (file tree : ℕ) → List FileState → (count : ℕ) → List BlockId
waiting_before file tree files count = flat_map (step_ids file tree files) (range_with_len 0 count)

others_more : (file tree : ℕ) (files : List FileState) (i : ℕ) → waiting_before file tree files (i + 1) ≡ waiting_before file tree files i ++ step_ids file tree files i
others_more file tree files i =
    ap (flat_map (step_ids file tree files)) (range_more 0 i)
    ∙ flat_map_more (step_ids file tree files) (range_with_len 0 i) ((0 + i) ∷ [])
    ∙ ap (λ xs. waiting_before file tree files i ++ xs) (append-nil (step_ids file tree files (0 + i)) ∙ ap (step_ids file tree files) zero_more)
  where
    zero_more : 0 + i ≡ i
    zero_more = omega arith

module _ (file tree : ℕ) (files : List FileState) (i : ℕ) {ids : List BlockId} (so_far : ids ≡ waiting_before file tree files i) where
  pub listed_own : i ≡ file → ids ≡ waiting_before file tree files (i + 1)
  listed_own own =
      so_far ∙ sym (append-nil (waiting_before file tree files i))
      ∙ ap (λ b. waiting_before file tree files i ++ (if b then [] else waiting_in tree files i)) (sym (eq-eqb i file own)) ∙ same_if (i == file) ∙ sym (others_more file tree files i)
    where
      same_if : (b : Bool) → waiting_before file tree files i ++ (if b then [] else waiting_in tree files i) ≡ waiting_before file tree files i ++ (if not b then waiting_in tree files i else [])
      same_if true = refl
      same_if false = refl

  pub listed_other : {f : FileState} {new : List BlockId} → i ≢ file → slice_get files i ≡ Some f → new ≡ ids ++ map (block_id i) (waiting_blocks_in tree f) → new ≡ waiting_before file tree files (i + 1)
  listed_other {f} apart at more =
      more ∙ ap (λ xs. xs ++ map (block_id i) (waiting_blocks_in tree f)) so_far
      ∙ ap (λ o. waiting_before file tree files i ++ map (block_id i) (option_map_or (waiting_blocks_in tree) o [])) (sym at)
      ∙ ap (λ b. waiting_before file tree files i ++ (if not b then waiting_in tree files i else [])) (sym (ne_eqb i file apart))
      ∙ sym (others_more file tree files i)

-- a file of which nothing is due
none_waits : (states : List BlockState) → count_by is_waiting states ≡ 0 → (i : ℕ) → is_waiting_at states i ≡ false
none_waits [] none i = refl
none_waits (Missing ∷ states) none zero = refl
none_waits (Missing ∷ states) none (suc i) = none_waits states (omega (arith, none, sum_by-cons (λ x. cond (is_waiting x) 1 0) Missing states)) i
none_waits (Waiting ∷ states) none i = absurd (omega (arith, none, sum_by-cons (λ x. cond (is_waiting x) 1 0) Waiting states))
none_waits (Marked ∷ states) none zero = refl
none_waits (Marked ∷ states) none (suc i) = none_waits states (omega (arith, none, sum_by-cons (λ x. cond (is_waiting x) 1 0) Marked states)) i

module _ {D H : Type 0} (slot : Slot D H) (tree : ℕ) where
  pub not_due : (IsDue tree slot → ⊥) → waiting_blocks_in tree (file_of slot) ≡ []
  not_due due = by (slot.tree == tree) refl
    where
      waits : (store : Option (StoreView D)) → slot.store ≡ store → slot.tree ≡ tree → count_by is_waiting (option_map_or (λ st. st.states) store []) ≡ 0
      waits None has same = refl
      waits (Some store) has same = elim (cases_lt 0 (count_by is_waiting store.states)) [
        | inl some ↦ absurd (due (record { store = store; has = has; of_tree = same; waits = some }))
        | inr none ↦ omega (arith, none)
      ]

      by : (b : Bool) → (slot.tree == tree) ≡ b
          → (if b then filter (is_waiting_at (file_of slot).states) (range_with_len 0 (length (file_of slot).states)) else []) ≡ []
      by true e =
          filter_off (is_waiting_at (file_of slot).states) 0 (length (file_of slot).states)
          (λ i low high. none_waits (file_of slot).states (waits slot.store refl (eqb-true slot.tree tree e)) i)
      by false e = refl

  -- the blocks of a file that is of the tree
  pub due_blocks : {store : StoreView D} → slot.store ≡ Some store → slot.tree ≡ tree
      → waiting_blocks_in tree (file_of slot) ≡ filter (is_waiting_at store.states) (range_with_len 0 (length store.states))
  due_blocks {store} has same =
      ap (λ b. if b then filter (is_waiting_at (file_of slot).states) (range_with_len 0 (length (file_of slot).states)) else []) (eq-eqb slot.tree tree same)
      ∙ ap (λ o. filter (is_waiting_at (option_map_or (λ (st : StoreView D). st.states) o [])) (range_with_len 0 (length (option_map_or (λ (st : StoreView D). st.states) o [])))) has

-- files that are not of the tree are passed
module _ {D H : Type 0} (file tree : ℕ) (slots : List (Slot D H)) where
  none_of_it : (i : ℕ) {slot : Slot D H} → slice_get slots i ≡ Some slot → (slot.tree ≡ tree → slot.store ≡ None) → step_ids file tree (map file_of slots) i ≡ []
  none_of_it i {slot} at off = by (is_other file i)
    where
      nothing : waiting_in tree (map file_of slots) i ≡ []
      nothing =
          ap (λ o. map (block_id i) (option_map_or (waiting_blocks_in tree) o [])) (get_mapped file_of slots i at)
          ∙ ap (map (block_id i)) (not_due slot tree (λ due. absurd (let none = off due.of_tree in let has = due.has in cc)))

      by : (b : Bool) → (if b then waiting_in tree (map file_of slots) i else []) ≡ []
      by true = nothing
      by false = refl

  passed : (gap i : ℕ) → i + gap ≤ length slots → NoneOfTree slots tree i (i + gap)
      → waiting_before file tree (map file_of slots) (i + gap) ≡ waiting_before file tree (map file_of slots) i
  passed zero i inside none = ap (waiting_before file tree (map file_of slots)) (omega arith)
  passed (suc gap) i inside none =
      let slot = get_some slots i (omega (arith, inside)) in
      let step : (i + 1) + gap ≡ i + suc gap = omega arith in
      ap (waiting_before file tree (map file_of slots)) (sym step)
      ∙ passed gap (i + 1) (omega (arith, inside)) (λ j s low lt. none j s (omega (arith, low)) (omega (arith, lt)))
      ∙ others_more file tree (map file_of slots) i
      ∙ ap (λ xs. waiting_before file tree (map file_of slots) i ++ xs) (none_of_it i slot.1 (none i slot.0 (omega arith) (omega arith) slot.1))
      ∙ append-nil (waiting_before file tree (map file_of slots) i)

  pub listed_past : (i j : ℕ) {ids : List BlockId} → ids ≡ waiting_before file tree (map file_of slots) i → i ≤ j → j ≤ length slots → NoneOfTree slots tree i j
      → ids ≡ waiting_before file tree (map file_of slots) j
  listed_past i j so_far low inside none =
      let whole : i + (j - i) ≡ j = omega (arith, low) in
      so_far
      ∙ sym (ap (waiting_before file tree (map file_of slots)) (sym whole)
      ∙ passed (j - i) i (omega (arith, low, inside)) (λ n s from lt. none n s from (omega (arith, lt, low))))

-- the blocks of one file more are listed
pub listed_put : (files : List FileRuns) (one : FileRuns) → listed_blocks (files ++ one ∷ []) ≡ listed_blocks files ++ listed_in one
listed_put files one = flat_map_more listed_in files (one ∷ []) ∙ ap (λ xs. listed_blocks files ++ xs) (append-nil (listed_in one))

-- ---- room for their marks

-- the marks of one file's blocks take no more hints than a file may have blocks
pub few_in : (listed : List FileRuns) → AreListed listed → (i : ℕ) {one : FileRuns} → i < length listed → one ≡ get_or listed i one → {runs : List FileRun} → runs ≡ one.runs.items
    → most_hints runs ≤ max_block_count
few_in listed are i {one} lt is {runs} same =
    let own : AreRuns one.runs.items = subst (λ (x : FileRuns). AreRuns x.runs.items) (sym is) (are i one lt) in
    let alike : most_hints runs ≡ most_hints one.runs.items = ap (λ (xs : List FileRun). most_hints xs) same in
    omega (arith, alike, few_hints one.runs.items own)

-- those that leave no hint are none
pub none_listed : (listed : List FileRuns) → AreListed listed → most_hints_of_all listed ≤ 0 → listed_blocks listed ≡ []
none_listed [] are none = refl
none_listed (one ∷ listed) are none =
    let sum = sum_by-cons (λ (x : FileRuns). most_hints x.runs.items) one listed in
    let own : flat_map run_blocks one.runs.items ≡ [] =
    ap (flat_map run_blocks) (no_hints one.runs.items (All-head (λ (x : FileRuns). AreRuns x.runs.items) one listed are) (omega (arith, none, sum))) in
    ap (λ xs. map (block_id one.file) xs ++ listed_blocks listed) own
    ∙ none_listed listed (All-tail (λ (x : FileRuns). AreRuns x.runs.items) one listed are) (omega (arith, none, sum))

-- ---- marks of those that are marked then

-- those of one file more
pub settled_more : (files : List FileRuns) (test : BlockId → Bool) (i : ℕ) {one : FileRuns} (d : FileRuns) → i < length files → one ≡ get_or files i d → (old : List Hint) {hints new : List Hint}
    → hints ≡ add_hints old (map (λ c. mark_of c) (filter test (listed_blocks (take i files))))
    → new ≡ add_hints hints (map (λ c. mark_of c) (filter test (listed_in one)))
    → new ≡ add_hints old (map (λ c. mark_of c) (filter test (listed_blocks (take (i + 1) files))))
settled_more files test i {one} d lt is old {hints} {new} so_far left =
    let before = filter test (listed_blocks (take i files)) in
    let more = filter test (listed_in one) in
    left ∙ ap (λ hs. add_hints hs (map (λ c. mark_of c) (filter test (listed_in one)))) so_far
    ∙ sym (add_more old (map (λ c. mark_of c) before) (map (λ c. mark_of c) more))
    ∙ ap (add_hints old) (sym (map-append (λ c. mark_of c) before more))
    ∙ ap (λ xs. add_hints old (map (λ c. mark_of c) xs)) (sym (filter-append test (listed_blocks (take i files)) (listed_in one)))
    ∙ ap (λ xs. add_hints old (map (λ c. mark_of c) (filter test xs))) (sym (flat_map_take listed_in files i d lt is))

module _ (files : List FileState) (file : ℕ) (blocks : List ℕ) where
  -- in a file that is there
  pub settled_here : {f : FileState} → slice_get files file ≡ Some f
      → marks_in file (filter (is_marked_at f.states) blocks) ≡ map (λ b. mark_of b) (filter (is_marked_among files) (map (block_id file) blocks))
  settled_here {f} at =
      sym (map_both file (filter (is_marked_at f.states) blocks))
      ∙ ap (λ bs. map (λ b. mark_of b) (map (block_id file) bs))
      (filter_agree (is_marked_at f.states) (λ i. is_marked_among files (block_id file i)) (λ i. sym (marked_of files (block_id file i) at)) blocks)
      ∙ ap (map (λ b. mark_of b)) (filter_mapped (block_id file) (is_marked_among files) blocks)

  -- and in none
  pub settled_nowhere : slice_get files file ≡ None → [] ≡ map (λ b. mark_of b) (filter (is_marked_among files) (map (block_id file) blocks))
  settled_nowhere none =
      ap (map (λ b. mark_of b))
      (sym (ap (map (block_id file)) (filter_agree (λ i. is_marked_among files (block_id file i)) (λ i. false)
      (λ i. ap (λ o. option_map_or (λ (f : FileState). is_marked_at f.states i) o false) none) blocks ∙ keeps_none blocks))
      ∙ filter_mapped (block_id file) (is_marked_among files) blocks)

-- the states of a slot's file
pub states_by : {D H : Type 0} (slot : Slot D H) {store : Option (StoreView D)} → slot.store ≡ store → (file_of slot).states ≡ option_map_or (λ (st : StoreView D). st.states) store []
states_by {D} slot has = ap (λ (o : Option (StoreView D)). option_map_or (λ st. st.states) o []) has

-- a file without a block has none that is marked
pub none_marked : (blocks : List ℕ) → filter (is_marked_at []) blocks ≡ []
none_marked blocks = filter_agree (is_marked_at []) (λ i. false) no_state blocks ∙ keeps_none blocks
  where
    no_state : (i : ℕ) → is_marked_at [] i ≡ false
    no_state zero = refl
    no_state (suc i) = refl

-- ---- all three steps

module _ {D H : Type 0} {old planned settled new : Parts D H} (first : OnlyPendingChanges old planned) (same_pending : pending_of planned.log ≡ pending_of old.log)
    (log : settled.log ≡ planned.log) (rest : KeepsRest planned settled) (last : OnlyPendingChanges settled new) where
  -- of the listed blocks those that are marked then were left for the log
  left_is : {dig : List ℕ → List ℕ} (file : ℕ) {tree count : ℕ} {calls : DeviceCalls} {notes : List Note} {ids : List BlockId}
      → SettlesIn dig (is_other file) tree 0 count (state_of old) calls notes (state_of settled)
      → ids ≡ (if is_some old.log then waiting_in_others file tree (state_of old).files else [])
      → pending_of new.log ≡ add_hints (pending_of settled.log) (map (λ b. mark_of b) (filter (is_marked_among (state_of settled).files) ids))
      → state_of new ≡ with_pending (state_of old) (state_of settled) []
  left_is {dig} file {tree} {count} {calls} {notes} {ids} settles listed left =
      state_with last ∙ ap (λ hs. record (state_of settled) { pending = hs }) (left ∙ ap (add_hints (pending_of settled.log)) (by (is_some old.log) refl))
    where
      size : length (state_of settled).files ≡ length (state_of old).files
      size = length-map settled.slots.items file_of ∙ rest.count ∙ ap (λ (p : Parts D H). length p.slots.items) first.others ∙ sym (length-map old.slots.items file_of)

      has : is_some settled.log ≡ is_some old.log
      has = ap (λ o. is_some o) log ∙ logged_same planned.log old.log first.log

      by : (b : Bool) → is_some old.log ≡ b
          → map (λ b. mark_of b) (filter (is_marked_among (state_of settled).files) ids) ≡ (if is_some settled.log then map (λ b. mark_of b) (new_marked_blocks (state_of old) (state_of settled)) else [])
      by true e =
          ap (λ xs. map (λ b. mark_of b) (filter (is_marked_among (state_of settled).files) xs))
          (listed ∙ ap (λ t. if t then waiting_in_others file tree (state_of old).files else []) e)
          ∙ ap (map (λ b. mark_of b)) (all_listed file settles size)
          ∙ ap (λ t. if t then map (λ b. mark_of b) (new_marked_blocks (state_of old) (state_of settled)) else []) (sym (has ∙ e))
      by false e =
          ap (λ xs. map (λ b. mark_of b) (filter (is_marked_among (state_of settled).files) xs))
          (listed ∙ ap (λ t. if t then waiting_in_others file tree (state_of old).files else []) e)
          ∙ ap (λ t. if t then map (λ b. mark_of b) (new_marked_blocks (state_of old) (state_of settled)) else []) (sym (has ∙ e))

  pub settles_all : {conduct : Conduct D} {dig : List ℕ → List ℕ} (file : ℕ) {tree : ℕ} {ids : List BlockId}
      → SettlesFiles conduct dig (is_other file) tree planned settled
      → ids ≡ (if is_some old.log then waiting_in_others file tree (state_of old).files else [])
      → pending_of new.log ≡ add_hints (pending_of settled.log) (map (λ b. mark_of b) (filter (is_marked_among (state_of settled).files) ids))
      → SettlesOthers conduct dig file tree old new
  settles_all {conduct} {dig} file {tree} {ids} (calls, notes, have, settles) listed left =
      let settles_old = subst (λ (s : EngineState). SettlesIn dig (is_other file) tree 0 (block_count_of_tree s tree) s calls notes (state_of settled)) (state_same first same_pending) settles in
      record {
        calls = calls;
        notes = notes;
        settled = state_of settled;
        made = subst (λ ds. HaveCalls conduct ds calls (disks_of new)) (same_disks first)
            (subst (λ ds. HaveCalls conduct (disks_of planned) calls ds) (sym (same_disks last)) have);
        settles = settles_old;
        after = left_is file settles_old listed left;
      }
