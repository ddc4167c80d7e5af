-- Which blocks of an engine have become marked, file by file.
use Rattle.bt_machine.proofs.Base.{[], ◌≡◌, ◌≢◌, ℕ, zero, suc, Bool, true, false, not, ◌&&◌, ◌==◌, if◌then◌else◌, List, ◌∷◌, length, map, filter, flat_map, Option, Some, None, refl, sym, ap, ◌∙◌, arith, length-set, slice_get, option_map, option_map_or, option_and_then, range_with_len, Facts, BlockRead, block_of, judged, is_waiting_at, waiting_blocks, BlockState, BlockId}
use Rattle.std.proofs.lemmas.List.Elements.{filter_agree}
use Rattle.bt_store.specs.BlockStates.{is_marked}
use Rattle.bt_store.specs.Review.{is_marked_at}
use Rattle.bt_machine.proofs.Lists.{set_same, set_other, some_below, get_some}
use Rattle.bt_machine.specs.declared.answer.Note.{Note}
use Rattle.bt_machine.specs.State.{EngineState, FileState, mark_of}
use Rattle.bt_machine.specs.Devices.{DeviceCalls}
use Rattle.bt_machine.specs.Blocks.{block_id, states_of, is_marked_in, file_numbers, has_become, new_marked_blocks, with_file, with_tree}
use Rattle.bt_machine.specs.Settling.{SettlesIn, judged_file, due_blocks}
use Rattle.bt_machine.specs.Adopting.{is_other}
use Rattle.bt_engine_state.proofs.Lists.{filter_mapped}
use Rattle.bt_engine_after.specs.GroupsSteps.{file_with}
use Rattle.bt_engine_after.specs.MarksSteps.{newly_marked, marks_in}
use Rattle.bt_engine_after.specs.WaitingSteps.{is_marked_among, waiting_blocks_in, waiting_in, waiting_in_others}
use Rattle.bt_engine_after.proofs.Ranges.{filter_alike, filter_flat, flat_map_alike, flat_map_one}
use Rattle.bt_engine_after.proofs.NewMarks.{newly_none, newly_settled}

-- ---- a file's state in an engine

state_in : (o : Option FileState) (i : ℕ) → slice_get (option_map_or (λ f. f.states) o []) i ≡ option_and_then (λ f. slice_get f.states i) o
state_in None zero = refl
state_in None (suc i) = refl
state_in (Some f) i = refl

marked_there : (s : EngineState) (file i : ℕ) → is_marked_in s (block_id file i) ≡ is_marked_at (states_of s file) i
marked_there s file i = ap (λ o. option_map_or is_marked o false) (sym (state_in (slice_get s.files file) i))

pub marked_of : (files : List FileState) (b : BlockId) {f : FileState} → slice_get files b.file ≡ Some f → is_marked_among files b ≡ is_marked_at f.states b.block
marked_of files b here = ap (λ o. option_map_or (λ (f : FileState). is_marked_at f.states b.block) o false) here

states_at : (s : EngineState) (file : ℕ) {o : Option FileState} → slice_get s.files file ≡ o → states_of s file ≡ option_map_or (λ f. f.states) o []
states_at s file here = ap (λ o. option_map_or (λ (f : FileState). f.states) o []) here

-- ---- file by file

abbrev pub news_in : EngineState → EngineState → ℕ → List BlockId
news_in s t file = map (block_id file) (newly_marked (states_of s file) (states_of t file))

module _ (s t : EngineState) where
  of_file : (file : ℕ) → filter (has_become is_marked_in s t) (map (block_id file) (range_with_len 0 (length (states_of t file)))) ≡ news_in s t file
  of_file file =
      let numbers = range_with_len 0 (length (states_of t file)) in
      sym (filter_mapped (block_id file) (has_become is_marked_in s t) numbers)
      ∙ ap (map (block_id file)) (filter_alike (λ i. has_become is_marked_in s t (block_id file i))
      (λ i. is_marked_at (states_of t file) i && not (is_marked_at (states_of s file) i)) 0 (length (states_of t file))
      (λ i low high. ap (λ b. b && not (is_marked_in s (block_id file i))) (marked_there t file i)
      ∙ ap (λ b. is_marked_at (states_of t file) i && not b) (marked_there s file i)))

  pub by_file : new_marked_blocks s t ≡ flat_map (news_in s t) (file_numbers t)
  by_file =
      filter_flat (has_become is_marked_in s t) (λ file. map (block_id file) (range_with_len 0 (length (states_of t file)))) (file_numbers t)
      ∙ flat_map_alike (λ file. filter (has_become is_marked_in s t) (map (block_id file) (range_with_len 0 (length (states_of t file))))) (news_in s t) 0 (length t.files)
      (λ file low high. of_file file)

  no_news : (file : ℕ) → states_of t file ≡ states_of s file → news_in s t file ≡ []
  no_news file same = ap (λ xs. map (block_id file) (newly_marked (states_of s file) xs)) same ∙ ap (map (block_id file)) (newly_none (states_of s file))

-- ---- a group of one file

pub map_both : (file : ℕ) (blocks : List ℕ) → map (λ b. mark_of b) (map (block_id file) blocks) ≡ marks_in file blocks
map_both file [] = refl
map_both file (i ∷ blocks) = ap (λ hs. mark_of (block_id file i) ∷ hs) (map_both file blocks)

module _ (s : EngineState) (file tree : ℕ) {old : List BlockState} (new : List BlockState) (grown : Facts) (here : slice_get s.files file ≡ Some (file_with tree old)) where
  abbrev then_state : EngineState
  then_state = with_tree (with_file s file (file_with tree new)) tree grown

  others_same : (j : ℕ) → j ≢ file → states_of then_state j ≡ states_of s j
  others_same j apart = ap (λ o. option_map_or (λ (f : FileState). f.states) o []) (set_other s.files file j (file_with tree new) apart)

  pub group_news : map (λ b. mark_of b) (new_marked_blocks s then_state) ≡ marks_in file (newly_marked old new)
  group_news =
      let now : states_of then_state file ≡ new = states_at then_state file (set_same s.files file here) in
      let was : states_of s file ≡ old = states_at s file here in
      ap (map (λ b. mark_of b))
      (by_file s then_state
      ∙ flat_map_one (news_in s then_state) file 0 (length then_state.files) (omega arith)
      (omega (arith, some_below s.files file here, length-set s.files file (file_with tree new)))
      (λ j apart. no_news s then_state j (others_same j apart))
      ∙ ap (λ xs. map (block_id file) (newly_marked xs (states_of then_state file))) was
      ∙ ap (λ xs. map (block_id file) (newly_marked old xs)) now)
      ∙ map_both file (newly_marked old new)

-- ---- blocks of other files that were settled

pub no_reads : (reads : List BlockRead) → map block_of reads ≡ [] → reads ≡ []
no_reads [] e = refl
no_reads (r ∷ reads) e = absurd (let size = ap (λ (xs : List ℕ). length xs) e in omega arith)

module _ {dig : List ℕ → List ℕ} (file : ℕ) {tree count : ℕ} {s t : EngineState} {calls : DeviceCalls} {notes : List Note}
    (settles : SettlesIn dig (is_other file) tree 0 count s calls notes t) (size : length t.files ≡ length s.files) where
  now_is : (other : ℕ) {f : FileState} → slice_get s.files other ≡ Some f → slice_get t.files other ≡ Some (judged_file dig settles.facts (settles.reads other) f)
  now_is other at = settles.files other ∙ ap (option_map (judged_file dig settles.facts (settles.reads other))) at

  news_are : (other : ℕ) {f : FileState} → slice_get s.files other ≡ Some f
      → news_in s t other ≡ map (block_id other) (newly_marked f.states (judged dig settles.facts false (settles.reads other) f.states))
  news_are other {f} at =
      ap (λ xs. map (block_id other) (newly_marked xs (states_of t other))) (states_at s other at)
      ∙ ap (λ xs. map (block_id other) (newly_marked f.states xs)) (states_at t other (now_is other at))

  -- of this file nothing was read
  unread_news : (other : ℕ) {f : FileState} → slice_get s.files other ≡ Some f → map block_of (settles.reads other) ≡ [] → news_in s t other ≡ []
  unread_news other {f} at none =
      news_are other at
      ∙ ap (λ rs. map (block_id other) (newly_marked f.states (judged dig settles.facts false rs f.states))) (no_reads (settles.reads other) none)
      ∙ ap (map (block_id other)) (newly_none f.states)

  -- of the listed blocks of a file those that are marked then
  listed_news : (other : ℕ) {f : FileState} → slice_get s.files other ≡ Some f → (meant same_tree : Bool) → is_other file other ≡ meant → (f.tree == tree) ≡ same_tree
      → filter (is_marked_among t.files) (if meant then waiting_in tree s.files other else []) ≡ news_in s t other
  listed_news other {f} at false same_tree e g =
      sym (unread_news other at (settles.due other f at ∙ ap (λ b. if b then due_blocks dig settles.facts tree 0 count f else []) e))
  listed_news other {f} at true false e g =
      ap (λ o. filter (is_marked_among t.files) (map (block_id other) (option_map_or (waiting_blocks_in tree) o []))) at
      ∙ ap (λ b. filter (is_marked_among t.files) (map (block_id other) (if b then filter (is_waiting_at f.states) (range_with_len 0 (length f.states)) else []))) g
      ∙ sym (unread_news other at (settles.due other f at ∙ ap (λ b. if b then due_blocks dig settles.facts tree 0 count f else []) e
      ∙ ap (λ b. if b then waiting_blocks dig settles.facts f.states 0 count else []) g))
  listed_news other {f} at true true e g =
      let new = judged dig settles.facts false (settles.reads other) f.states in
      let waiting = filter (is_waiting_at f.states) (range_with_len 0 (length f.states)) in
      let read : map block_of (settles.reads other) ≡ waiting_blocks dig settles.facts f.states 0 count =
      settles.due other f at ∙ ap (λ b. if b then due_blocks dig settles.facts tree 0 count f else []) e
      ∙ ap (λ b. if b then waiting_blocks dig settles.facts f.states 0 count else []) g in
      ap (λ o. filter (is_marked_among t.files) (map (block_id other) (option_map_or (waiting_blocks_in tree) o []))) at
      ∙ ap (λ b. filter (is_marked_among t.files) (map (block_id other) (if b then filter (is_waiting_at f.states) (range_with_len 0 (length f.states)) else []))) g
      ∙ sym (filter_mapped (block_id other) (is_marked_among t.files) waiting)
      ∙ ap (map (block_id other)) (filter_agree (λ i. is_marked_among t.files (block_id other i)) (is_marked_at new) (λ i. marked_of t.files (block_id other i) (now_is other at)) waiting
      ∙ sym (newly_settled dig settles.facts (settles.reads other) f.states 0 count read))
      ∙ sym (news_are other at)

  pub all_listed : filter (is_marked_among t.files) (waiting_in_others file tree s.files) ≡ new_marked_blocks s t
  all_listed =
      filter_flat (is_marked_among t.files) (λ other. if is_other file other then waiting_in tree s.files other else []) (range_with_len 0 (length s.files))
      ∙ flat_map_alike (λ other. filter (is_marked_among t.files) (if is_other file other then waiting_in tree s.files other else [])) (news_in s t) 0 (length s.files)
      (λ other low high. let f = get_some s.files other (omega arith) in listed_news other f.1 (is_other file other) (f.0.tree == tree) refl refl)
      ∙ ap (λ n. flat_map (news_in s t) (range_with_len 0 n)) (sym size) ∙ sym (by_file s t)
