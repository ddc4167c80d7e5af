-- Blocks that are read back: which they are, how many at most, and what their states tell of each read.
use Rattle.bt_machine.proofs.Base.{◌≡◌, ◌≢◌, ℕ, zero, suc, ◌+◌, ◌-◌, ◌<◌, ◌≤◌, Bool, true, false, cond, ◌&&◌, List, [], ◌∷◌, ◌++◌, length, map, filter, drop, Option, Some, None, is_some, refl, sym, ap, ◌∙◌, subst, arith, slice_get, option_map_or, AllPairs, Contains, range_with_len, length-range_with_len, length-filter, filter-append, Facts, value_at, BlockRead, given, failed, block_of, is_right, judged, fault_count, waiting_blocks, is_waiting, is_waiting_at, BlockState, Missing, Marked, append-nil}
use Rattle.std.specs.Prelude.{nat_lt}
use Rattle.std.proofs.Common.{append_assoc}
use Rattle.std.specs.List.{count_by}
use Rattle.std.proofs.lemmas.List.Sums.{sum_by-cons, sum_by-take-drop, count_by-le-length}
use Rattle.std.proofs.lemmas.Bool.{lt-ltb, le-ltb}
use Rattle.bt_store.specs.BlockReads.{is_right_read, IsJudged}
use Rattle.bt_store.specs.FileStore.{StoreView}
use Rattle.bt_store.proofs.Reviews.{range_split}
use Rattle.bt_store.proofs.Settling.{reads_decide, waiting_differ}
use Rattle.bt_machine.proofs.Lists.{contains_filter, map_contains, here, later, some_below, and_true}
use Rattle.bt_machine.specs.declared.answer.Note.{Note}
use Rattle.bt_machine.specs.declared.answer.Note.TheVariants.{Marked as NowMarked, Freed, Device}
use Rattle.bt_machine.specs.Blocks.{block_id}
use Rattle.bt_machine.specs.Settling.{read_note}
use Rattle.bt_engine_messages.specs.SettlingSteps.{SettlesBlocks, note_at, is_due}
use Rattle.bt_engine_messages.specs.NoteRooms.{with_device, note_room}
use Rattle.bt_disk.specs.Conduct.{Conduct}

drop_nil : {X : Type 0} (i : ℕ) → drop {A = X} i [] ≡ []
drop_nil zero = refl
drop_nil (suc i) = refl

waiting_count : (states : List BlockState) (i : ℕ) (o : Option BlockState) → slice_get states i ≡ o
    → count_by is_waiting (drop i states) ≡ cond (option_map_or is_waiting o false) 1 0 + count_by is_waiting (drop (i + 1) states)
waiting_count [] i None at = ap (λ ys. count_by is_waiting ys) (drop_nil i) ∙ ap (λ ys. 0 + count_by is_waiting ys) (sym (drop_nil (i + 1)))
waiting_count [] zero (Some x) at = absurd cc
waiting_count [] (suc i) (Some x) at = absurd cc
waiting_count (x ∷ xs) zero o at =
    sum_by-cons (λ y. cond (is_waiting y) 1 0) x xs ∙ ap (λ p. cond (option_map_or is_waiting p false) 1 0 + count_by is_waiting xs) at
waiting_count (x ∷ xs) (suc i) o at =
    let next : suc (i + 1) ≡ suc i + 1 = omega arith in
    waiting_count xs i o at ∙ ap (λ n. cond (option_map_or is_waiting o false) 1 0 + count_by is_waiting (drop n (x ∷ xs))) next

-- ---- which blocks are due

module _ (dig : List ℕ → List ℕ) (k : Facts) (states : List BlockState) where
  pub due_none : (from : ℕ) → [] ≡ waiting_blocks dig k states from (from - from)
  due_none from =
      let none : 0 ≡ from - from = omega arith in
      ap (waiting_blocks dig k states from) none

  pub due_more : (from at : ℕ) (blocks : List ℕ) → from ≤ at → blocks ≡ waiting_blocks dig k states from (at - from)
      → blocks ++ cond (is_due dig k states at) (at ∷ []) [] ≡ waiting_blocks dig k states from (at + 1 - from)
  due_more from at blocks low before =
      let size : at + 1 - from ≡ at - from + 1 = omega arith in
      let place : from + (at - from) ≡ at = omega arith in
      ap (λ xs. xs ++ waiting_blocks dig k states at 1) before
      ∙ sym
      (ap (waiting_blocks dig k states from) size ∙ ap (filter (is_due dig k states)) (range_split from (at - from) 1)
      ∙ filter-append (is_due dig k states) (range_with_len from (at - from)) (range_with_len (from + (at - from)) 1)
      ∙ ap (λ x. waiting_blocks dig k states from (at - from) ++ waiting_blocks dig k states x 1) place)

  pub due_length : (from count : ℕ) → length (waiting_blocks dig k states from count) ≤ count
  due_length from count =
      omega (arith, length-filter (is_due dig k states) (range_with_len from count), count_by-le-length (is_due dig k states) (range_with_len from count), length-range_with_len from count)

  -- ---- how many they are at most

  due_here : (waits knows : Bool) (i rest : ℕ) (more : List ℕ) → length more ≤ rest → length (cond (waits && knows) (i ∷ more) more) ≤ cond waits 1 0 + rest
  due_here true true i rest more le = omega arith
  due_here true false i rest more le = omega arith
  due_here false knows i rest more le = omega arith

  due_below : (from count : ℕ) → length (waiting_blocks dig k states from count) ≤ count_by is_waiting (drop from states)
  due_below from zero = omega arith
  due_below from (suc count) =
      rw (waiting_count states from (slice_get states from) refl)
      (due_here (is_waiting_at states from) (is_some (value_at dig k 0 from)) from (count_by is_waiting (drop (from + 1) states))
      (waiting_blocks dig k states (from + 1) count) (due_below (from + 1) count))

  pub due_few : (from count : ℕ) → with_device (length (waiting_blocks dig k states from count)) ≤ note_room count states
  due_few from count =
      omega (arith, due_length from count, due_below from count, sum_by-take-drop (λ y. cond (is_waiting y) 1 0) states from)

  -- where a read failed, there was one
  pub some_due : (from count : ℕ) (reads : List BlockRead) → map block_of reads ≡ waiting_blocks dig k states from count → 0 < fault_count reads
      → 1 ≤ length (waiting_blocks dig k states from count)
  some_due from count [] is faulty = absurd (omega (arith, faulty))
  some_due from count (read ∷ reads) is faulty = omega (arith, ap (λ xs. length xs) is)

  -- ---- each has a state

  has_state : (i : ℕ) (o : Option BlockState) → slice_get states i ≡ o → option_map_or is_waiting o false ≡ true → i < length states
  has_state i None at waits = absurd cc
  has_state i (Some x) at waits = some_below states i at

  pub due_inside : (from count : ℕ) {i : ℕ} → Contains (waiting_blocks dig k states from count) i → i < length states
  due_inside from count {i} among =
      let due = contains_filter (is_due dig k states) (range_with_len from count) among in
      has_state i (slice_get states i) refl (and_true (is_waiting_at states i) due.1).0

-- ---- the note of a device

pub with_fault : (notes : List Note) (file failures : ℕ) → 0 < failures → notes ++ Device file ∷ [] ≡ notes ++ cond (nat_lt 0 failures) (Device file ∷ []) []
with_fault notes file failures some = ap (λ b. notes ++ cond b (Device file ∷ []) []) (sym (lt-ltb 0 failures some))

pub without_fault : (notes : List Note) (file failures : ℕ) → failures ≤ 0 → notes ≡ notes ++ cond (nat_lt 0 failures) (Device file ∷ []) []
without_fault notes file failures none =
    sym (append-nil notes) ∙ ap (λ b. notes ++ cond b (Device file ∷ []) []) (sym (le-ltb 0 failures none))

-- ---- what the states tell of each read

module _ (dig : List ℕ → List ℕ) (k : Facts) where
  marked_note : (right : Bool) (file i : ℕ) (states : List BlockState) → slice_get states i ≡ Some (cond right Marked Missing)
      → note_at file states i ≡ cond right (NowMarked (block_id file i)) (Freed (block_id file i))
  marked_note true file i states at = rw at refl
  marked_note false file i states at = rw at refl

  same_note : (file : ℕ) (read : BlockRead) (states : List BlockState) → slice_get states (block_of read) ≡ Some (cond (is_right_read dig k read) Marked Missing)
      → note_at file states (block_of read) ≡ read_note dig k file read
  same_note file (given i bytes) states at = marked_note (is_right dig k i bytes) file i states at
  same_note file (failed i) states at = marked_note false file i states at

  notes_same : (file : ℕ) (states : List BlockState) (reads : List BlockRead)
      → ((read : BlockRead) → Contains reads read → note_at file states (block_of read) ≡ read_note dig k file read)
      → map (note_at file states) (map block_of reads) ≡ map (read_note dig k file) reads
  notes_same file states [] each = refl
  notes_same file states (read ∷ reads) each =
      ap (λ n. n ∷ map (note_at file states) (map block_of reads)) (each read (here reads refl))
      ∙ ap (λ ns. read_note dig k file read ∷ ns) (notes_same file states reads (λ r c. each r (later read reads c)))

  module _ {D : Type 0} (conduct : Conduct D) (file from count : ℕ) (old new : StoreView D) (reads : List BlockRead) where
    -- the notes by the states are those by the reads, and with that of a device that failed the machine's
    pub blocks_settled : (before after : List Note) (failures : ℕ) → IsJudged conduct dig k false (waiting_blocks dig k old.states from count) old reads new
        → failures ≡ fault_count reads
        → after ≡ (before ++ map (note_at file new.states) (waiting_blocks dig k old.states from count)) ++ cond (nat_lt 0 failures) (Device file ∷ []) []
        → SettlesBlocks conduct dig k file from count old before after new
    blocks_settled before after failures judged faulty is =
        let blocks = judged.device.in_order in
        let once = subst (λ l. AllPairs (λ i j. i ≢ j) l) (sym blocks) (waiting_differ dig k old.states from count) in
        let decides = reads_decide dig k reads old.states once in
        let each : (read : BlockRead) → Contains reads read → note_at file new.states (block_of read) ≡ read_note dig k file read = λ read c.
        same_note file read new.states
        (ap (λ s. slice_get s (block_of read)) judged.states
        ∙ decides.read read c
        (due_inside dig k old.states from count (subst (λ l. Contains l (block_of read)) blocks (map_contains block_of reads c)))) in
        record {
          reads = reads;
          judged = judged;
          noted = is ∙ ap (λ l. (before ++ map (note_at file new.states) l) ++ cond (nat_lt 0 failures) (Device file ∷ []) []) (sym blocks)
              ∙ ap (λ l. (before ++ l) ++ cond (nat_lt 0 failures) (Device file ∷ []) []) (notes_same file new.states reads each)
              ∙ ap (λ n. (before ++ map (read_note dig k file) reads) ++ cond (nat_lt 0 n) (Device file ∷ []) []) faulty
              ∙ append_assoc before (map (read_note dig k file) reads) (cond (nat_lt 0 (fault_count reads)) (Device file ∷ []) []);
        }
