-- Blocks that were settled, note by note: each note leads to an engine in which one more block has another state.
use Rattle.bt_machine.proofs.Base.{[], ◌≡◌, ◌≢◌, ℕ, zero, suc, ◌+◌, ◌<◌, ◌≤◌, Bool, true, false, cond, List, ◌∷◌, ◌++◌, length, map, flat_map, Some, refl, sym, ap, ◌∙◌, subst, arith, ◌==◌, inl, inr, length-map, slice_get, slice_set, Contains, range_with_len, Facts, BlockRead, given, failed, block_of, is_right, fault_count, waiting_blocks, Missing, Waiting, Marked}
use Rattle.std.specs.Prelude.{nat_lt}
use Rattle.std.proofs.Common.{append_assoc}
use Rattle.std.proofs.lemmas.Bool.{cases_eq, cases_lt}
use Rattle.std.proofs.lemmas.Option.{slice_get_past}
use Rattle.bt_store.specs.BlockReads.{after_read}
use Rattle.bt_store.proofs.Reviews.{read_kept}
use Rattle.bt_store.proofs.Settling.{waiting_differ}
use Rattle.bt_machine.proofs.Lists.{here as first_of, later, set_same, set_other, set_id, get_some}
use Rattle.bt_machine.proofs.Marks.{meant_then}
use Rattle.bt_machine.proofs.Pairs.{Pairs, to_pairs}
use Rattle.bt_machine.specs.State.{EngineState, FileState}
use Rattle.bt_machine.specs.Blocks.{block_id}
use Rattle.bt_machine.specs.Settling.{judged_file, read_note, settling_notes, due_blocks}
use Rattle.bt_machine.specs.declared.answer.Note.{Note}
use Rattle.bt_machine.specs.declared.answer.Note.TheVariants.{Marked as now_marked, Freed, Device}
use Rattle.bt_engine_state.specs.Parts.{file_of}
use Rattle.bt_engine_state.specs.declared.slot.Slot.{Slot}
use Rattle.bt_engine_state.proofs.Lists.{get_mapped}
use Rattle.bt_engine_state.proofs.SlotChanges.{block_changed, set_again}
use Rattle.bt_engine_messages.specs.RunSteps.{SettlesSlots}
use Rattle.bt_engine_messages.specs.HashesSteps.{IsNoteOf, AreNotesOf}
use Rattle.bt_disk.specs.Conduct.{Conduct}

same_list : {X : Type 0} (xs ys : List X) → ((i : ℕ) → slice_get xs i ≡ slice_get ys i) → xs ≡ ys
same_list [] [] same = refl
same_list [] (y ∷ ys) same = absurd (let e = same 0 in cc)
same_list (x ∷ xs) [] same = absurd (let e = same 0 in cc)
same_list (x ∷ xs) (y ∷ ys) same =
    let head : x ≡ y = (let e = same 0 in cc) in
    ap (λ z. z ∷ xs) head ∙ ap (λ zs. y ∷ zs) (same_list xs ys (λ i. same (suc i)))

-- different blocks of a file, that wait
record AreDue (f : FileState) (blocks : List ℕ) : Type 0 where
  apart : Pairs (λ i j. i ≢ j) blocks
  waiting : (i : ℕ) → Contains blocks i → slice_get f.states i ≡ Some Waiting

module _ (dig : List ℕ → List ℕ) (k : Facts) where
  due_apart : (tree from count : ℕ) (f : FileState) → Pairs (λ i j. i ≢ j) (due_blocks dig k tree from count f)
  due_apart tree from count f = by (f.tree == tree)
    where
      by : (b : Bool) → Pairs (λ i j. i ≢ j) (cond b (waiting_blocks dig k f.states from count) [])
      by true = to_pairs (λ i j. i ≢ j) (waiting_blocks dig k f.states from count) (waiting_differ dig k f.states from count)
      by false = tt

  are_due : (tree from count : ℕ) (f : FileState) (blocks : List ℕ) → blocks ≡ due_blocks dig k tree from count f → AreDue f blocks
  are_due tree from count f blocks is = record {
    apart = subst (λ xs. Pairs (λ i j. i ≢ j) xs) (sym is) (due_apart tree from count f);
    waiting = λ i among. (meant_then dig k true (subst (λ xs. Contains xs i) is among)).1.waited;
  }

  -- a file that these reads settled
  record IsSettled (reads : ℕ → List BlockRead) (files last : List FileState) (file : ℕ) : Type 0 where
    f : FileState
    stands : slice_get files file ≡ Some f
    due : AreDue f (map block_of (reads file))
    then_is : slice_get last file ≡ Some (judged_file dig k (reads file) f)

  module _ (e : EngineState) where
    abbrev with_files : List FileState → EngineState
    with_files files = record e { files = files }

    -- one read of a file's block
    abbrev after : BlockRead → FileState → FileState
    after read f = record f { states = after_read dig k false read f.states }

    read_noted : (file : ℕ) (read : BlockRead) (files : List FileState) (f : FileState) → slice_get files file ≡ Some f
        → slice_get f.states (block_of read) ≡ Some Waiting
        → IsNoteOf (with_files files) (read_note dig k file read) (with_files (slice_set files file (after read f)))
    read_noted file (given i bytes) files f stands waits = by (is_right dig k i bytes)
      where
        by : (right : Bool) → IsNoteOf (with_files files) (cond right (now_marked (block_id file i)) (Freed (block_id file i)))
            (with_files (slice_set files file (record f { states = slice_set f.states i (cond right Marked Missing) })))
        by true = block_changed (with_files files) (with_files (slice_set files file (record f { states = slice_set f.states i Marked }))) file i f Waiting Marked stands waits refl refl
        by false = block_changed (with_files files) (with_files (slice_set files file (record f { states = slice_set f.states i Missing }))) file i f Waiting Missing stands waits refl refl
    read_noted file (failed i) files f stands waits =
        block_changed (with_files files) (with_files (slice_set files file (record f { states = slice_set f.states i Missing }))) file i f Waiting Missing stands waits refl refl

    reads_noted : (file : ℕ) (reads : List BlockRead) (files : List FileState) (f : FileState) (rest : List Note) (last : EngineState)
        → slice_get files file ≡ Some f → AreDue f (map block_of reads)
        → AreNotesOf (with_files (slice_set files file (judged_file dig k reads f))) rest last
        → AreNotesOf (with_files files) (map (read_note dig k file) reads ++ rest) last
    reads_noted file [] files f rest last stands due more = subst (λ (fs : List FileState). AreNotesOf (with_files fs) rest last) (set_id files file stands) more
    reads_noted file (read ∷ reads) files f rest last stands due more = (
      with_files (slice_set files file (after read f)),
      read_noted file read files f stands (due.waiting (block_of read) (first_of (map block_of reads) refl)),
      reads_noted file reads (slice_set files file (after read f)) (after read f) rest last (set_same files file stands)
          (record {
            apart = due.apart.1;
            waiting = λ i among. read_kept dig k false read f.states i (λ same. due.apart.0 i among (sym same))
                ∙ due.waiting i (later (block_of read) (map block_of reads) among);
          })
          (subst (λ (fs : List FileState). AreNotesOf (with_files fs) rest last) (sym (set_again files file (after read f) (judged_file dig k reads (after read f)))) more),
    )

    device_noted : (fault : Bool) (file : ℕ) (files : List FileState) (rest : List Note) (last : EngineState)
        → AreNotesOf (with_files files) rest last → AreNotesOf (with_files files) (cond fault (Device file ∷ []) [] ++ rest) last
    device_noted true file files rest last more = (with_files files, refl, more)
    device_noted false file files rest last more = more

    file_noted : (file : ℕ) (reads : List BlockRead) (files : List FileState) (f : FileState) (rest : List Note) (last : EngineState)
        → slice_get files file ≡ Some f → AreDue f (map block_of reads)
        → AreNotesOf (with_files (slice_set files file (judged_file dig k reads f))) rest last
        → AreNotesOf (with_files files) (settling_notes dig k file reads ++ rest) last
    file_noted file reads files f rest last stands due more =
        let device : List Note = cond (nat_lt 0 (fault_count reads)) (Device file ∷ []) [] in
        subst (λ (notes : List Note). AreNotesOf (with_files files) notes last) (sym (append_assoc (map (read_note dig k file) reads) device rest))
        (reads_noted file reads files f (device ++ rest) last stands due
        (device_noted (nat_lt 0 (fault_count reads)) file (slice_set files file (judged_file dig k reads f)) rest last more))

    all_noted : (reads : ℕ → List BlockRead) (first count : ℕ) (files last : List FileState)
        → ((file : ℕ) → (first ≤ file → file < first + count → ⊥) → slice_get last file ≡ slice_get files file)
        → ((file : ℕ) → first ≤ file → file < first + count → IsSettled reads files last file)
        → AreNotesOf (with_files files) (flat_map (λ file. settling_notes dig k file (reads file)) (range_with_len first count)) (with_files last)
    all_noted reads first zero files last others each =
        ap (λ (fs : List FileState). with_files fs) (same_list last files (λ file. others file (λ from below. absurd (omega arith))))
    all_noted reads first (suc count) files last others each =
        let own = each first (omega arith) (omega arith) in
        let now = judged_file dig k (reads first) own.f in
        file_noted first (reads first) files own.f (flat_map (λ file. settling_notes dig k file (reads file)) (range_with_len (first + 1) count)) (with_files last) own.stands own.due
        (all_noted reads (first + 1) count (slice_set files first now) last
        (λ file out. elsewhere own file out)
        (λ file from below.
        let of = each file (omega arith) (omega arith) in
        record { f = of.f; stands = set_other files first file now (λ same. absurd (omega arith)) ∙ of.stands; due = of.due; then_is = of.then_is }))
      where
        elsewhere : (own : IsSettled reads files last first) (file : ℕ) → (first + 1 ≤ file → file < first + 1 + count → ⊥)
            → slice_get last file ≡ slice_get (slice_set files first (judged_file dig k (reads first) own.f)) file
        elsewhere own file out = elim (cases_eq file first) [
          | inl same ↦ ap (λ n. slice_get last n) same ∙ own.then_is ∙ sym (set_same files first own.stands)
              ∙ ap (λ n. slice_get (slice_set files first (judged_file dig k (reads first) own.f)) n) (sym same)
          | inr apart ↦ others file (λ from below. out (omega (arith, apart)) (omega arith)) ∙ sym (set_other files first file _ apart)
        ]

  module _ {D H : Type 0} (conduct : Conduct D) (tree from count : ℕ) (old new : List (Slot D H)) (notes : List Note)
      (s : SettlesSlots conduct dig k tree from count old [] notes new) where
    settled_file : (file : ℕ) → file < length old → IsSettled s.reads (map file_of old) (map file_of new) file
    settled_file file below =
        let o = get_some old file below in
        let n = s.each file o.0 o.1 in
        record {
          f = file_of o.0;
          stands = get_mapped file_of old file o.1;
          due = are_due tree from count (file_of o.0) (map block_of (s.reads file)) n.2.due;
          then_is = get_mapped file_of new file n.1 ∙ ap (λ (f : FileState). Some f) n.2.judged;
        }

    pub slots_noted : (e : EngineState) → AreNotesOf (record e { files = map file_of old }) notes (record e { files = map file_of new })
    slots_noted e =
        subst (λ (ns : List Note). AreNotesOf (record e { files = map file_of old }) ns (record e { files = map file_of new })) (sym s.noted)
        (all_noted e s.reads 0 (length old) (map file_of old) (map file_of new) (λ file out. none_past file out) (λ file from below. settled_file file (omega arith)))
      where
        none_past : (file : ℕ) → (0 ≤ file → file < 0 + length old → ⊥) → slice_get (map file_of new) file ≡ slice_get (map file_of old) file
        none_past file out =
            let size = s.size in
            let past : length old ≤ file = elim (cases_lt file (length old)) [ inl lt ↦ absurd (out (omega arith) (omega arith)) | inr le ↦ le ] in
            slice_get_past (map file_of new) file (omega (arith, length-map new file_of))
            ∙ sym (slice_get_past (map file_of old) file (omega (arith, length-map old file_of)))
