-- The marks that notes tell are those that a log gets.
use Rattle.bt_machine.proofs.Base.{[], ◌≡◌, ◌≢◌, ℕ, suc, ◌+◌, ◌/◌, ◌^◌, ◌<◌, ◌≤◌, inl, inr, is_some, not, ◌&&◌, Bool, true, false, if◌then◌else◌, List, ◌∷◌, ◌++◌, length, map, flat_map, drop, get_or, Option, Some, None, option_map_or, option_and_then, refl, sym, ap, ◌∙◌, subst, arith, slice_get, append-nil, length-map, length-append, Contains, AllPairs-filter, Contains-append_cases, BlockId, Missing, Waiting, Marked}
use Rattle.std.proofs.Common.{add-one}
use Rattle.std.proofs.Math.Nat.{div-lt_iff_lt-mul}
use Rattle.std.proofs.Math.Seq.{drop-cons}
use Rattle.std.proofs.lemmas.List.{map-append}
use Rattle.std.proofs.lemmas.Grind.{flat_map-append}
use Rattle.std.proofs.lemmas.Option.{get_or_from_slice_get}
use Rattle.std.specs.Prelude.{All}
use Rattle.std.specs.Option.{option_to_list}
use Rattle.bt_tree.specs.Blocks.{block_count}
use Rattle.bt_meta.specs.Files.{File}
use Rattle.bt_meta.specs.Torrent.{IsLawfulFile}
use Rattle.bt_book.specs.Blocks.{IsBefore}
use Rattle.bt_engine_state.specs.Pending.{PendingView}
use Rattle.bt_store.specs.BlockStates.{is_marked}
use Rattle.bt_store.specs.declared.block_states.BlockState.{BlockState}
use Rattle.bt_machine.specs.declared.answer.Note.{Note}
use Rattle.bt_machine.specs.declared.answer.Note.TheVariants.{Marked as NowMarked, Complete}
use Rattle.bt_machine.specs.Hints.{add_hint, add_hints}
use Rattle.bt_machine.specs.State.{FileState, EngineState, Hint, mark_of}
use Rattle.bt_machine.specs.Shape.{IsShaped}
use Rattle.bt_machine.specs.Blocks.{states_of, state_at, all_blocks, is_marked_in, is_complete, has_become, new_marked_blocks}
use Rattle.bt_machine.proofs.Lists.{some_is, some_below, here, later, contains_none, contains_cases, contains_flat_map, flat_map_contains, contains_filter, filter_contains, and_true}
use Rattle.bt_machine.proofs.Pairs.{Pairs, to_pairs, from_pairs}
use Rattle.bt_engine_state.specs.Parts.{state_of, pending_of, hints_of}
use Rattle.bt_engine_state.specs.declared.open_log.OpenLog.{OpenLog}
use Rattle.bt_engine_state.specs.declared.parts.Parts.{Parts}
use Rattle.bt_engine_state.proofs.Unmarked.{among, all_in_order}
use Rattle.bt_engine.specs.NewsSteps.{IsNotedBefore, TellMarks, marked_file, numbers_in, notes_if_complete, complete_by}
use Rattle.bt_engine.specs.PendingSteps.{marked_block, marks_of, marks_in, hints_told, with_hints, AreInside}
use Rattle.bt_engine.proofs.MarkNotes.{pairs_flat_map}
use Rattle.bt_engine.proofs.NewWholes.{has_block}

-- ---- hints after others

pub add_hints_append : (hints xs ys : List Hint) → add_hints hints (xs ++ ys) ≡ add_hints (add_hints hints xs) ys
add_hints_append hints [] ys = refl
add_hints_append hints (x ∷ xs) ys = add_hints_append (add_hint hints x) xs ys

module _ {D H : Type 0} (old : Parts D H) (hints : List Hint) where
  -- what is told with this log, once the hints are added, and what was told
  told_with : Option (OpenLog D) → EngineState
  told_with log = record (state_of old) {
    logged = is_some log;
    pending = add_hints (pending_of log) (if is_some log then hints else []);
    hints = hints_of log;
  }

  told_before : Option (OpenLog D) → EngineState
  told_before log = record (state_of old) { logged = is_some log; pending = pending_of log; hints = hints_of log }

  pub recorded_none : old.log ≡ None → state_of old ≡ with_hints (state_of old) hints
  unfolding told_with told_before
  recorded_none none = ap told_before none ∙ sym (ap told_with none)

  pub recorded_some : (opened : OpenLog D) (pending : PendingView) → old.log ≡ Some opened → pending.hints ≡ add_hints opened.pending.hints hints
      → state_of (record old { log = Some (record opened { pending = pending }) }) ≡ with_hints (state_of old) hints
  unfolding told_with
  recorded_some opened pending some is =
      ap (λ (hs : List Hint). record (state_of old) { logged = true; pending = hs; hints = opened.log.hints }) is ∙ sym (ap told_with some)

pub shape_recorded : {s t : EngineState} (hints : List Hint) → t ≡ with_hints s hints → IsShaped s.torrent s → IsShaped t.torrent t
shape_recorded {s} {t} hints is shaped =
    let at : IsShaped s.torrent (with_hints s hints) = record { same = shaped.same; roots = shaped.roots; count = shaped.count; each = shaped.each } in
    subst (λ (u : EngineState). IsShaped u.torrent u) (sym is) at

-- ---- notes that tell no mark

no_marks : (s : EngineState) (files : List ℕ) → flat_map marked_block (flat_map (notes_if_complete s) files) ≡ []
no_marks s [] = refl
no_marks s (file ∷ files) = by (is_complete s file) (no_marks s files)
  where
    by : (t : Bool) → flat_map marked_block (flat_map (notes_if_complete s) files) ≡ []
        → flat_map marked_block ((if t then Complete file ∷ [] else []) ++ flat_map (notes_if_complete s) files) ≡ []
    by true e = e
    by false e = e

pub same_marks_in : (s : EngineState) (notes : List Note) → marks_in (notes ++ complete_by s notes) ≡ marks_in notes
same_marks_in s notes =
    ap (λ bs. map (λ b. mark_of b) bs) (flat_map-append marked_block notes (complete_by s notes)
    ∙ ap (λ bs. flat_map marked_block notes ++ bs) (no_marks s (numbers_in marked_file notes)) ∙ append-nil (flat_map marked_block notes))

few_block : (note : Note) → length (marked_block note) ≤ 1
few_block (NowMarked b) = omega arith
few_block _ = omega arith

few_blocks : (notes : List Note) → length (flat_map marked_block notes) ≤ length notes
few_blocks [] = omega arith
few_blocks (note ∷ notes) =
    omega (arith, few_block note, few_blocks notes, length-append (marked_block note) (flat_map marked_block notes))

pub few_marks : (notes : List Note) → length (marks_in notes) ≤ length notes
few_marks notes = omega (arith, few_blocks notes, length-map (flat_map marked_block notes) (λ b. mark_of b))

few_proofs : (proof : Option Hint) → length (option_to_list proof) ≤ 1
few_proofs None = omega arith
few_proofs (Some hint) = omega arith

pub few_hints : (proof : Option Hint) (notes : List Note) → length (hints_told proof notes) ≤ length notes + 1
few_hints proof notes = omega (arith, few_proofs proof, few_marks notes, length-append (option_to_list proof) (marks_in notes))

pub marks_first : (note : Note) (notes : List Note) → marks_in (note ∷ notes) ≡ marks_of note ++ marks_in notes
marks_first note notes = map-append (λ b. mark_of b) (marked_block note) (flat_map marked_block notes)

-- of the notes from i on, the first and the others
pub marks_at : (notes : List Note) (i : ℕ) (d : Note) → i < length notes
    → marks_in (drop i notes) ≡ marks_of (get_or notes i d) ++ marks_in (drop (i + 1) notes)
marks_at notes i d lt =
    ap marks_in (drop-cons notes i d lt) ∙ marks_first (get_or notes i d) (drop (suc i) notes)
    ∙ ap (λ n. marks_of (get_or notes i d) ++ marks_in (drop n notes)) (sym (add-one i))

-- ---- the blocks that have become marked

of_note : (note : Note) {b : BlockId} → Contains (marked_block note) b → note ≡ NowMarked b
of_note (NowMarked a) {b} c = elim (contains_cases [] c) [ inl same ↦ ap (λ b. NowMarked b) same | inr none ↦ absurd (contains_none none) ]
of_note _ c = absurd (contains_none c)

not_itself : {b : BlockId} → IsBefore b b → ⊥
not_itself (inl lt) = absurd (omega (arith, lt))
not_itself (inr lt) = absurd (omega (arith, lt.1))

not_both : {b c : BlockId} → IsBefore b c → IsBefore c b → ⊥
not_both (inl x) (inl y) = absurd (omega (arith, x, y))
not_both (inl x) (inr y) = absurd (omega (arith, x, y.0))
not_both (inr x) (inl y) = absurd (omega (arith, x.0, y))
not_both (inr x) (inr y) = absurd (omega (arith, x.1, y.1))

same_in_order : (xs ys : List BlockId) → Pairs IsBefore xs → Pairs IsBefore ys → ((z : BlockId) → Contains xs z → Contains ys z)
    → ((z : BlockId) → Contains ys z → Contains xs z) → xs ≡ ys
same_in_order [] [] p q to back = refl
same_in_order [] (y ∷ ys) p q to back = absurd (contains_none (back y (here ys refl)))
same_in_order (x ∷ xs) [] p q to back = absurd (contains_none (to x (here xs refl)))
same_in_order (x ∷ xs) (y ∷ ys) p q to back =
    let same : x ≡ y = elim (contains_cases ys (to x (here xs refl))) [
      | inl e ↦ sym e
      | inr more ↦ elim (contains_cases xs (back y (here ys refl))) [
        | inl e ↦ e
        | inr other ↦ absurd (not_both (p.0 y other) (q.0 x more))
      ]
    ] in
    ap (λ w. w ∷ xs) same ∙ ap (λ ws. y ∷ ws) (same_in_order xs ys p.1 q.1
    (λ z c. elim (contains_cases ys (to z (later x xs c))) [ inl e ↦ absurd (not_itself (subst (λ w. IsBefore w z) (same ∙ e) (p.0 z c))) | inr more ↦ more ])
    (λ z c. elim (contains_cases xs (back z (later y ys c))) [ inl e ↦ absurd (not_itself (subst (λ w. IsBefore w z) (sym same ∙ e) (q.0 z c))) | inr more ↦ more ]))

not_marked : (o : Option BlockState) → o ≢ Some Marked → not (option_map_or is_marked o false) ≡ true
not_marked None apart = refl
not_marked (Some Missing) apart = refl
not_marked (Some Waiting) apart = refl
not_marked (Some Marked) apart = absurd (apart refl)

marked_there : (o : Option BlockState) → option_map_or is_marked o false ≡ true → o ≡ Some Marked
marked_there None e = absurd cc
marked_there (Some Missing) e = absurd cc
marked_there (Some Waiting) e = absurd cc
marked_there (Some Marked) e = refl

was_other : (o : Option BlockState) → not (option_map_or is_marked o false) ≡ true → o ≢ Some Marked
was_other o e same = absurd (let now = ap (λ o. not (option_map_or is_marked o false)) same in cc)

both_true : {a b : Bool} → a ≡ true → b ≡ true → (a && b) ≡ true
both_true {a} {b} e f = ap (λ x. x && b) e ∙ f

inside_there : (s : EngineState) (b : BlockId) {x : BlockState} → state_at s b ≡ Some x → b.block < length (states_of s b.file)
inside_there s b {x} at = by (slice_get s.files b.file) at
  where
    by : (o : Option FileState) → option_and_then (λ f. slice_get f.states b.block) o ≡ Some x → b.block < length (option_map_or (λ f. f.states) o [])
    by None e = absurd cc
    by (Some f) e = some_below f.states b.block e

module _ {old new : EngineState} {notes : List Note} (t : TellMarks old new notes) where
  blocks_in_order : Pairs IsBefore (flat_map marked_block notes)
  blocks_in_order =
      pairs_flat_map IsNotedBefore IsBefore marked_block notes (to_pairs IsNotedBefore notes t.in_order) (λ note c. single note)
      (λ m n a b before c d. before a b (of_note m c) (of_note n d))
    where
      single : (note : Note) → Pairs IsBefore (marked_block note)
      single (NowMarked b) = (λ y c. absurd (contains_none c), tt)
      single _ = tt

  becomes : BlockId → Bool
  becomes b = has_become is_marked_in old new b

  to_new : (b : BlockId) → Contains (flat_map marked_block notes) b → Contains (new_marked_blocks old new) b
  unfolding becomes
  to_new b c =
      let n = contains_flat_map marked_block notes c in
      let noted = subst (Contains notes) (of_note n.0 n.2) n.1 in
      let now = t.marked b noted in
      let was = t.unmarked b noted in
      filter_contains becomes (all_blocks new) (among new b (inside_there new b now))
      (both_true (ap (λ o. option_map_or is_marked o false) now) (not_marked (state_at old b) (λ same. was.not_marked (some_is (sym was.here ∙ same)))))

  from_new : (b : BlockId) → Contains (new_marked_blocks old new) b → Contains (flat_map marked_block notes) b
  unfolding becomes
  from_new b c =
      let m = contains_filter becomes (all_blocks new) c in
      let both = and_true (is_marked_in new b) m.1 in
      flat_map_contains marked_block notes (t.told b (marked_there (state_at new b) both.0) (was_other (state_at old b) both.1)) (here [] refl)

  pub told_blocks : flat_map marked_block notes ≡ new_marked_blocks old new
  unfolding becomes
  told_blocks =
      same_in_order (flat_map marked_block notes) (new_marked_blocks old new) blocks_in_order
      (to_pairs IsBefore (new_marked_blocks old new) (AllPairs-filter IsBefore becomes (all_blocks new) (from_pairs IsBefore (all_blocks new) (all_in_order new))))
      to_new from_new

  pub told_marks : marks_in notes ≡ map (λ b. mark_of b) (new_marked_blocks old new)
  told_marks = ap (λ bs. map (λ b. mark_of b) bs) told_blocks

  -- they are blocks of files that are no longer than a file may be
  blocks_limit : (bytes : ℕ) → bytes ≤ 2 ^ 40 → block_count bytes ≤ 2 ^ 26
  blocks_limit bytes short =
      let below : (bytes + 16383) / 16384 < 2 ^ 26 + 1
      = (div-lt_iff_lt-mul {k = 16384} {x = bytes + 16383} {y = 2 ^ 26 + 1} (omega arith)).1 (omega (arith, short)) in
      omega (arith, below)

  pub are_inside : IsShaped new.torrent new → All (IsLawfulFile new.torrent.piece_length) new.torrent.files → AreInside notes
  are_inside shaped lawful = λ b c.
      let h = has_block t shaped b c in
      let own = subst (λ (f : File). IsLawfulFile new.torrent.piece_length f) (get_or_from_slice_get new.torrent.files b.file h.entry h.entry h.found)
      (lawful b.file h.entry (some_below new.torrent.files b.file h.found)) in
      let short = blocks_limit h.entry.length own.short in
      omega (arith, h.inside, short)

-- nor do notes of complete files name others
pub inside_alike : (s : EngineState) (notes : List Note) → AreInside notes → AreInside (notes ++ complete_by s notes)
inside_alike s notes inside = λ b c. elim (Contains-append_cases notes (complete_by s notes) (NowMarked b) c) [
  | inl own ↦ inside b own
  | inr other ↦ absurd (let m = contains_flat_map (notes_if_complete s) (numbers_in marked_file notes) other in no_mark (is_complete s m.0) m.0 m.2)
]
  where
    no_mark : (t : Bool) (file : ℕ) {b : BlockId} → Contains (if t then Complete file ∷ [] else []) (NowMarked b) → ⊥
    no_mark true file c = elim (contains_cases [] c) [ inl same ↦ absurd cc | inr none ↦ absurd (contains_none none) ]
    no_mark false file c = absurd (contains_none c)
