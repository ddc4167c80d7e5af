-- Whether all blocks of a file are marked, and all files complete.
use Rattle.bt_machine.proofs.Base.{[], ◌≡◌, ℕ, zero, suc, ◌+◌, ◌<◌, drop, get_or, Bool, true, false, List, ◌∷◌, length, Some, refl, sym, ap, ◌∙◌, arith, All, slice_get, option_map_or, range_with_len, BlockState, Missing, Waiting, Marked, ◌&&◌, Option}
use Rattle.std.specs.Prelude.{◌↔◌, IsTrue}
use Rattle.std.specs.List.{list_all, count_by}
use Rattle.std.proofs.lemmas.List.Elements.{All-nil, All-cons, All-head, All-tail}
use Rattle.std.proofs.lemmas.List.Folds.{list_all-map}
use Rattle.bt_tree.specs.Blocks.{block_count}
use Rattle.bt_store.specs.FileStore.{StoreView}
use Rattle.bt_store.specs.BlockStates.{is_marked, is_waiting}
use Rattle.bt_machine.specs.State.{FileState}
use Rattle.bt_machine.specs.Report.{report_of, all_complete}
use Rattle.bt_machine.specs.Shape.{IsShaped}
use Rattle.bt_machine.proofs.Lists.{and_true}
use Rattle.bt_engine_state.specs.Parts.{state_of, file_of}
use Rattle.bt_engine_state.specs.Ties.{IsTied, HasAllStates}
use Rattle.bt_engine_state.specs.declared.slot.Slot.{Slot}
use Rattle.bt_engine_state.proofs.Lists.{get_mapped}
use Rattle.bt_engine_state.specs.declared.parts.Parts.{Parts}

marked_is : (x : BlockState) → is_marked x ≡ true → x ≡ Marked
marked_is Missing e = absurd cc
marked_is Waiting e = absurd cc
marked_is Marked e = refl

all_from : (xs : List BlockState) → list_all is_marked xs ≡ true → All (λ x. x ≡ Marked) xs
all_from [] e = All-nil (λ x. x ≡ Marked)
all_from (x ∷ xs) e =
    let both = and_true (is_marked x) e in
    All-cons (λ x. x ≡ Marked) x xs (marked_is x both.0) (all_from xs both.1)

all_to : (xs : List BlockState) → All (λ x. x ≡ Marked) xs → list_all is_marked xs ≡ true
all_to [] all = refl
all_to (x ∷ xs) all = rw (All-head (λ x. x ≡ Marked) x xs all) (all_to xs (All-tail (λ x. x ≡ Marked) x xs all))

not_all : (xs : List BlockState) → (All (λ x. x ≡ Marked) xs → IsTrue false) → (t : Bool) → list_all is_marked xs ≡ t → false ≡ list_all is_marked xs
not_all xs none true e = (let no = none (all_from xs e) in absurd cc)
not_all xs none false e = sym e

pub is_all : (xs : List BlockState) (t : Bool) → IsTrue t ↔ All (λ x. x ≡ Marked) xs → t ≡ list_all is_marked xs
is_all xs true same = sym (all_to xs (same.0 refl))
is_all xs false same = not_all xs same.1 (list_all is_marked xs) refl

-- of a list's end, one element longer
pub passes_from : {X : Type 0} (test : X → Bool) (xs : List X) (k : ℕ) (d : X) → k < length xs → test (get_or xs k d) ≡ true
    → list_all test (drop (suc k) xs) ≡ true → list_all test (drop k xs) ≡ true
passes_from test [] k d lt e rest = absurd (omega (arith, lt))
passes_from test (x ∷ xs) zero d lt e rest = rw e rest
passes_from test (x ∷ xs) (suc k) d lt e rest = passes_from test xs k d (omega (arith, lt)) e rest

-- a test of the elements, by their indices
by_index : {X : Type 0} (test : X → Bool) (g : ℕ → Bool) (xs : List X) (a : ℕ) → ((i : ℕ) (x : X) → slice_get xs i ≡ Some x → g (a + i) ≡ test x)
    → list_all g (range_with_len a (length xs)) ≡ list_all test xs
by_index test g [] a same = refl
by_index test g (x ∷ xs) a same =
    let first : a ≡ a + 0 = omega arith in
    let rest = by_index test g xs (a + 1) (λ i y e. let at : a + 1 + i ≡ a + suc i = omega arith in ap g at ∙ same (suc i) y e) in
    ap (λ b. b && list_all g (range_with_len (a + 1) (length xs))) (ap g first ∙ same 0 x refl) ∙ ap (λ b. test x && b) rest

pub complete_slots : {D H : Type 0} (parts : Parts D H)
    → all_complete (state_of parts) ≡ list_all (λ (slot : Slot D H). list_all is_marked (file_of slot).states) parts.slots.items
complete_slots {D} {H} parts =
    let files = (state_of parts).files in
    by_index (λ (f : FileState). list_all is_marked f.states) (λ i. list_all is_marked (option_map_or (λ f. f.states) (slice_get files i) [])) files 0
    (λ i f e. let at : 0 + i ≡ i = omega arith in
    ap (λ o. list_all is_marked (option_map_or (λ f. f.states) o [])) (ap (slice_get files) at ∙ e))
    ∙ list_all-map (λ (f : FileState). list_all is_marked f.states) file_of parts.slots.items

module _ {D H : Type 0} (parts : Parts D H) (tied : IsTied parts) (shaped : IsShaped parts.torrent (state_of parts)) where
  pub states_all : (i : ℕ) (slot : Slot D H) → slice_get parts.slots.items i ≡ Some slot → HasAllStates slot
  states_all i slot here = λ (store : StoreView D) is.
      let fits = tied.each i slot here in
      let tree = fits.some store is in
      let own = shaped.each i fits.file (file_of slot) fits.listed (get_mapped file_of parts.slots.items i here) in
      ap (λ (o : Option (StoreView D)). length (option_map_or (λ store. store.states) o [])) (sym is) ∙ own.blocks ∙ ap block_count (sym tree.long)

-- a report is made of four numbers
pub report_is : (blocks marked waiting : ℕ) (complete : Bool) (f : FileState) → blocks ≡ length f.states → marked ≡ count_by is_marked f.states
    → waiting ≡ count_by is_waiting f.states → complete ≡ list_all is_marked f.states
    → record { blocks = blocks; marked = marked; waiting = waiting; complete = complete } ≡ report_of f
report_is blocks marked waiting complete f size m w all = rw (size, m, w, all) refl
