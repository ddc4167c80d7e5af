-- A slot whose store has become another.
use Rattle.bt_machine.proofs.Base.{[], ◌≡◌, ◌≢◌, ℕ, zero, suc, inl, inr, List, ◌∷◌, length, map, Option, Some, refl, sym, ap, ◌∙◌, subst, slice_get, slice_set, option_and_then, option_map, option_map_or, BlockId, BlockState, Facts, File, Call, length-set, ◌++◌, ◌+◌, take, drop, arith, ◌<◌}
use Rattle.std.proofs.Common.{add-one}
use Rattle.std.proofs.lemmas.Bool.{cases_eq}
use Rattle.bt_disk.specs.Calls.{HasCalls}
use Rattle.bt_store.specs.FileStore.{StoreView}
use Rattle.bt_machine.specs.State.{EngineState, FileState}
use Rattle.bt_machine.specs.Blocks.{state_at, states_of, block_id}
use Rattle.bt_machine.specs.Devices.{calls_at, HaveCalls}
use Rattle.bt_machine.proofs.Lists.{here as among_here, set_same, set_other, set_cases, some_is, set_get, same_some, some_below}
use Rattle.bt_engine_state.specs.BlockChange.{OneChanged}
use Rattle.bt_engine_state.specs.Parts.{file_of, disk_of}
use Rattle.bt_engine_state.specs.Ties.{FitsTree}
use Rattle.bt_engine_state.specs.declared.slot.Slot.{Slot}
use Rattle.bt_engine_state.proofs.BlockChanges.{EachFits}
use Rattle.bt_engine_state.proofs.DeviceCalls.{have_one}
use Rattle.bt_engine_state.proofs.Lists.{get_mapped, map_set}
use Rattle.bt_disk.specs.Conduct.{Conduct}

-- ---- one block of a file, in a state of the machine

module _ (s t : EngineState) (file block : ℕ) (f : FileState) (was now : BlockState) (stands : slice_get s.files file ≡ Some f)
    (had : slice_get f.states block ≡ Some was) (torrent : t.torrent ≡ s.torrent)
    (files : t.files ≡ slice_set s.files file (record f { states = slice_set f.states block now })) where
  abbrev g : FileState
  g = record f { states = slice_set f.states block now }

  -- what a file has now
  file_then : slice_get t.files file ≡ Some g
  file_then = ap (λ (fs : List FileState). slice_get fs file) files ∙ set_same s.files file stands

  file_else : (other : ℕ) → other ≢ file → slice_get t.files other ≡ slice_get s.files other
  file_else other apart = ap (λ (fs : List FileState). slice_get fs other) files ∙ set_other s.files file other g apart

  at_then : (b : BlockId) → b.file ≡ file → state_at t b ≡ slice_get (slice_set f.states block now) b.block
  at_then b same =
      ap (λ n. option_and_then (λ (h : FileState). slice_get h.states b.block) (slice_get t.files n)) same
      ∙ ap (λ o. option_and_then (λ (h : FileState). slice_get h.states b.block) o) file_then

  at_first : (b : BlockId) → b.file ≡ file → state_at s b ≡ slice_get f.states b.block
  at_first b same =
      ap (λ n. option_and_then (λ (h : FileState). slice_get h.states b.block) (slice_get s.files n)) same
      ∙ ap (λ o. option_and_then (λ (h : FileState). slice_get h.states b.block) o) stands

  pub block_changed : OneChanged s t (block_id file block) was now
  block_changed = record {
    differ = record {
      same_torrent = torrent;
      files = ap (λ (fs : List FileState). length fs) files ∙ length-set s.files file g;
      sizes = λ other. elim (cases_eq other file) [
        | inl same ↦ ap (λ n. length (states_of t n)) same ∙ ap (λ o. length (option_map_or (λ (h : FileState). h.states) o [])) file_then
            ∙ length-set f.states block now ∙ ap (λ o. length (option_map_or (λ (h : FileState). h.states) o [])) (sym stands)
            ∙ ap (λ n. length (states_of s n)) (sym same)
        | inr apart ↦ ap (λ o. length (option_map_or (λ (h : FileState). h.states) o [])) (file_else other apart)
      ];
      others = λ b out. elim (cases_eq b.file file) [
        | inl same ↦ at_then b same
            ∙ set_other f.states block b.block now (λ e. out (among_here [] (ap (λ n. block_id n block) (sym same) ∙ ap (λ n. block_id b.file n) (sym e))))
            ∙ sym (at_first b same)
        | inr apart ↦ ap (λ o. option_and_then (λ (h : FileState). slice_get h.states b.block) o) (file_else b.file apart)
      ];
    };
    before = at_first (block_id file block) refl ∙ had;
    after = at_then (block_id file block) refl ∙ set_same f.states block had;
  }

-- a file that is set twice is set once
pub set_again : {X : Type 0} (xs : List X) (i : ℕ) (x y : X) → slice_set (slice_set xs i x) i y ≡ slice_set xs i y
set_again [] zero x y = refl
set_again [] (suc i) x y = refl
set_again (z ∷ xs) zero x y = refl
set_again (z ∷ xs) (suc i) x y = ap (λ ys. z ∷ ys) (set_again xs i x y)

-- ---- the states of a file's blocks, of which those below k are the new ones

abbrev pub states_up_to : List BlockState → List BlockState → ℕ → List BlockState
states_up_to old new k = take k new ++ drop k old

pub all_new : (old new : List BlockState) → length new ≡ length old → states_up_to old new (length old) ≡ new
all_new [] [] size = refl
all_new [] (y ∷ new) size = absurd (omega arith)
all_new (x ∷ old) [] size = absurd (omega arith)
all_new (x ∷ old) (y ∷ new) size = ap (λ ys. y ∷ ys) (all_new old new (omega arith))

-- the block at k has its old state still
pub still_old : (old new : List BlockState) (k : ℕ) → length new ≡ length old → k < length old
    → slice_get (states_up_to old new k) k ≡ slice_get old k
still_old [] new k size lt = absurd (omega arith)
still_old (x ∷ old) new zero size lt = refl
still_old (x ∷ old) [] (suc k) size lt = absurd (omega arith)
still_old (x ∷ old) (y ∷ new) (suc k) size lt = still_old old new k (omega arith) (omega arith)

next_by : (old new : List BlockState) (k : ℕ) {y : BlockState} → length new ≡ length old → slice_get new k ≡ Some y
    → states_up_to old new (suc k) ≡ slice_set (states_up_to old new k) k y
next_by [] [] k size is = absurd (let lt = some_below {X = BlockState} [] k is in omega arith)
next_by [] (z ∷ new) k size is = absurd (omega arith)
next_by (x ∷ old) [] k size is = absurd (omega arith)
next_by (x ∷ old) (z ∷ new) zero size is = ap (λ w. w ∷ old) (some_is is)
next_by (x ∷ old) (z ∷ new) (suc k) size is = ap (λ ys. z ∷ ys) (next_by old new k (omega arith) is)

-- it gets its new one
pub next_new : (old new : List BlockState) (k : ℕ) {y : BlockState} → length new ≡ length old → slice_get new k ≡ Some y
    → states_up_to old new (k + 1) ≡ slice_set (states_up_to old new k) k y
next_new old new k size is = rw (add-one k) (next_by old new k size is)

-- ---- slots

-- a tree has become another, of the same length
pub fits_trees : {D H : Type 0} {files : List File} {trees : List Facts} (slots : List (Slot D H)) (i : ℕ) {k : Facts} (n : Facts)
    → slice_get trees i ≡ Some k → n.file_length ≡ k.file_length → EachFits files trees slots → EachFits files (slice_set trees i n) slots
fits_trees {trees = trees} slots i n stood same fits = λ j slot at.
    let old = fits j slot at in
    record {
      file = old.file;
      listed = old.listed;
      empty = old.empty;
      some = λ store e. (
          let of = old.some store e in
          elim (set_get trees i slot.tree {y = n} of.stands) [
            | inl now ↦ record {
              facts = n;
              stands = now.1;
              same = same ∙ ap (λ (x : Facts). x.file_length) (same_some stood (ap (λ t. slice_get trees t) (sym now.0) ∙ of.stands)) ∙ of.same;
              long = of.long;
            }
            | inr kept ↦ record { facts = of.facts; stands = kept; same = of.same; long = of.long }
          ]
          );
    }

module _ {D H : Type 0} (slots : List (Slot D H)) (i : ℕ) {slot : Slot D H} {store : StoreView D} (here : slice_get slots i ≡ Some slot)
    (has : slot.store ≡ Some store) (after : StoreView D) where
  -- the slots then
  abbrev pub changed : List (Slot D H)
  changed = slice_set slots i (record slot { store = Some after })

  pub file_here : slice_get (map file_of slots) i ≡ Some (record { tree = slot.tree; states = store.states })
  file_here =
      get_mapped file_of slots i here
      ∙ ap (λ (o : Option (StoreView D)). Some (record { tree = slot.tree; states = option_map_or (λ st. st.states) o [] })) has

  pub disk_here : slice_get (map disk_of slots) i ≡ Some (Some store.disk)
  disk_here = get_mapped disk_of slots i here ∙ ap (λ (o : Option (StoreView D)). Some (option_map (λ st. st.disk) o)) has

  pub files_changed : map file_of changed ≡ slice_set (map file_of slots) i (record { tree = slot.tree; states = after.states })
  files_changed = map_set file_of file_of slots i (record slot { store = Some after }) (λ j x apart e. refl)

  pub disks_changed : map disk_of changed ≡ slice_set (map disk_of slots) i (Some after.disk)
  disks_changed = map_set disk_of disk_of slots i (record slot { store = Some after }) (λ j x apart e. refl)

  -- calls of the store's device are calls of all devices
  pub have_changed : (conduct : Conduct D) (calls : List Call)
      → HasCalls conduct store.disk calls after.disk
      → HaveCalls conduct (map disk_of slots) (calls_at i calls) (map disk_of changed)
  have_changed conduct calls made =
      rw disks_changed (have_one conduct (map disk_of slots) i store.disk after.disk calls disk_here made)

  pub fits_changed : {files : List File} {trees : List Facts} → after.file_length ≡ store.file_length → EachFits files trees slots
      → EachFits files trees changed
  fits_changed {files} {trees} same fits = λ j other at. elim (set_cases slots i j at) [
    | inl now ↦ (
        let old = fits i slot here in
        let of = old.some store has in
        rw now.1 (record {
          file = old.file;
          listed = ap (λ n. slice_get files n) now.0 ∙ old.listed;
          empty = λ none. absurd cc;
          some = λ x e. subst (λ (y : StoreView D). FitsTree trees slot.tree old.file y) (some_is e)
              (record { facts = of.facts; stands = of.stands; same = of.same ∙ sym same; long = same ∙ of.long });
        })
        )
    | inr before ↦ fits j other before
  ]

  -- one block of the store has another state
  pub slot_block_changed : (s t : EngineState) → s.files ≡ map file_of slots → t.torrent ≡ s.torrent → t.files ≡ map file_of changed
      → (block : ℕ) (was now : BlockState) → slice_get store.states block ≡ Some was → after.states ≡ slice_set store.states block now
      → OneChanged s t (block_id i block) was now
  slot_block_changed s t first torrent last block was now had states =
      block_changed s t i block (record { tree = slot.tree; states = store.states }) was now
      (ap (λ (fs : List FileState). slice_get fs i) first ∙ file_here) had torrent
      (last ∙ files_changed ∙ ap (λ (fs : List FileState). slice_set fs i (record { tree = slot.tree; states = after.states })) (sym first)
      ∙ ap (λ (states : List BlockState). slice_set s.files i (record { tree = slot.tree; states = states })) states)
