-- The parts of an engine of which only devices and the log changed.
use Rattle.bt_machine.proofs.Base.{◌≡◌, ℕ, List, [], ◌∷◌, length, map, Option, Some, None, option_map, option_map_or, slice_get, refl, sym, ap, ◌∙◌, BlockState, length-map, subst, Result}
use Rattle.bt_meta.specs.Files.{File}
use Rattle.bt_sparse.specs.SparseTree.{Facts}
use Rattle.bt_store.specs.FileStore.{StoreView}
use Rattle.bt_machine.proofs.Lists.{get_map, map_some}
use Rattle.bt_machine.specs.State.{EngineState, FileState}
use Rattle.bt_machine.specs.Blocks.{state_at}
use Rattle.bt_machine.specs.declared.error.FlushError.{FlushError}
use Rattle.bt_engine_state.specs.Parts.{state_of, file_of}
use Rattle.bt_engine_state.specs.Ties.{IsTied, FitsFile, AreCounted, KnowsLeaves}
use Rattle.bt_engine_state.specs.declared.slot.Slot.{Slot}
use Rattle.bt_engine_state.specs.declared.open_log.OpenLog.{OpenLog}
use Rattle.bt_engine_state.specs.declared.parts.Parts.{Parts}
use Rattle.bt_engine_state.proofs.Lists.{get_mapped}
use Rattle.bt_engine_state.proofs.Ties.{tied_again}
use Rattle.bt_engine_after.specs.DevicesSteps.{store_without_disk, without_disk, SyncsSlots}
use Rattle.bt_disk.specs.Conduct.{Conduct}

-- the machine's file of what is kept
abbrev file_from : ℕ × Option (ℕ × List BlockState) → FileState
file_from kept = record { tree = kept.0; states = option_map_or (λ k. k.1) kept.1 [] }

none_from : {D : Type 0} {o p : Option (StoreView D)} → option_map store_without_disk o ≡ option_map store_without_disk p
    → p ≡ None → o ≡ None
none_from {o = None} same none = refl
none_from {o = Some store} same none = absurd (let gone = same ∙ ap (option_map store_without_disk) none in cc)

module _ {D H : Type 0} where
  file_kept : (slot : Slot D H) → file_of slot ≡ file_from (without_disk slot)
  file_kept slot = ap (λ (states : List BlockState). record { tree = slot.tree; states = states }) (by slot.store)
    where
      by : (o : Option (StoreView D)) → option_map_or (λ store. store.states) o []
          ≡ option_map_or (λ (k : ℕ × List BlockState). k.1) (option_map store_without_disk o) []
      by None = refl
      by (Some store) = refl

  files_kept : (slots : List (Slot D H)) → map file_of slots ≡ map file_from (map without_disk slots)
  files_kept [] = refl
  files_kept (slot ∷ slots) = ap (λ f. f ∷ map file_of slots) (file_kept slot) ∙ ap (λ fs. file_from (without_disk slot) ∷ fs) (files_kept slots)

  pub files_stay : (old new : List (Slot D H)) → map without_disk new ≡ map without_disk old → map file_of new ≡ map file_of old
  files_stay old new kept = files_kept new ∙ ap (map file_from) kept ∙ sym (files_kept old)

  fits_kept : (files : List File) (trees : List Facts) (i : ℕ) (old new : Slot D H) → without_disk old ≡ without_disk new → FitsFile files trees i old
      → FitsFile files trees i new
  fits_kept files trees i old new kept fits = record {
    file = fits.file;
    listed = fits.listed;
    empty = λ none. fits.empty (none_from (ap (λ k. k.1) kept) none);
    some = λ store is. (
        let was = map_some store_without_disk old.store
        (ap (λ k. k.1) kept ∙ ap (option_map store_without_disk) is) in
        let long : was.0.file_length ≡ store.file_length = ap (λ k. k.0) was.2 in
        let tree = fits.some was.0 was.1 in
        record {
          facts = tree.facts;
          stands = ap (slice_get trees) (sym (ap (λ k. k.0) kept)) ∙ tree.stands;
          same = tree.same ∙ long;
          long = sym long ∙ tree.long;
        }
        );
  }

  -- the slots as they were passed and as they came back
  pub synced_as : (conduct : Conduct D) (r : Result (Unit {0}) FlushError) {passed old back new : List (Slot D H)}
      → passed ≡ old → new ≡ back → SyncsSlots conduct passed r back → SyncsSlots conduct old r new
  synced_as conduct r {old = old} {back = back} was now synced =
      subst (λ (slots : List (Slot D H)). SyncsSlots conduct old r slots) (sym now)
      (subst (λ (slots : List (Slot D H)). SyncsSlots conduct slots r back) was synced)

  module _ (old new : Parts D H) (kept : map without_disk new.slots.items ≡ map without_disk old.slots.items) where
    pub state_kept : state_of (record old { slots = new.slots }) ≡ state_of old
    state_kept = ap (λ (files : List FileState). record (state_of old) { files = files }) (files_stay old.slots.items new.slots.items kept)

    fits_still : IsTied old → (i : ℕ) (slot : Slot D H) → slice_get new.slots.items i ≡ Some slot → FitsFile old.torrent.files old.trees.items i slot
    fits_still tied i slot here =
        let was = get_map without_disk old.slots.items i (ap (λ ks. slice_get ks i) (sym kept) ∙ get_mapped without_disk new.slots.items i here) in
        fits_kept old.torrent.files old.trees.items i was.0 slot was.2 (tied.each i was.0 was.1)

    pub tied_kept : IsTied old → IsTied (record old { slots = new.slots })
    tied_kept tied = record {
      joined = tied.joined;
      in_order = tied.in_order;
      room = tied.room;
      wanted = λ b. rw (ap (λ s. state_at s b) state_kept) (tied.wanted b);
      ranged = λ b x at. tied.ranged b x (sym (ap (λ s. state_at s b) state_kept) ∙ at);
      count = sym (length-map new.slots.items without_disk) ∙ ap (λ ks. length ks) kept ∙ length-map old.slots.items without_disk ∙ tied.count;
      each = fits_still tied;
      roots = tied.roots;
      counted = subst (λ (s : EngineState). AreCounted s old.counts) (sym state_kept) tied.counted;
      known = subst (λ (s : EngineState). KnowsLeaves s old.known) (sym state_kept) tied.known;
    }

    -- and with another log
    pub tied_with : IsTied old → (log : Option (OpenLog D)) → IsTied (record old { slots = new.slots; log = log })
    tied_with tied log =
        let synced = tied_kept tied in
        tied_again (record old { slots = new.slots }) (record old { slots = new.slots; log = log }) synced refl refl refl refl refl refl refl
        synced.joined synced.in_order synced.room
