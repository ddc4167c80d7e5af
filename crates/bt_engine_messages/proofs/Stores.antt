-- A block that has a state stands in the store of a slot.
use Rattle.bt_machine.proofs.Base.{[], ◌≡◌, ℕ, Some, None, Option, refl, ap, ◌∙◌, arith, slice_get, map, BlockId, BlockState, Facts}
use Rattle.bt_machine.proofs.Lists.{get_map, and_then_some, some_below}
use Rattle.bt_meta.specs.Files.{File}
use Rattle.bt_store.specs.FileStore.{StoreView}
use Rattle.bt_machine.specs.State.{FileState}
use Rattle.bt_machine.specs.Blocks.{state_at}
use Rattle.bt_engine_state.specs.Parts.{state_of, file_of}
use Rattle.bt_engine_state.specs.Ties.{IsTied}
use Rattle.bt_engine_state.specs.declared.slot.Slot.{Slot}
use Rattle.bt_engine_state.specs.declared.parts.Parts.{Parts}
use Rattle.bt_engine_messages.specs.SlotSteps.{HasStore}

pub record HasState {D H : Type 0} (parts : Parts D H) (b : BlockId) (x : BlockState) : Type 0 where
  pub slot : Slot D H
  pub store : StoreView D
  pub tree : Facts
  pub entry : File
  pub has_store : HasStore parts.slots.items parts.trees.items b.file slot store tree
  pub state : slice_get store.states b.block ≡ Some x
  pub listed : slice_get parts.torrent.files b.file ≡ Some entry
  pub long : store.file_length ≡ entry.length

no_state : (i : ℕ) {x : BlockState} → slice_get [] i ≡ Some x → ⊥
no_state i e = let lt = some_below [] i e in absurd (omega arith)

module _ {D H : Type 0} (parts : Parts D H) (b : BlockId) (x : BlockState) (tied : IsTied parts) where
  in_slot : (slot : Slot D H) (o : Option (StoreView D)) → slot.store ≡ o → slice_get parts.slots.items b.file ≡ Some slot
      → slice_get (file_of slot).states b.block ≡ Some x → HasState parts b x
  in_slot slot None none here state = absurd (no_state b.block (rw none at state))
  in_slot slot (Some store) has here state =
      let fits = tied.each b.file slot here in
      let tree = fits.some store has in
      record {
        slot = slot;
        store = store;
        tree = tree.facts;
        entry = fits.file;
        has_store = record { here = here; has = has; has_tree = tree.stands; same_length = tree.same };
        state = rw has at state;
        listed = fits.listed;
        long = tree.long;
      }

  pub has_state : state_at (state_of parts) b ≡ Some x → HasState parts b x
  has_state at =
      let f = and_then_some (λ (f : FileState). slice_get f.states b.block) (slice_get (map file_of parts.slots.items) b.file) at in
      let s = get_map file_of parts.slots.items b.file f.1 in
      in_slot s.0 s.0.store refl s.1 (ap (λ (f : FileState). slice_get f.states b.block) s.2 ∙ f.2)
