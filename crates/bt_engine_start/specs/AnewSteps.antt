-- How all is begun anew, with the hints of a log or with none. No public contract cites it.
use Rattle.std.specs.Prelude.{[], ◌≡◌}
use Rattle.std.specs.Option.{option_map}
use Rattle.bt_store.specs.FileStore.{StoreView, new_states}
use Rattle.bt_engine_state.specs.Parts.{state_of}
use Rattle.bt_engine_state.specs.declared.parts.Parts.{Parts}
use Rattle.bt_engine_state.specs.declared.slot.Slot.{Slot}

-- the store, all blocks of which are missing; its device stays
abbrev pub cleared_store : {D : Type 0} → StoreView D → StoreView D
cleared_store store = record store { states = new_states store.file_length }

-- the slot with such a store, where it has one; its tree stays
abbrev pub cleared : {D H : Type 0} → Slot D H → Slot D H
cleared slot = record slot { store = option_map cleared_store slot.store }

-- Trees and files are others, no peer is connected, and nothing waits to be written to a log. Keys and turns
-- go on, and so do the log and its hints.
abbrev pub GoesOn : {D H : Type 0} → Parts D H → Parts D H → Type 0
GoesOn old new = state_of new ≡ record (state_of old) {
  trees = (state_of new).trees;
  files = (state_of new).files;
  peers = [];
  pending = [];
}
