-- The groups of a file, taken in one after the other by its store.
use Rattle.std.specs.Prelude.{◌≡◌, ℕ, Bool, List, length, map, flat_map}
use Rattle.bt_disk.specs.Conduct.{Conduct}
use Rattle.bt_disk.specs.Calls.{HasCalls}
use Rattle.bt_store.specs.FileStore.{StoreView}
use Rattle.bt_store.specs.BlockReads.{BlockRead, call_of}
use Rattle.bt_store.specs.declared.block_states.BlockState.{BlockState}
use Rattle.bt_store.specs.declared.adoption.Adopted.{Adopted}
use Rattle.bt_machine.specs.State.{FileState, EngineState}
use Rattle.bt_machine.specs.Devices.{reads_at}
use Rattle.bt_machine.specs.Blocks.{with_file, with_tree}
use Rattle.bt_machine.specs.Request.{IsFile}
use Rattle.bt_machine.specs.Adopting.{AdoptsGroups, StopsAt}
use Rattle.bt_engine_state.specs.Ties.{StillKnows}
use Rattle.bt_engine_after.specs.GroupSteps.{FileView}

-- the reads of all groups
abbrev pub all_reads : List (List BlockRead) → List BlockRead
all_reads groups = flat_map (λ reads. reads) groups

abbrev pub file_with : ℕ → List BlockState → FileState
file_with tree states = record { tree = tree; states = states }

-- In every engine that has a log or has none, as is told, and this file's tree, states and pending hints, the
-- machine takes in the groups so, from the first block on.
abbrev pub AreTaken : {D : Type 0} → (List ℕ → List ℕ) → (file : ℕ) → (logged : Bool) → (old : FileView D)
    → List (List BlockRead) → Adopted → (new : FileView D) → Type 0
AreTaken dig file logged old groups total new = (s : EngineState) (tree : ℕ)
    → s.logged ≡ logged → s.pending ≡ old.pending → IsFile s file (file_with tree old.store.states) old.tree
    → AdoptsGroups dig s file 0 (map (reads_at file old.tree.file_length) groups) total
    (record (with_tree (with_file s file (file_with tree new.store.states)) tree new.tree)
    { pending = new.pending })

-- the groups are taken in by some reads, and no other call failed or changed an honest device
pub record TakesGroups {D : Type 0} (conduct : Conduct D)
    (dig : List ℕ → List ℕ) (file : ℕ) (logged : Bool) (old : FileView D) (total : Adopted)
    (new : FileView D) : Type 0 where
  pub groups : List (List BlockRead)
  pub calls : HasCalls conduct
      old.store.disk (map (call_of old.store.file_length) (all_reads groups)) new.store.disk
  pub taken : AreTaken dig file logged old groups total new
  pub same_file : new.store.file_length ≡ old.store.file_length
  pub same_size : length new.store.states ≡ length old.store.states
  pub still : StillKnows old.tree new.tree

-- Memory was refused: some groups were taken in; the next one was read or was not, and changed nothing.
pub record StopsTaking {D : Type 0} (conduct : Conduct D)
    (dig : List ℕ → List ℕ) (file : ℕ) (logged : Bool) (old new : FileView D) : Type 0 where
  pub done : Adopted
  pub before : StoreView D
  pub last : List BlockRead
  pub takes : TakesGroups conduct dig file logged old done (record new { store = before })
  pub calls : HasCalls conduct
      before.disk (map (call_of before.file_length) last) new.store.disk
  pub stops : StopsAt new.tree done.next last
  pub others : new.store ≡ record before { disk = new.store.disk }
