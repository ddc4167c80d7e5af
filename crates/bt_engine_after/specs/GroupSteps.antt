-- A group of a file's blocks, and what it leaves for a log.
use Rattle.std.specs.Prelude.{[], ◌≡◌, ℕ, Bool, if◌then◌else◌, List, ◌++◌, Option, option_map}
use Rattle.std.specs.List.{AllZip}
use Rattle.bt_disk.specs.Conduct.{Conduct}
use Rattle.bt_sparse.specs.SparseTree.{Facts}
use Rattle.bt_resume.specs.ResumeLog.{LogView}
use Rattle.bt_resume.specs.declared.hint.Hint.{Hint}
use Rattle.bt_store.specs.FileStore.{StoreView}
use Rattle.bt_store.specs.BlockReads.{BlockRead}
use Rattle.bt_store.specs.Adoption.{IsAdopted, StopsAdopting}
use Rattle.bt_store.specs.declared.adoption.Adopted.{Adopted}
use Rattle.bt_machine.specs.Hints.{add_hints}
use Rattle.bt_machine.specs.Adopting.{IsProof, proof_keys}
use Rattle.bt_engine_state.specs.declared.open_log.OpenLog.{OpenLog}
use Rattle.bt_engine_after.specs.MarksSteps.{newly_marked, marks_in}

-- the log itself, without what waits for it
abbrev pub log_in : {D : Type 0} → Option (OpenLog D) → Option (LogView D)
log_in log = option_map (λ opened. opened.log) log

-- what is taken in changes no more of an engine: a file's tree and its store, and the hints that wait
pub record FileView (D : Type 0) : Type 0 where
  pub tree : Facts
  pub store : StoreView D
  pub pending : List Hint

abbrev pub file_view : {D : Type 0} → Facts → StoreView D → List Hint → FileView D
file_view tree store pending = record { tree = tree; store = store; pending = pending }

-- The store took in the group of a block. With a log these are left after what was pending: its proofs, and
-- then the marks of its newly marked blocks.
pub record TakesGroup {D : Type 0} (conduct : Conduct D)
    (dig : List ℕ → List ℕ) (file : ℕ) (logged : Bool) (from : ℕ) (old : FileView D) (adopted : Adopted)
    (new : FileView D) : Type 0 where
  pub reads : List BlockRead
  pub adopts : IsAdopted conduct dig old.tree from old.store reads adopted new.tree new.store
  pub proofs : List Hint
  pub proves : AllZip (IsProof dig new.tree) (proof_keys new.tree from adopted) proofs
  pub leaves : new.pending ≡ add_hints old.pending
      (if logged then proofs ++ marks_in file (newly_marked old.store.states new.store.states) else [])

-- memory was refused: before the group was read, or to the store
pub data StopsGroup {D : Type 0} (conduct : Conduct D)
    (dig : List ℕ → List ℕ) (k : Facts) (from : ℕ) (old new : StoreView D) : Type 0 where
  not_read : new ≡ old → StopsGroup conduct dig k from old new
  not_taken : (reads : List BlockRead) → StopsAdopting conduct dig k from old reads new
      → StopsGroup conduct dig k from old new
