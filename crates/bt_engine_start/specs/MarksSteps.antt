-- Blocks that are recalled, in the slots of files. No public contract cites it.
use Rattle.std.specs.Prelude.{ℕ, List, length, slice_get}
use Rattle.std.specs.Option.{option_map, option_map_or}
use Rattle.bt_sparse.specs.SparseTree.{Facts}
use Rattle.bt_resume.specs.declared.hint.Hint.{Hint}
use Rattle.bt_store.specs.FileStore.{StoreView}
use Rattle.bt_store.specs.Law.{all_recalled}
use Rattle.bt_machine.specs.Recovery.{recorded_blocks}
use Rattle.bt_engine_start.specs.RecallingSteps.{known_in_run}
use Rattle.bt_engine_start.specs.declared.runs.MarkRun.{MarkRun}
use Rattle.bt_engine_state.specs.declared.slot.Slot.{Slot}

-- of the file's tree, which blocks of it are meant
abbrev pub Meant : Type 0
Meant = Facts → (count : ℕ) → List ℕ

-- the meant blocks of a file are recalled; a file whose tree is not there stays as it is
abbrev pub recalled_store : {D : Type 0} → Meant → Facts → StoreView D → StoreView D
recalled_store meant k store =
    record store { states = all_recalled store.states (meant k (length store.states)) }

abbrev pub recalled_in : {D H : Type 0} → Meant → List Facts → Slot D H → Slot D H
recalled_in meant trees slot = option_map_or
    (λ k. record slot { store = option_map (recalled_store meant k) slot.store })
    (slice_get trees slot.tree) slot

-- those that hints record and whose leaves are known
abbrev pub recalled_slot : {D H : Type 0} → (List ℕ → List ℕ) → List Hint → List Facts → (file : ℕ)
    → Slot D H → Slot D H
recalled_slot dig hints trees file slot =
    recalled_in (λ k count. recorded_blocks dig k hints file count) trees slot

-- those of one run
abbrev pub with_run : {D H : Type 0} → (List ℕ → List ℕ) → List Facts → MarkRun → Slot D H → Slot D H
with_run dig trees run slot = recalled_in (λ k blocks. known_in_run dig k blocks run) trees slot
