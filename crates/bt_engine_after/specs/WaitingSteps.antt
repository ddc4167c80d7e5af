-- The blocks that wait in the other files of a tree, and room for their marks.
use Rattle.std.specs.Prelude.{[], ◌≡◌, ℕ, ◌==◌, false, Bool, if◌then◌else◌, List, All, map, filter, flat_map, length, sum_by, Option, slice_get}
use Rattle.std.specs.Option.{option_map_or}
use Rattle.std.specs.List.{range_with_len}
use Rattle.bt_book.specs.declared.names.BlockId.{BlockId}
use Rattle.bt_store.specs.Review.{is_waiting_at, is_marked_at}
use Rattle.bt_machine.specs.State.{FileState}
use Rattle.bt_machine.specs.Blocks.{block_id}
use Rattle.bt_machine.specs.Adopting.{is_other}
use Rattle.bt_engine_state.specs.Parts.{log_of}
use Rattle.bt_engine_state.specs.declared.open_log.OpenLog.{OpenLog}
use Rattle.bt_engine_state.specs.declared.parts.Parts.{Parts}
use Rattle.bt_engine_after.specs.MarksSteps.{run_blocks, AreRuns, most_hints}
use Rattle.bt_engine_after.specs.declared.waiting.FileRuns.{FileRuns}

-- for how many more hints there is room; without a log for none
abbrev pub room_in : {D : Type 0} → Option (OpenLog D) → ℕ
room_in log = option_map_or (λ opened. opened.pending.room) log 0

-- nothing changed but what waits for the log
pub record OnlyPendingChanges {D H : Type 0} (old new : Parts D H) : Type 0 where
  pub others : new ≡ record old { log = new.log }
  pub log : log_of new ≡ log_of old

-- the block is marked in these files
abbrev pub is_marked_among : List FileState → BlockId → Bool
is_marked_among files b = option_map_or (λ f. is_marked_at f.states b.block) (slice_get files b.file) false

-- the blocks of a file that wait, where it is of this tree
abbrev pub waiting_blocks_in : (tree : ℕ) → FileState → List ℕ
waiting_blocks_in tree f =
    if f.tree == tree then filter (is_waiting_at f.states) (range_with_len 0 (length f.states)) else []

-- the blocks that wait in one of these files, where it is of this tree
abbrev pub waiting_in : (tree : ℕ) → List FileState → (file : ℕ) → List BlockId
waiting_in tree files file =
    map (block_id file) (option_map_or (waiting_blocks_in tree) (slice_get files file) [])

-- the blocks that wait in the files of a tree, all but this one, by file and block
abbrev pub waiting_in_others : (file tree : ℕ) → List FileState → List BlockId
waiting_in_others file tree files =
    flat_map (λ other. if is_other file other then waiting_in tree files other else [])
    (range_with_len 0 (length files))

-- the blocks that are listed, by file and block
abbrev pub listed_in : FileRuns → List BlockId
listed_in listed = map (block_id listed.file) (flat_map run_blocks listed.runs.items)

abbrev pub listed_blocks : List FileRuns → List BlockId
listed_blocks files = flat_map listed_in files

-- they are so in runs
abbrev pub AreListed : List FileRuns → Type 0
AreListed files = All (λ listed. AreRuns listed.runs.items) files

-- how many hints their marks take at most, whichever of them are marked
abbrev pub most_hints_of_all : List FileRuns → ℕ
most_hints_of_all files = sum_by (λ listed. most_hints listed.runs.items) files
