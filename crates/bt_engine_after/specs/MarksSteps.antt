-- Blocks of a file that are not marked, or that wait, and the marks that are left of them for a log.
use Rattle.std.specs.Prelude.{ℕ, ◌+◌, ◌<◌, Bool, not, ◌&&◌, List, All, map, filter, length, sum_by}
use Rattle.std.specs.Int.{div_ceil}
use Rattle.std.specs.List.{AllPairs, range_with_len}
use Rattle.bt_resume.specs.Hint.{IsRun}
use Rattle.bt_resume.specs.declared.hint.Hint.{Hint}
use Rattle.bt_store.specs.Review.{is_marked_at, is_waiting_at}
use Rattle.bt_store.specs.declared.block_states.BlockState.{BlockState}
use Rattle.bt_machine.specs.Hints.{mark_of}
use Rattle.bt_machine.specs.Blocks.{block_id}
use Rattle.bt_engine_after.specs.declared.marks.FileRun.{FileRun}
use Rattle.bt_engine_after.specs.declared.marks.Kind.{Kind}
use Rattle.bt_engine_after.specs.declared.marks.Kind.TheVariants.{Unmarked, Waits}

-- the block is of this kind
abbrev pub is_of : Kind → List BlockState → ℕ → Bool
is_of Unmarked states i = not (is_marked_at states i)
is_of Waits states i = is_waiting_at states i

-- of this many blocks from one on, those of a kind
abbrev pub blocks_of_kind : Kind → List BlockState → (first count : ℕ) → List ℕ
blocks_of_kind kind states first count = filter (is_of kind states) (range_with_len first count)

-- those that are not marked
abbrev pub unmarked_blocks : List BlockState → (first count : ℕ) → List ℕ
unmarked_blocks states first count = blocks_of_kind Unmarked states first count

-- the blocks of a file that have become marked
abbrev pub newly_marked : (old new : List BlockState) → List ℕ
newly_marked old new =
    filter (λ i. is_marked_at new i && not (is_marked_at old i)) (range_with_len 0 (length new))

-- a mark of each of these blocks
abbrev pub marks_in : (file : ℕ) → List ℕ → List Hint
marks_in file blocks = map (λ i. mark_of (block_id file i)) blocks

abbrev pub run_blocks : FileRun → List ℕ
run_blocks run = range_with_len run.first run.count

-- Each run has a block and lies where a file's blocks may. It ends before the next one begins, with a block
-- between them, so the runs are as few as may be.
pub record AreRuns (runs : List FileRun) : Type 0 where
  pub each : All (λ run. IsRun run.first run.count) runs
  pub apart : AllPairs (λ run later. run.first + run.count < later.first) runs

-- all end before this block
abbrev pub EndBefore : ℕ → List FileRun → Type 0
EndBefore block runs = All (λ run. run.first + run.count < block) runs

-- How many runs those of their blocks make at most that are marked, whichever they are: between two of them
-- there is a block that is not.
abbrev pub most_hints : List FileRun → ℕ
most_hints runs = sum_by (λ run. div_ceil run.count 2) runs
