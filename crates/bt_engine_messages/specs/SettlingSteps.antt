-- Blocks of a file that are read back.
use Rattle.std.specs.Prelude.{◌≡◌, ℕ, Bool, false, ◌&&◌, is_some, if◌then◌else◌, List, ◌++◌}
use Rattle.bt_disk.specs.Conduct.{Conduct}
use Rattle.bt_sparse.specs.SparseTree.{Facts, value_at}
use Rattle.bt_store.specs.FileStore.{StoreView}
use Rattle.bt_store.specs.BlockReads.{BlockRead, IsJudged}
use Rattle.bt_store.specs.Review.{is_waiting_at, is_marked_at, waiting_blocks}
use Rattle.bt_store.specs.declared.block_states.BlockState.{BlockState}
use Rattle.bt_machine.specs.declared.answer.Note.{Note}
use Rattle.bt_machine.specs.declared.answer.Note.TheVariants.{Marked, Freed}
use Rattle.bt_machine.specs.Blocks.{block_id}
use Rattle.bt_machine.specs.Settling.{settling_notes}

-- the block waits and its leaf is known
abbrev pub is_due : (List ℕ → List ℕ) → Facts → List BlockState → ℕ → Bool
is_due dig k states i = is_waiting_at states i && is_some (value_at dig k 0 i)

-- what became of a block that was read back, where the file's blocks have these states then
abbrev pub note_at : (file : ℕ) → List BlockState → ℕ → Note
note_at file states i = if is_marked_at states i then Marked (block_id file i) else Freed (block_id file i)

-- Those of this many blocks from one on were read back that wait and whose leaf is known, and to the notes that
-- there were the machine's are added.
pub record SettlesBlocks {D : Type 0} (conduct : Conduct D)
    (dig : List ℕ → List ℕ) (k : Facts) (file from count : ℕ) (old : StoreView D) (before after : List Note)
    (new : StoreView D) : Type 0 where
  pub reads : List BlockRead
  pub judged : IsJudged conduct dig k false (waiting_blocks dig k old.states from count)
      old reads new
  pub noted : after ≡ before ++ settling_notes dig k file reads
