-- What a part finds of its blocks of a file.
use Rattle.std.specs.Prelude.{◌≡◌, ℕ, ◌+◌, ◌-◌, ◌*◌, ◌/◌, ◌^◌, ◌<◌, ◌↔◌, ◌⊎◌, ◌++◌, List, Option, IsTrue, false, map}
use Rattle.std.specs.Io.KnownBytes.{Appends, Keeps}
use Rattle.std.specs.List.{All, flat_map, list_any, range_with_len}
use Rattle.bt_tree.specs.Blocks.{block_count}
use Rattle.bt_disk.specs.Conduct.{Conduct}
use Rattle.bt_disk.specs.Calls.{HasCalls}
use Rattle.bt_sparse.specs.SparseTree.{Facts}
use Rattle.bt_store.specs.BlockReads.{BlockRead, failed, block_of, call_of, fault_count}
use Rattle.bt_store.specs.declared.small_groups.AdoptedGroups.{AdoptedGroups}
use Rattle.bt_check.specs.CheckSteps.{HoldsLeaves, leaves_after}
use Rattle.bt_check.specs.EntryCheck.{is_node_read}
use Rattle.bt_check.specs.Finding.{KnownLayer, is_right_block}
use Rattle.bt_parts.specs.Join.{IsChain, IsCountOf}
use Rattle.bt_parts.specs.Line.{run_line}
use Rattle.bt_parts.specs.Run.{is_fault, is_longer}
use Rattle.bt_parts.specs.declared.cut.Share.{Share}
use Rattle.bt_parts.specs.declared.run.Met.TheVariants.{Nothing, Unread}
use Rattle.bt_parts.specs.declared.run.Run.{Run}

-- `count` blocks from `from` on, none of which was read: it is as if their reads had failed
abbrev pub unread : ℕ → ℕ → List BlockRead
unread from count = map (λ block. failed block) (range_with_len from count)

-- the reads of all blocks of a file of `blocks` blocks, where those of a share were made, and no others
abbrev pub share_reads : (blocks from to : ℕ) → List BlockRead → List BlockRead
share_reads blocks from to reads = unread 0 from ++ (reads ++ unread to (blocks - to))

-- a piece begins at this block, or the file ends before it
abbrev pub IsPieceEdge : KnownLayer → ℕ → ℕ → Type 0
IsPieceEdge known n block =
    (block ≡ block / 2 ^ known.layer * 2 ^ known.layer) ⊎ (block ≡ block_count n)

-- These runs are of a file's blocks from one on to before another, each of which was read, in turn. A run
-- counts the blocks that are right by the reads, as a check of the whole file does; and a run tells of a
-- fault where a read failed.
pub record IsShareCheck (n : ℕ) (known : KnownLayer) (leaves : ℕ → Option (List ℕ)) (file from to : ℕ)
    (reads : List BlockRead) (runs : List Run) : Type 0 where
  pub each : map block_of reads ≡ range_with_len from (to - from)
  pub own : All (λ run. run.file ≡ file) runs
  pub chain : IsChain (block_count n) from runs to
  pub counts : All (IsCountOf (is_right_block (is_node_read (share_reads (block_count n) from to reads) n)
      known leaves)) runs
  pub faults : IsTrue (list_any (λ run. is_fault run.met) runs) ↔ (0 < fault_count reads)
  pub no_length : list_any (λ run. is_longer run.met) runs ≡ false

-- what is written of some runs: a line for each
abbrev pub runs_text : List Run → List ℕ
runs_text runs = flat_map run_line runs

-- Something is known of a tree of which a piece begins at this block.
abbrev pub IsReadyAt : ℕ → Facts → Type 0
IsReadyAt block k = (known : KnownLayer) × (leaves : ℕ → Option (List ℕ))
    × HoldsLeaves k.file_length known leaves k × IsPieceEdge known k.file_length block

-- The blocks of a share were checked by what a tree knows: these calls lead from the old device to the new
-- one, the tree learns the leaves of the pieces that are right, and a line was written for each run.
abbrev pub ChecksShare : {D : Type 0} → Conduct D → Facts → ℕ → Share → D → D
    → Facts → (old new : Option (List ℕ)) → Type 0
ChecksShare conduct tree file share disk after grown old new =
    let n = tree.file_length in
    (known : KnownLayer) (leaves : ℕ → Option (List ℕ)) → HoldsLeaves n known leaves tree
    → IsPieceEdge known n share.from
    → (reads : List BlockRead) × (runs : List Run)
    × IsShareCheck n known leaves file share.from share.to reads runs
    × HasCalls conduct disk (map (call_of n) reads) after
    × HoldsLeaves n known (leaves_after leaves
    (share_reads (block_count n) share.from share.to reads) n known) grown
    × Appends old new (runs_text runs)

-- ---- one run

-- a run of no blocks
abbrev pub run_at : ℕ → ℕ → Run
run_at file block = record { file = file; from = block; to = block; marked = 0; met = Nothing }

-- a run with the groups that come next
pub record IsWithGroups (run : Run) (groups : AdoptedGroups) (new : Run) : Type 0 where
  pub file : new.file ≡ run.file
  pub from : new.from ≡ run.from
  pub to : new.to ≡ groups.next
  pub marked : new.marked ≡ run.marked + groups.marked
  pub faulty : 0 < groups.faults → new.met ≡ Unread
  pub sound : groups.faults ≡ 0 → new.met ≡ run.met

-- a run was told, and the next one begins after it; or it was not, and goes on
abbrev pub TellsOrKeeps : Run → ℕ → (old new : Option (List ℕ)) → Run → Type 0
TellsOrKeeps run end old new next =
    (Appends old new (run_line run) × (next ≡ run_at run.file run.to))
    ⊎ ((run.to < end) × Keeps old new × (next ≡ run))
