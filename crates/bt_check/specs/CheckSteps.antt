-- Steps of a check of one file that only private functions cite.
use Rattle.std.specs.Prelude.{◌≡◌, ℕ, ◌+◌, ◌*◌, ◌^◌, ◌<◌, ◌≤◌, ◌↔◌, List, Option, None, Some, false, length, map, IsTrue}
use Rattle.std.specs.List.{count_by, range_with_len}
use Rattle.std.specs.Option.{option_or}
use Rattle.bt_tree.specs.Blocks.{block_count}
use Rattle.bt_tree.specs.TreeShape.{height_of, real_width}
use Rattle.bt_disk.specs.Conduct.{Conduct}
use Rattle.bt_disk.specs.Calls.{HasCalls}
use Rattle.bt_sparse.specs.SparseTree.{Facts, held_at}
use Rattle.bt_store.specs.BlockReads.{BlockRead, block_of, call_of, fault_count}
use Rattle.bt_check.specs.EntryCheck.{Answers, IsEntryCheck, is_node_read, leaf_read}
use Rattle.bt_check.specs.Finding.{KnownLayer, IsFindingOf, is_right_block, piece_of, digest_of}
use Rattle.bt_check.specs.declared.data_file.Finding.{Finding}
use Rattle.bt_check.specs.declared.entry_check.BlockCheck.{BlockCheck}
use Rattle.bt_check.specs.declared.entry_check.EntryCheck.{EntryCheck}

-- no node below a piece is held
abbrev pub IsBare : KnownLayer → ℕ → Facts → Type 0
IsBare known piece k = (layer i : ℕ) → layer < known.layer → piece * 2 ^ known.layer ≤ i * 2 ^ layer
    → i * 2 ^ layer < (piece + 1) * 2 ^ known.layer → held_at k layer i ≡ None

-- Of the tree over a file of n bytes this layer is held, and the leaves that are known; below the piece of a
-- block whose leaf is not known there is nothing. A check learns leaves as it reads, and this holds before it
-- and after it; `IsTreeFrom` of bt_machine says which nodes a torrent's file begins with in the machine.
pub record HoldsLeaves (n : ℕ) (known : KnownLayer) (leaves : ℕ → Option (List ℕ)) (k : Facts) : Type 0 where
  pub length_is : k.file_length ≡ n
  pub inside : known.layer ≤ height_of (block_count n)
  pub width : length known.digests ≡ real_width (block_count n) known.layer
  pub holds : (i : ℕ) → i < length known.digests → held_at k known.layer i ≡ Some (digest_of known i)
  pub leaf : (i : ℕ) (d : List ℕ) → i < block_count n → leaves i ≡ Some d → held_at k 0 i ≡ Some d
  pub bare : (i : ℕ) → i < block_count n → leaves i ≡ None → IsBare known (piece_of known i) k

-- the leaves that are known after the blocks were read
abbrev pub leaves_after : (ℕ → Option (List ℕ)) → List BlockRead → ℕ → KnownLayer → ℕ → Option (List ℕ)
leaves_after leaves reads n known block = option_or (leaves block) (leaf_read reads n known block)

-- there is a read for each block of a file of n bytes, in turn, and no other call failed, or changed an
-- honest device; and `marked` is how many blocks are right
pub record IsBlockCheck {D : Type 0} (conduct : Conduct D)
    (n : ℕ) (known : KnownLayer) (leaves : ℕ → Option (List ℕ)) (old : D) (reads : List BlockRead)
    (check : BlockCheck D) : Type 0 where
  pub calls : HasCalls conduct old (map (call_of n) reads) check.disk
  pub each : map block_of reads ≡ range_with_len 0 (block_count n)
  pub marked : check.marked ≡
      count_by (is_right_block (is_node_read reads n) known leaves) (range_with_len 0 (block_count n))
  pub faulty : IsTrue check.faulty ↔ (0 < fault_count reads)

-- the same in a tree that holds what is known, and learns the leaves of the pieces that are right
abbrev pub ChecksBlocks : {D : Type 0} → Conduct D → Facts → D → BlockCheck D
    → Facts → Type 0
ChecksBlocks conduct tree disk check grown =
    let n = tree.file_length in
    (known : KnownLayer) (leaves : ℕ → Option (List ℕ)) → HoldsLeaves n known leaves tree
    → (reads : List BlockRead) × IsBlockCheck conduct n known leaves disk reads check
    × HoldsLeaves n known (leaves_after leaves reads n known) grown

-- and so of a whole check of a file that has a block
abbrev pub ChecksTree : {D : Type 0} → Conduct D → Facts → D → EntryCheck D
    → Facts → Type 0
ChecksTree conduct tree disk check grown =
    let n = tree.file_length in
    (known : KnownLayer) (leaves : ℕ → Option (List ℕ)) → HoldsLeaves n known leaves tree
    → (answers : Answers)
    × IsEntryCheck conduct n known leaves disk answers check.disk check.finding
    × HoldsLeaves n known (leaves_after leaves answers.reads n known) grown

-- and what is found of the bytes of a device that gives what was written
abbrev pub FindsBytes : List ℕ → Facts → Finding → Type 0
FindsBytes bytes tree finding =
    let n = tree.file_length in
    (known : KnownLayer) (leaves : ℕ → Option (List ℕ)) → HoldsLeaves n known leaves tree
    → finding.faulty ≡ false → IsFindingOf bytes n known leaves finding

-- something is known of a tree
abbrev pub IsKnownTree : Facts → Type 0
IsKnownTree k = (known : KnownLayer) × (leaves : ℕ → Option (List ℕ))
    × HoldsLeaves k.file_length known leaves k
