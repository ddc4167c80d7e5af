-- What a part tells of the files of a torrent, whose pieces have 2 ^ layer blocks, by what it read of the
-- files before.
use Rattle.std.specs.Prelude.{◌≡◌, ◌≢◌, ℕ, ◌-◌, ◌<◌, ◌≤◌, ◌↔◌, ◌⊎◌, if◌then◌else◌, IsTrue, IsSomeAnd, List, [], ◌∷◌, ◌++◌, Option, None, Some, map}
use Rattle.std.specs.List.{All, list_any, range_with_len}
use Rattle.bt_tree.specs.Blocks.{block_count}
use Rattle.bt_disk.specs.Conduct.{Conduct}
use Rattle.bt_disk.specs.Calls.{Call, HasCalls}
use Rattle.bt_store.specs.BlockReads.{BlockRead, block_of, call_of, fault_count}
use Rattle.bt_meta.specs.Files.{File, file_of}
use Rattle.bt_check.specs.Check.{CheckedFile, layer_before, leaves_before}
use Rattle.bt_check.specs.EntryCheck.{Answers, IsCheckable, is_node_read, len_call_of}
use Rattle.bt_check.specs.Finding.{is_right_block, known_layer}
use Rattle.bt_parts.specs.Join.{IsChain, IsCountOf}
use Rattle.bt_parts.specs.Run.{is_fault, is_longer}
use Rattle.bt_parts.specs.declared.cut.Share.{Share}
use Rattle.bt_parts.specs.declared.run.Met.TheVariants.{Absent}
use Rattle.bt_parts.specs.declared.run.Run.{Run}
use Rattle.bt_jobs.specs.Share.{IsPieceEdge, share_reads}
use Rattle.bt_jobs.specs.declared.trees.FilePart.{FilePart}
use Rattle.bt_jobs.specs.declared.trees.PartFile.{PartFile}

-- the file of a torrent that something is told of
abbrev pub file_in_part : FilePart → File
file_in_part part = file_of part.file.now

-- the part of a data file
abbrev pub part_at : {D : Type 0} → PartFile D → FilePart
part_at d = d.part

-- The runs are of a share of a file of this number, each block once; and where the part has the byte at which
-- the file begins, there is one.
pub record AreRunsOf (number blocks : ℕ) (share : Share) (runs : List Run) : Type 0 where
  pub own : All (λ run. run.file ≡ number) runs
  pub chain : IsChain blocks share.from runs share.to
  pub told : IsTrue share.is_first → runs ≢ []

-- ---- what a device answers

-- a device is asked for its length by the part that has the byte at which the file begins
abbrev pub length_calls : Share → Option ℕ → List Call
length_calls share len = if share.is_first then len_call_of len ∷ [] else []

-- all calls on the device of a file of n bytes, of which a part has a share, with its answers
abbrev pub share_calls : ℕ → Share → Option ℕ → List BlockRead → List Call
share_calls n share len reads = length_calls share len ++ map (call_of n) reads

-- these as answers to a check of the whole, to which no block was read but those of the share
abbrev pub answers_of : ℕ → Share → Option ℕ → List BlockRead → Answers
answers_of n share len reads = record {
  len = len;
  reads = share_reads (block_count n) share.from share.to reads;
}

-- The blocks of the share were read, in turn, and each run counts those of its blocks that are right, as a
-- check of the whole does by the same reads. Longer and a fault are told just where the length or a read says
-- so.
pub record IsShareFinding (layer : ℕ) (before : List CheckedFile) (file : File) (share : Share)
    (len : Option ℕ) (reads : List BlockRead) (runs : List Run) : Type 0 where
  pub each : map block_of reads ≡ range_with_len share.from (share.to - share.from)
  pub counts : All (IsCountOf (is_right_block
      (is_node_read (share_reads (block_count file.length) share.from share.to reads) file.length)
      (layer_before layer before file) (leaves_before layer before file))) runs
  pub longer : IsTrue (list_any (λ run. is_longer run.met) runs)
      ↔ (IsTrue share.is_first × IsSomeAnd len (λ found. file.length < found))
  pub faults : IsTrue (list_any (λ run. is_fault run.met) runs)
      ↔ ((IsTrue share.is_first × (len ≡ None)) ⊎ (0 < fault_count reads))

-- ---- what is told

-- What is told of a share of a file, by the answers of its device, and which files are read then. There is no
-- device, and no block is right; or there is one, of whose blocks the share has none, or some.
pub data IsPartFinding {D : Type 0} (conduct : Conduct D) (layer : ℕ)
    (before : List CheckedFile) (file : File) (share : Share) (runs : List Run)
    : Option D → List CheckedFile → Type 0 where
  absent : All (λ run. (run.marked ≡ 0) × (run.met ≡ Absent)) runs
      → IsPartFinding conduct layer before file share runs None before
  blockless : (disk after : D) (len : Option ℕ) (reads : List BlockRead) → share.to ≤ share.from
      → HasCalls conduct disk (share_calls file.length share len reads) after
      → IsShareFinding layer before file share len reads runs
      → IsPartFinding conduct layer before file share runs (Some disk) before
  read : (disk after : D) (len : Option ℕ) (reads : List BlockRead)
      → HasCalls conduct disk (share_calls file.length share len reads) after
      → IsShareFinding layer before file share len reads runs
      → IsPartFinding conduct layer before file share runs (Some disk)
      (before ++ record { file = file; answers = answers_of file.length share len reads } ∷ [])

-- what is told of some files, each after those before it, and which are read then
pub data ArePartFindings {D : Type 0} (conduct : Conduct D)
    (layer : ℕ) : List CheckedFile → List (PartFile D) → List Run → List CheckedFile → Type 0 where
  none : (before : List CheckedFile) → ArePartFindings conduct layer before [] [] before
  more : (before mid after : List CheckedFile) (one : PartFile D) (rest : List (PartFile D))
      (runs others : List Run)
      → AreRunsOf one.part.number (block_count (file_in_part one.part).length) one.part.share runs
      → IsPartFinding conduct layer before (file_in_part one.part) one.part.share runs
      one.disk mid
      → ArePartFindings conduct layer mid rest others after
      → ArePartFindings conduct layer before (one ∷ rest) (runs ++ others) after

-- ---- what a part asks for

-- A file can be checked in part: the share is some of its blocks, and begins with a piece.
pub record IsReadyPart (layer : ℕ) (part : FilePart) : Type 0 where
  pub checkable : IsCheckable layer (file_in_part part)
  pub forward : part.share.from ≤ part.share.to
  pub inside : part.share.to ≤ block_count (file_in_part part).length
  pub edge : IsPieceEdge (known_layer layer (file_in_part part)) (file_in_part part).length part.share.from

-- the layer that is known of each file goes by its length and its root
abbrev pub GoByRoots : (ℕ → List ℕ → List ℕ) → List File → Type 0
GoByRoots layer_at files = All (λ file. file.layer ≡ layer_at file.length file.root) files
