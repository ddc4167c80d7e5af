-- Trees that are kept for later files of the same root and length in a part: for private steps.
use Rattle.std.specs.Prelude.{◌≡◌, ◌↔◌, ◌⊎◌, ◌++◌, ◌<◌, ◌≤◌, ℕ, IsTrue, IsSomeAnd, List, [], ◌∷◌, Option, None, map}
use Rattle.std.specs.List.{All}
use Rattle.std.specs.Io.KnownBytes.{Appends, Keeps}
use Rattle.bt_tree.specs.Blocks.{block_count}
use Rattle.bt_disk.specs.Conduct.{Conduct}
use Rattle.bt_disk.specs.Calls.{HasCalls}
use Rattle.bt_meta.specs.Files.{File}
use Rattle.bt_store.specs.BlockReads.{BlockRead, call_of}
use Rattle.bt_check.specs.Check.{CheckedFile, layer_before, leaves_before}
use Rattle.bt_check.specs.EntryCheck.{Answers}
use Rattle.bt_check.specs.Finding.{known_layer}
use Rattle.bt_check.specs.TreeSteps.{HasTree, Kept, KeepsTrees}
use Rattle.bt_check.specs.declared.trees.SharedTrees.{SharedTrees}
use Rattle.bt_parts.specs.Line.{run_line}
use Rattle.bt_parts.specs.Run.{is_fault, is_longer}
use Rattle.bt_parts.specs.declared.cut.Share.{Share}
use Rattle.bt_parts.specs.declared.run.Met.{Met}
use Rattle.bt_parts.specs.declared.run.Met.TheVariants.{Absent}
use Rattle.bt_parts.specs.declared.run.Run.{Run}
use Rattle.bt_jobs.specs.Share.{IsShareCheck, runs_text}
use Rattle.bt_jobs.specs.Trees.{AreRunsOf, GoByRoots, IsPartFinding, answers_of, file_in_part, length_calls}
use Rattle.bt_jobs.specs.declared.trees.FilePart.{FilePart}
use Rattle.bt_jobs.specs.declared.trees.PartFile.{PartFile}

-- ---- trees

-- Trees after some files were checked, before the others; and the layer of each file that was checked goes by
-- its length and root.
pub record KeepsParts (layer : ℕ) (layer_at : ℕ → List ℕ → List ℕ) (before : List CheckedFile)
    (left : List File) (trees : SharedTrees) : Type 0 where
  pub kept : KeepsTrees layer before left trees
  pub by_root : All (λ c. c.file.layer ≡ layer_at c.file.length c.file.root) before

-- the files before tell no other layer of a file's tree than the file itself
abbrev pub KnowsOwn : ℕ → List CheckedFile → File → Type 0
KnowsOwn layer before file = layer_before layer before file ≡ known_layer layer file

-- what is kept of any file is so after a file of which the share has no block, or after it was read
abbrev pub KeepsOthers : ℕ → List CheckedFile → File → Share → Answers → Kept → Kept → Type 0
KeepsOthers layer before file share answers kept grown =
    ((share.to ≤ share.from) × (grown ≡ kept))
    ⊎ ((other : File) → HasTree layer before other kept
    → HasTree layer (before ++ record { file = file; answers = answers } ∷ []) other grown)

-- ---- the length of a data file

-- the run that tells what was met where a file's length was asked for
abbrev pub no_blocks : FilePart → Met → Run
no_blocks part met = record {
  file = part.number;
  from = part.share.from;
  to = part.share.from;
  marked = 0;
  met = met;
}

-- what is met where a device tells this length of a file of n bytes, or none
pub record IsMeasured (n : ℕ) (len : Option ℕ) (met : Met) : Type 0 where
  pub longer : IsTrue (is_longer met) ↔ IsSomeAnd len (λ l. n < l)
  pub faulty : IsTrue (is_fault met) ↔ (len ≡ None)

-- What was met where the length was asked for is told by a run of no blocks; where it was not, there is no
-- run.
pub data AreLengthRuns (part : FilePart) (len : Option ℕ) : List Run → Type 0 where
  asked : (met : Met) → IsTrue part.share.is_first → IsMeasured (file_in_part part).length len met
      → AreLengthRuns part len (no_blocks part met ∷ [])
  unasked : ¬ IsTrue part.share.is_first → AreLengthRuns part len []

-- The length of a data file was told, where the part has the byte at which it begins: no other call led from
-- the old device to the new one.
abbrev pub TellsLength : {D : Type 0} → Conduct D → FilePart → D → D
    → (old new : Option (List ℕ)) → Type 0
TellsLength conduct part disk after old new =
    (len : Option ℕ) × (runs : List Run) × AreLengthRuns part len runs
    × HasCalls conduct disk (length_calls part.share len) after
    × Appends old new (runs_text runs)

-- ---- a file that is not there

-- the run that tells of its blocks
abbrev pub missing_run : FilePart → Run
missing_run part = record {
  file = part.number;
  from = part.share.from;
  to = part.share.to;
  marked = 0;
  met = Absent;
}

-- That there is no file was told, where the part has the byte at which it would begin.
abbrev pub TellsFirst : FilePart → (old new : Option (List ℕ)) → Type 0
TellsFirst part old new =
    (IsTrue part.share.is_first × Appends old new (run_line (no_blocks part Absent)))
    ⊎ ((¬ IsTrue part.share.is_first) × Keeps old new)

-- Its blocks were told, if there are some.
abbrev pub TellsMissing : FilePart → (old new : Option (List ℕ)) → Type 0
TellsMissing part old new =
    ((part.share.from ≡ part.share.to) × Keeps old new) ⊎ Appends old new (run_line (missing_run part))

-- A file that is not there was told.
abbrev pub TellsAbsent : FilePart → (old new : Option (List ℕ)) → Type 0
TellsAbsent part old new = (runs : List Run)
    × AreRunsOf part.number (block_count (file_in_part part).length) part.share runs
    × All (λ run. (run.marked ≡ 0) × (run.met ≡ Absent)) runs × Appends old new (runs_text runs)

-- ---- one file

-- The blocks of a part were read and told, if it has some, and what is kept of any file is so after it too,
-- whatever length the device tells.
abbrev pub ChecksBlocks : {D : Type 0} → Conduct D → ℕ → FilePart → D → Kept
    → Kept → (old new : Option (List ℕ)) → Type 0
ChecksBlocks {D} conduct layer part disk kept grown old new =
    let file = file_in_part part in
    (before : List CheckedFile) → HasTree layer before file kept → KnowsOwn layer before file
    → (reads : List BlockRead) × (runs : List Run) × (last : D)
    × IsShareCheck file.length (layer_before layer before file) (leaves_before layer before file) part.number
    part.share.from part.share.to reads runs
    × HasCalls conduct disk (map (call_of file.length) reads) last
    × ((len : Option ℕ) → KeepsOthers layer before file part.share
    (answers_of file.length part.share len reads) kept grown)
    × Appends old new (runs_text runs)

-- A part of a file was checked and told, and what is kept of any file is so after it too.
abbrev pub ChecksPart : {D : Type 0} → Conduct D → ℕ → FilePart → Option D → Kept
    → Kept → (old new : Option (List ℕ)) → Type 0
ChecksPart conduct layer part disk kept grown old new =
    let file = file_in_part part in
    (before : List CheckedFile) → HasTree layer before file kept → KnowsOwn layer before file
    → (runs : List Run) × (after : List CheckedFile)
    × AreRunsOf part.number (block_count file.length) part.share runs
    × IsPartFinding conduct layer before file part.share runs disk after
    × ((other : File) → HasTree layer before other kept → HasTree layer after other grown)
    × Appends old new (runs_text runs)

-- ---- all files

-- The part is of the next file.
abbrev pub IsNextPart : ℕ → FilePart → SharedTrees → Type 0
IsNextPart layer part trees =
    (layer_at : ℕ → List ℕ → List ℕ) × (before : List CheckedFile) × (rest : List File)
    × KeepsParts layer layer_at before (file_in_part part ∷ rest) trees
    × GoByRoots layer_at (file_in_part part ∷ [])

-- It was checked and told, and the trees are kept for the files after it.
abbrev pub ChecksNext : {D : Type 0} → Conduct D → ℕ → PartFile D → SharedTrees
    → SharedTrees → (old new : Option (List ℕ)) → Type 0
ChecksNext conduct layer one trees grown old new =
    let file = file_in_part one.part in
    (layer_at : ℕ → List ℕ → List ℕ) (before : List CheckedFile) (rest : List File)
    → KeepsParts layer layer_at before (file ∷ rest) trees → GoByRoots layer_at (file ∷ [])
    → (runs : List Run) × (after : List CheckedFile)
    × AreRunsOf one.part.number (block_count file.length) one.part.share runs
    × IsPartFinding conduct layer before file one.part.share runs one.disk after
    × KeepsParts layer layer_at after rest grown
    × Appends old new (runs_text runs)
