-- The files of a folder: steps of `make` that only private functions cite.
use Rattle.std.specs.Prelude.{◌≡◌, ◌+◌, ◌++◌, ◌≤◌, ℕ, List, [], ◌∷◌, None, Some, String, length, map, string_bytes}
use Rattle.std.specs.Global.{Global}
use Rattle.bt_tree.specs.Limits.{max_file_length}
use Rattle.bt_meta.specs.Files.{piece_count}
use Rattle.bt_meta.specs.declared.writer.MakeError.{MakeError}
use Rattle.bt_check.specs.Fault.{make_fault}
use Rattle.bt_check.specs.declared.fault.Fault.{Fault}
use Rattle.bt_make.specs.Limits.{count_refusal}
use Rattle.bt_check.specs.Digests.{AreDigestsOf}
use Rattle.bt_check.specs.declared.digests.Digests.{Digests}
use Rattle.bt_meta.specs.declared.writer.Made.{Made}
use Rattle.bt_make.specs.Command.{elements_of}
use Rattle.bt_make.specs.declared.command.FolderFile.{FolderFile}

abbrev pub elements_in : FolderFile → List (List ℕ)
elements_in file = elements_of file.path

-- the file that was read, as it was found
abbrev pub file_of_made : Made → FolderFile
file_of_made made = record { path = made.path; length = made.length }

-- the digests of `count` bytes
pub record AreOfSomeBytes (count layer : ℕ) (digests : Digests) : Type 0 where
  pub bytes : List ℕ
  pub whole : length bytes ≡ count
  pub are : AreDigestsOf bytes layer digests

-- a file with this path was put after those that are counted, and these are the counts with it
pub record AddsFile (size files pieces : ℕ) (path : List (String Global)) (old new : List FolderFile)
    (next_files next_pieces : ℕ) : Type 0 where
  pub file : FolderFile
  pub behind : new ≡ old ++ file ∷ []
  pub named : elements_in file ≡ map string_bytes path
  pub passes : None ≡ count_refusal files pieces size (length path) file.length
  pub short : file.length ≤ max_file_length
  pub count : next_files ≡ files + 1
  pub sum : next_pieces ≡ pieces + piece_count size file.length

-- a file with this path, of some length, is refused after those that are counted
pub record IsFileRefusal (size files pieces : ℕ) (path : List (String Global)) (fault : Fault) : Type 0 where
  pub bytes : ℕ
  pub cause : MakeError
  pub refusal : Some cause ≡ count_refusal files pieces size (length path) bytes
  pub is : fault ≡ make_fault cause
