-- Names on the paths of a torrent's files, which are looked at in turn.
use Rattle.std.specs.Prelude.{◌≡◌, ℕ, ◌+◌, true, List, Some, slice_get}
use Rattle.bt_folder.specs.CasePaths.{GoesTo, HasNameOfAnother, HasNoPath, IsOwnPath}
use Rattle.bt_folder.specs.Lookup.{Lists}
use Rattle.bt_folder.specs.declared.paths_so_far.CasePaths.{CasePaths}
use Rattle.bt_meta.specs.Files.{File}

-- what is known of paths, once those of this many of some files were looked at, from the first one on
pub data KnowsPaths (files : List File) : ℕ → CasePaths → Type 0 where
  none_yet : (paths : CasePaths) → HasNoPath paths → KnowsPaths files 0 paths
  one_more : (count : ℕ) (old new : CasePaths) (file : File) → KnowsPaths files count old
      → slice_get files count ≡ Some file → GoesTo old new file.path → KnowsPaths files (count + 1) new

-- each name on the path of a file is its own, by what was listed, as those before it were looked at
pub record IsOwnAfter (lists : Lists) (dir : List ℕ) (files : List File) (number : ℕ) (file : File)
    : Type 0 where
  pub old : CasePaths
  pub before : KnowsPaths files number old
  pub new : CasePaths
  pub is_own : IsOwnPath lists dir old new file.path true

-- so is it on the path of each of these files
abbrev pub AreOwnPaths : Lists → List ℕ → List File → Type 0
AreOwnPaths lists dir files = (number : ℕ) (file : File) → slice_get files number ≡ Some file
    → IsOwnAfter lists dir files number file

-- A name on the path of one of some files is that of another, by its folder's listing, as those before it were looked
-- at. So it is not the first.
pub record HasNameOfAnotherPath (files : List File) : Type 0 where
  pub number : ℕ
  pub file : File
  pub listed : slice_get files number ≡ Some file
  pub old : CasePaths
  pub before : KnowsPaths files number old
  pub new : CasePaths
  pub of_another : HasNameOfAnother old new file.path
