-- Paths on which a name is one with another of its folder but for case.
use Rattle.std.specs.Prelude.{◌≡◌, ◌≢◌, ◌⊎◌, ◌<◌, ℕ, ◌&&◌, Bool, true, false, List, [], fold, length, map, take, Option, None, Some, MatchOption, Err, slice_get, string_bytes}
use Rattle.std.specs.Borrow.{Bor}
use Rattle.std.specs.Path.{path_join}
use Rattle.std.specs.StrCase.Upper.{str_to_uppercase}
use Rattle.bt_folder.specs.CaseFolders.{IsOwnIn, listing_of, name_in}
use Rattle.bt_folder.specs.CaseNames.{with_name}
use Rattle.bt_folder.specs.FolderNames.{has_name}
use Rattle.bt_folder.specs.Lookup.{Lists}
use Rattle.bt_folder.specs.declared.folder_names.FolderNames.{FolderNames}
use Rattle.bt_folder.specs.declared.folder_names.ListingError.{ListingError}
use Rattle.bt_folder.specs.declared.folder_names.ListingError.TheVariants.{OutOfMemory}
use Rattle.bt_folder.specs.declared.case_folder.CaseFolder.{CaseFolder}
use Rattle.bt_folder.specs.declared.paths_so_far.CasePaths.{CasePaths}

-- the bytes of each text
abbrev pub texts : List (Bor (List ℕ)) → List (List ℕ)
texts = map (λ t. t.now)

-- ---- what was looked at

-- the elements of the last path
abbrev pub last_path : CasePaths → List (List ℕ)
last_path paths = map string_bytes paths.path.items

-- the folder that this many of its elements lead to
abbrev pub folder_on : CasePaths → ℕ → Option CaseFolder
folder_on paths depth = slice_get paths.folders.items depth

-- no path was looked at
abbrev pub HasNoPath : CasePaths → Type 0
HasNoPath paths = paths.folders.items ≡ []

-- The last path and the next begin with this many elements in common, and no more.
pub record AreShared (last path : List (List ℕ)) (count : ℕ) : Type 0 where
  pub same : take count last ≡ take count path
  pub apart : count < length path → slice_get last count ≢ slice_get path count

-- where the folder lies that the first elements of a path lead to, below another
abbrev pub place_of : List ℕ → List (List ℕ) → ℕ → List ℕ
place_of dir path depth = fold path_join dir (take depth path)

-- ---- whether names are their own

-- Whether each name of a path is its own: the first one that is not the last path's is. Those after it are the first
-- of their folders.
pub record IsOwnPath (lists : Lists) (dir : List ℕ) (old new : CasePaths) (path : List (List ℕ))
    (is_own : Bool) : Type 0 where
  pub shared : ℕ
  pub are_shared : AreShared (last_path old) path shared
  pub answer : MatchOption (slice_get path shared) (is_own ≡ true)
      (λ name. IsOwnIn lists (place_of dir path shared)
      (folder_on old shared) (folder_on new shared) name is_own)

-- memory was refused, or this was told of a folder on a path
abbrev pub IsPathError : Lists → List ℕ → List (List ℕ) → ListingError → Type 0
IsPathError lists dir path error =
    (error ≡ OutOfMemory) ⊎ ((depth : ℕ) × lists (place_of dir path depth) (Err error))

-- ---- what is known then

-- A path is the last one now. The folders stay that both lead to, and each name after them has been looked at: in the first
-- of the others beside those before, and else alone.
pub record GoesTo (old new : CasePaths) (path : List (List ℕ)) : Type 0 where
  pub is_last : last_path new ≡ path
  pub shared : ℕ
  pub are_shared : AreShared (last_path old) path shared
  pub kept : (depth : ℕ) → depth < shared → folder_on new depth ≡ folder_on old depth
  pub added : (name : List ℕ) → slice_get path shared ≡ Some name → (capitals : List ℕ)
      → name_in (folder_on new shared) capitals ≡ with_name name (name_in (folder_on old shared)) capitals
  pub alone : (depth : ℕ) (name : List ℕ) → shared < depth → slice_get path depth ≡ Some name
      → (capitals : List ℕ) → name_in (folder_on new depth) capitals ≡ with_name name (λ _. None) capitals

-- A path has a name with the capitals of another in its folder, which is on the last path too, and the folder's
-- listing lacks one of the two.
pub record HasNameOfAnother (old new : CasePaths) (path : List (List ℕ)) : Type 0 where
  pub depth : ℕ
  pub way : take depth (last_path old) ≡ take depth path
  pub name : List ℕ
  pub here : slice_get path depth ≡ Some name
  pub twin : List ℕ
  pub alike : name_in (folder_on old depth) (str_to_uppercase name) ≡ Some twin
  pub listing : FolderNames
  pub held : listing_of (folder_on new depth) ≡ Some listing
  pub lacks : (has_name listing twin && has_name listing name) ≡ false
