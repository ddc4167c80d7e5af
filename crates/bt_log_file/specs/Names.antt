-- Names that are one but for case, by their capitals (Unicode, default case conversion).
use Rattle.std.specs.Prelude.{◌≡◌, ◌≢◌, ◌⊎◌, ℕ, ◌-◌, ◌&&◌, Bool, true, false, List, length, Option, Some, Ok, slice_get}
use Rattle.std.specs.Path.{path_file_name}
use Rattle.std.specs.StrCase.Upper.{str_to_uppercase}
use Rattle.bt_disk.specs.declared.opening.FileIdentity.{FileIdentity}
use Rattle.bt_folder.specs.FolderNames.{has_name}
use Rattle.bt_folder.specs.Lookup.{Lists, Tells}
use Rattle.bt_folder.specs.declared.folder_names.FolderNames.{FolderNames}
use Rattle.bt_meta.specs.Files.{File}
use Rattle.bt_check.specs.Paths.{path_below}
use Rattle.bt_log_file.specs.Folder.{folder_of}
use Rattle.bt_log_file.specs.Looking.{IsToldOf}

-- These are the last names of a torrent's file and of a path: they differ, and have the same capitals.
pub record AreAlike (file : List (List ℕ)) (path name other : List ℕ) : Type 0 where
  pub last : path_file_name path ≡ Some name
  pub others : slice_get file (length file - 1) ≡ Some other
  pub differ : name ≢ other
  pub alike : str_to_uppercase name ≡ str_to_uppercase other

-- no names are the last of both and alike
abbrev pub AreNoneAlike : (file : List (List ℕ)) (path : List ℕ) → Type 0
AreNoneAlike file path = (name other : List ℕ) → ¬ AreAlike file path name other

-- the last names are alike, and a folder's listing, as it was read, lacks one of them
pub record IsNameOf (file : List (List ℕ)) (path : List ℕ) : Type 0 where
  pub name : List ℕ
  pub other : List ℕ
  pub names : AreAlike file path name other
  pub listing : FolderNames
  pub lacks : (has_name listing name && has_name listing other) ≡ false

-- the path's name is such a name of one of these files
pub record HasNameOfFile (files : List File) (path : List ℕ) : Type 0 where
  pub number : ℕ
  pub file : File
  pub here : slice_get files number ≡ Some file
  pub is_name : IsNameOf file.path path

-- ---- by what the system told

-- whether the folder at a path is that of a place, by what the system told of both
abbrev pub IsFolderOf : Tells → (folder place : List ℕ) → Bool → Type 0
IsFolderOf tells folder place is_folder =
    (one : Option FileIdentity) × tells folder one × IsToldOf tells one (folder_of place) is_folder

-- whether a folder has both names, by a listing of it
abbrev pub HasBoth : Lists → (folder name other : List ℕ) → Bool → Type 0
HasBoth lists folder name other has_both = (listing : FolderNames) × lists folder (Ok listing)
    × ((has_name listing name && has_name listing other) ≡ has_both)

-- A torrent's file, below a folder, is the one at a path by such names: both lie in one folder, which lacks one of them.
pub record IsFileByName (tells : Tells) (lists : Lists) (dir : List ℕ) (file : List (List ℕ)) (path : List ℕ)
    : Type 0 where
  pub name : List ℕ
  pub other : List ℕ
  pub names : AreAlike file path name other
  pub is_folder : IsFolderOf tells (folder_of path) (path_below dir file) true
  pub lacks : HasBoth lists (folder_of path) name other false

-- A torrent's file is not the one at a path by such names: where there are some, they lie in two folders, or in one
-- that has both.
abbrev pub IsNoFileByName : Tells → Lists → (dir : List ℕ) (file : List (List ℕ)) (path : List ℕ) → Type 0
IsNoFileByName tells lists dir file path = (name other : List ℕ) → AreAlike file path name other
    → IsFolderOf tells (folder_of path) (path_below dir file) false
    ⊎ (IsFolderOf tells (folder_of path) (path_below dir file) true
    × HasBoth lists (folder_of path) name other true)

-- one of these files is the one at the path by such names
pub record HasFileByName (tells : Tells) (lists : Lists) (dir : List ℕ) (files : List File) (path : List ℕ)
    : Type 0 where
  pub number : ℕ
  pub file : File
  pub here : slice_get files number ≡ Some file
  pub is_file : IsFileByName tells lists dir file.path path

-- or with none
abbrev pub HasNoFileByName : Tells → Lists → (dir : List ℕ) (files : List File) (path : List ℕ) → Type 0
HasNoFileByName tells lists dir files path = (number : ℕ) (file : File) → slice_get files number ≡ Some file
    → IsNoFileByName tells lists dir file.path path
