-- What a look tells of the file of a log.
use Rattle.std.specs.Prelude.{◌≡◌, ◌≢◌, ◌⊎◌, ◌↔◌, ℕ, ◌≤◌, Bool, true, false, IsTrue, List, length, Option, Some, None, IsSomeAnd, MatchOption, slice_get}
use Rattle.std.specs.Path.{path_file_name}
use Rattle.bt_disk.specs.declared.opening.FileIdentity.{FileIdentity}
use Rattle.bt_folder.specs.Lookup.{Tells}
use Rattle.bt_meta.specs.Files.{File}
use Rattle.bt_check.specs.Fault.{log_among_files, out_of_memory}
use Rattle.bt_check.specs.Paths.{path_below}
use Rattle.bt_check.specs.declared.fault.Fault.{Fault}
use Rattle.bt_log_file.specs.Folder.{folder_of}

-- the system told of both, and by one identity
abbrev pub AreOne : Option FileIdentity → Option FileIdentity → Type 0
AreOne one other = IsSomeAnd one (λ identity. other ≡ Some identity)

-- whether what lies at a place is what the system told of so
abbrev pub IsToldOf : Tells → Option FileIdentity → (place : List ℕ) → Bool → Type 0
IsToldOf tells found place is_one =
    (other : Option FileIdentity) × tells place other × (IsTrue is_one ↔ AreOne found other)

-- both paths end in one name
abbrev pub EndAlike : (path other : List ℕ) → Type 0
EndAlike path other = IsSomeAnd (path_file_name path) (λ name. path_file_name other ≡ Some name)

-- the system told nothing of the folders that both lie in
pub record AreBelowNone (tells : Tells) (path other : List ℕ) : Type 0 where
  pub folder : tells (folder_of path) None
  pub other_folder : tells (folder_of other) None

-- it told of one of the folders that both lie in, and whether that is the other
pub record AreBelowTold (tells : Tells) (path other : List ℕ) (answer : Bool) : Type 0 where
  pub folder : Option FileIdentity
  pub other_folder : Option FileIdentity
  pub told : tells (folder_of path) folder
  pub other_told : tells (folder_of other) other_folder
  pub some : (folder ≢ None) ⊎ (other_folder ≢ None)
  pub is_one : IsTrue answer ↔ AreOne folder other_folder

-- Whether two paths, at the first of which nothing lies yet, lead to one place. They end in one name, and their folders
-- are one by what the system told; where it told of neither, these lead to one place in turn.
pub data IsOnePlace (tells : Tells) : (path other : List ℕ) → Bool → Type 0 where
  unlike : (path other : List ℕ) → ¬ EndAlike path other → IsOnePlace tells path other false
  told : (path other : List ℕ) (is_one : Bool) → EndAlike path other → AreBelowTold tells path other is_one
      → IsOnePlace tells path other is_one
  untold : (path other : List ℕ) (is_one : Bool) → EndAlike path other → AreBelowNone tells path other
      → IsOnePlace tells (folder_of path) (folder_of other) is_one → IsOnePlace tells path other is_one
  top : (path other : List ℕ) → EndAlike path other → AreBelowNone tells path other
      → length path ≤ length (folder_of path) → IsOnePlace tells path other false

-- Whether a file of a torrent, below a folder, is the one at a path of which the system told this: by what it told of
-- both; where it told nothing of the path, by whether both lead to one place.
abbrev pub IsAt : Tells → (dir path : List ℕ) → Option FileIdentity → List (List ℕ) → Bool → Type 0
IsAt tells dir path found file is_at =
    MatchOption found (IsOnePlace tells (path_below dir file) path is_at)
    (λ _. IsToldOf tells found (path_below dir file) is_at)

-- one of these files is the one at the path
pub record IsFileAt (tells : Tells) (dir : List ℕ) (files : List File) (path : List ℕ)
    (found : Option FileIdentity) : Type 0 where
  pub number : ℕ
  pub file : File
  pub here : slice_get files number ≡ Some file
  pub is_at : IsAt tells dir path found file.path true

-- none of these files is the one at the path
abbrev pub IsNoneAt : Tells → List ℕ → List File → List ℕ → Option FileIdentity → Type 0
IsNoneAt tells dir files path found = (number : ℕ) (file : File) → slice_get files number ≡ Some file
    → IsAt tells dir path found file.path false

-- what the system told of the path and of the files shows that one of them lies there
abbrev pub HasFileAt : Tells → List ℕ → List File → List ℕ → Type 0
HasFileAt tells dir files path =
    (found : Option FileIdentity) × tells path found × IsFileAt tells dir files path found

-- or that none does
abbrev pub HasNoFileAt : Tells → List ℕ → List File → List ℕ → Type 0
HasNoFileAt tells dir files path =
    (found : Option FileIdentity) × tells path found × IsNoneAt tells dir files path found

-- memory was refused, or a look shows that the file at a path is one of a torrent's
abbrev pub IsDataFileFault : Tells → List ℕ → List File → List ℕ → Fault → Type 0
IsDataFileFault tells dir files path fault =
    ((fault ≡ log_among_files) × HasFileAt tells dir files path) ⊎ (fault ≡ out_of_memory)
