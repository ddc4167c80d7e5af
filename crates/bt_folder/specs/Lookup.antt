-- What a file system tells of what lies in it.
use Rattle.std.specs.Prelude.{◌≡◌, ◌==◌, ◌⊎◌, if◌then◌else◌, ℕ, List, Option, None, Some, Result, Err}
use Rattle.bt_disk.specs.declared.opening.FileIdentity.{FileIdentity}
use Rattle.bt_folder.specs.declared.folder_names.FolderNames.{FolderNames}
use Rattle.bt_folder.specs.declared.folder_names.ListingError.{ListingError}
use Rattle.bt_folder.specs.declared.folder_names.ListingError.TheVariants.{OutOfMemory}

-- By what a file is told apart of which the system tells these numbers. No file has the inode 0: a system that tells
-- it tells no file apart.
abbrev pub told_identity : (device inode : ℕ) → Option FileIdentity
told_identity device inode = if inode == 0 then None else Some (record { device = device; inode = inode })

-- that it told of what lies at a place by this identity, or by none
abbrev pub Tells : Type 1
Tells = List ℕ → Option FileIdentity → Type 0

-- that it answered a listing of the folder at a place so
abbrev pub Lists : Type 1
Lists = List ℕ → Result FolderNames ListingError → Type 0

-- memory was refused, or this was told of the folder
abbrev pub IsListingError : Lists → List ℕ → ListingError → Type 0
IsListingError lists place error = (error ≡ OutOfMemory) ⊎ lists place (Err error)
