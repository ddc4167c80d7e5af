-- Why a torrent's data files are not opened.
use Rattle.std.specs.Prelude.{◌≡◌, ◌⊎◌, ◌↔◌, ℕ, if◌then◌else◌, false, List, length, slice_get, Contains, Option, Some, IsSomeAnd}
use Rattle.bt_disk.specs.declared.opening.FileIdentity.{FileIdentity}
use Rattle.bt_folder.specs.KnownFiles.{IsKnown}
use Rattle.bt_folder.specs.declared.known_files.KnownFiles.{KnownFiles}
use Rattle.bt_meta.specs.Files.{File}
use Rattle.bt_check.specs.Fault.{device, out_of_memory, same_file}
use Rattle.bt_check.specs.declared.fault.Fault.{Fault}
use Rattle.bt_files.specs.FileUse.{is_read_only}
use Rattle.bt_files.specs.OwnPaths.{HasNameOfAnotherPath}
use Rattle.bt_files.specs.declared.file_use.FileUse.{FileUse}
use Rattle.bt_files.specs.declared.open_folder.OpenFolder.{OpenFolder}

-- a call failed, or memory was refused
abbrev pub IsCallFault : Fault → Type 0
IsCallFault fault = (fault ≡ device) ⊎ (fault ≡ out_of_memory)

-- or two paths are one file, for this reason
abbrev pub IsCallFaultOr : Type 0 → Fault → Type 0
IsCallFaultOr reason fault = IsCallFault fault ⊎ ((fault ≡ same_file) × reason)

-- no file was opened
abbrev pub IsUnused : OpenFolder → Type 0
IsUnused folder = (file : FileIdentity) → ¬ IsKnown folder.files file

-- what the system tells of one more file is added
abbrev pub IsAdded : KnownFiles → Option FileIdentity → KnownFiles → Type 0
IsAdded before identity after =
    (file : FileIdentity) → IsKnown after file ↔ (IsKnown before file ⊎ (identity ≡ Some file))

-- why a file is refused that was opened: that it is one of those before is no fault where both are only read
abbrev pub IsFileFault : FileUse → KnownFiles → Option FileIdentity → Fault → Type 0
IsFileFault usage before identity =
    IsCallFaultOr ((is_read_only usage ≡ false) × IsSomeAnd identity (IsKnown before))

-- what is known of files is what the system told of `count` of them
pub record KnowsFiles (files : KnownFiles) (count : ℕ) : Type 0 where
  pub identities : List (Option FileIdentity)
  pub each : length identities ≡ count
  pub known : (file : FileIdentity) → IsKnown files file ↔ Contains identities (Some file)

-- what is known once these files were opened for a use: of a read-only one nothing
abbrev pub KnowsOpened : FileUse → List File → KnownFiles → Type 0
KnowsOpened usage files known = KnowsFiles known (if is_read_only usage then 0 else length files)

-- One of some files has the device and the inode of one before it. So it is not the first.
pub record HasKnownFile (files : List File) : Type 0 where
  pub number : ℕ
  pub file : File
  pub listed : slice_get files number ≡ Some file
  pub known : KnownFiles
  pub before : KnowsFiles known number
  pub identity : FileIdentity
  pub is_known : IsKnown known identity

-- one of some files is of another path: it is a file before it, or a name on its path is that of another
abbrev pub HasFileOfAnotherPath : List File → Type 0
HasFileOfAnotherPath files = HasKnownFile files ⊎ HasNameOfAnotherPath files

-- why these files are not opened
abbrev pub IsOpeningFault : FileUse → List File → Fault → Type 0
IsOpeningFault usage files = IsCallFaultOr ((is_read_only usage ≡ false) × HasFileOfAnotherPath files)

-- why they are refused by their paths, once they were opened
abbrev pub IsPathFault : FileUse → List File → Fault → Type 0
IsPathFault usage files = IsCallFaultOr ((is_read_only usage ≡ false) × HasNameOfAnotherPath files)
