-- Data files that are files of their own, as far as the system tells files apart: by their device and inode.
use Rattle.std.specs.Prelude.{◌≡◌, List, Option, Some, IfSome}
use Rattle.std.specs.List.{All, AllPairs}
use Rattle.bt_disk.specs.declared.opening.FileIdentity.{FileIdentity}
use Rattle.bt_folder.specs.KnownFiles.{IsKnown}
use Rattle.bt_folder.specs.declared.known_files.KnownFiles.{KnownFiles}
use Rattle.bt_files.specs.DataFiles.{DeviceView}

-- what the system told of a device's file when it was opened
abbrev pub identity_of : DeviceView → Option FileIdentity
identity_of disk = disk.inner.inner.inner.file.identity

-- the system told the same of the files of two devices
abbrev pub AreOneFile : DeviceView → DeviceView → Type 0
AreOneFile disk other =
    (file : FileIdentity) × (identity_of disk ≡ Some file) × (identity_of other ≡ Some file)

-- of no two of these devices
abbrev pub AreApart : List DeviceView → Type 0
AreApart disks = AllPairs (λ disk later. ¬ AreOneFile disk later) disks

-- what the system told of the files of these devices is known
abbrev pub AreKnown : KnownFiles → List DeviceView → Type 0
AreKnown known disks = All (λ disk. IfSome (identity_of disk) (IsKnown known)) disks
