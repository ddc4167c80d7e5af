-- The data files of a torrent, as devices that are read ahead, and closed to writes with their seal.
use Rattle.std.specs.Prelude.{◌≡◌, ℕ, Bool, List, false, map, filter, nat_lt}
use Rattle.std.specs.List.{AllZip, enumerate_from}
use Rattle.bt_disk.specs.Pool.{PooledView}
use Rattle.bt_devices.specs.SealedDisk.{SealedView}
use Rattle.bt_meta.specs.Files.{File}
use Rattle.bt_check.specs.Paths.{path_below}
use Rattle.bt_devices.specs.Disk.{AheadView, new_ahead}
use Rattle.bt_log_file.specs.GaplessDisk.{GaplessView, new_gapless}
use Rattle.bt_log_file.specs.TouchedDisk.{TouchedView}
use Rattle.bt_files.specs.FileUse.{IsAccessFor, is_as_synced, is_read_only, is_touched_at_first}
use Rattle.bt_files.specs.declared.file_use.FileUse.{FileUse}

-- the files that have a byte, in their order
abbrev pub files_with_bytes : List File → List File
files_with_bytes files = filter (λ file. nat_lt 0 file.length) files

-- where these lie, below a folder
abbrev pub device_paths : List ℕ → List File → List (List ℕ)
device_paths dir files = map (λ file. path_below dir file.path) (files_with_bytes files)

-- Of each file it is said whether bytes of it are there: of an empty one there are none, whatever lies at its path.
abbrev pub AreFilled : List File → List Bool → Type 0
AreFilled files filled = AllZip (λ (file : File) is_filled. file.length ≡ 0 → is_filled ≡ false) files filled

-- a file of a pool, which is read ahead, and may be closed to writes
abbrev pub DeviceView : Type 0
DeviceView = SealedView (AheadView (GaplessView TouchedView))

-- the file of a device that was opened for a use, with its number in the pool: it was not written, and no call
-- of it failed yet
pub record IsNewFile (usage : FileUse) (nth : ℕ) (at : List ℕ) (file : PooledView) : Type 0 where
  pub number : file.number ≡ nth
  pub path : file.path ≡ at
  pub access : IsAccessFor usage file.access
  pub is_synced : file.is_synced ≡ is_as_synced usage
  pub is_written : file.is_written ≡ false
  pub failed : file.failed ≡ 0

-- the device of such a file, no call of which failed or was refused: a read-only one is closed to writes from the
-- beginning
pub record IsNewDevice (usage : FileUse) (nth : ℕ) (at : List ℕ) (disk : DeviceView) : Type 0 where
  pub file : IsNewFile usage nth at disk.inner.inner.inner.file
  pub is_touched : disk.inner.inner.inner.is_touched ≡ is_touched_at_first usage
  pub with_gaps : disk.inner.inner ≡ new_gapless disk.inner.inner.inner false
  pub ahead : disk.inner ≡ new_ahead disk.inner.inner
  pub is_sealed : disk.is_sealed ≡ is_read_only usage
  pub refused : disk.refused ≡ 0

-- One for each file that has a byte, as one pool gives them: their numbers are 1, 2 and so on.
abbrev pub AreNewDevices : FileUse → List ℕ → List File → List DeviceView → Type 0
AreNewDevices usage dir files disks =
    AllZip (λ p disk. IsNewDevice usage p.0 p.1 disk) (enumerate_from 1 (device_paths dir files)) disks
