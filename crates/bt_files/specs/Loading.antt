-- A torrent's store, from the file that the torrent is read from.
use Rattle.std.specs.Prelude.{◌≡◌, ◌≢◌, ℕ, ◌⊎◌, Bool, false, List, Option, None}
use Rattle.std.specs.Borrow.{Bor}
use Rattle.bt_meta.specs.Torrent.{Metainfo}
use Rattle.bt_machine.specs.State.{EngineView}
use Rattle.bt_check.specs.Fault.{log_among_files, log_full, log_too_long, other_torrent, same_file}
use Rattle.bt_check.specs.TorrentFile.{HasText, IsLoadFault}
use Rattle.bt_check.specs.declared.fault.Fault.{Fault}
use Rattle.bt_files.specs.DataFiles.{DeviceView}
use Rattle.bt_files.specs.FileUse.{is_read_only}
use Rattle.bt_files.specs.OpenFolder.{HasFileOfAnotherPath}
use Rattle.bt_files.specs.Store.{IsOpened}
use Rattle.bt_files.specs.declared.file_use.FileUse.{FileUse}

-- a torrent of some text was read, and the store of its files in a folder was opened for a use, with the log at this
-- path or without one
pub record IsLoaded (is_info : Bool) (usage : FileUse) (dir : List ℕ) (log : Option (Bor (List ℕ)))
    (engine : EngineView DeviceView) : Type 0 where
  pub torrent : Metainfo
  pub read : HasText is_info torrent
  pub opened : IsOpened usage dir log torrent engine

-- the file of the log is one of the torrent's, or the log is that of another torrent, or too long
abbrev pub IsLogRefusal : Fault → Type 0
IsLogRefusal fault = (fault ≡ log_among_files) ⊎ (fault ≡ other_torrent) ⊎ (fault ≡ log_too_long)

-- a torrent of some text was read, and one of its files is of another path
pub record HasPathsOfOneFile (is_info : Bool) : Type 0 where
  pub torrent : Metainfo
  pub read : HasText is_info torrent
  pub same : HasFileOfAnotherPath torrent.files

-- a torrent of some text was read
pub record IsRead (is_info : Bool) : Type 0 where
  pub torrent : Metainfo
  pub read : HasText is_info torrent

-- why none was: no torrent was read; two of its paths are one file, or one of them is that of the torrent itself (of
-- which nothing more is said here), which is no fault where they are only read; or the log is refused, where one is
-- asked for
abbrev pub IsStoreFault : Bool → FileUse → Option (Bor (List ℕ)) → Fault → Type 0
IsStoreFault is_info usage log fault =
    IsLoadFault is_info fault
    ⊎ ((fault ≡ same_file) × (is_read_only usage ≡ false) × (HasPathsOfOneFile is_info ⊎ IsRead is_info))
    ⊎ ((log ≢ None) × IsLogRefusal fault)

-- the log is full, where one is asked for: that shows as what is known is written to it, after the work
abbrev pub IsLogFull : Option (Bor (List ℕ)) → Fault → Type 0
IsLogFull log fault = (log ≢ None) × (fault ≡ log_full)
