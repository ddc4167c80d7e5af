-- The log that a store is opened with, in the file at a path.
use Rattle.std.specs.Prelude.{◌≡◌, ◌≢◌, ◌⊎◌, ℕ, List, Option, Some, None, IfSome, IsSomeAnd}
use Rattle.std.specs.Borrow.{Bor}
use Rattle.bt_folder.specs.Lookup.{Tells}
use Rattle.bt_folder.specs.declared.known_files.KnownFiles.{KnownFiles}
use Rattle.bt_meta.specs.Files.{File}
use Rattle.bt_meta.specs.Torrent.{Metainfo}
use Rattle.bt_resume.specs.ResumeLog.{LogView}
use Rattle.bt_check.specs.Fault.{log_among_files, out_of_memory}
use Rattle.bt_check.specs.declared.fault.Fault.{Fault}
use Rattle.bt_log_file.specs.Device.{LogDiskView}
use Rattle.bt_log_file.specs.Looking.{HasNoFileAt, IsDataFileFault}
use Rattle.bt_log_file.specs.Opening.{IsFurtherLog, IsLogFault}

-- The log of a torrent on a new device of the file at this path, which was none of the files known before, and is known
-- after; none, and nothing is added, where no path is given.
abbrev pub IsLogAt : (before : KnownFiles) → Metainfo → Option (Bor (List ℕ)) → (after : KnownFiles)
    → Option (LogView LogDiskView) → Type 0
IsLogAt before torrent None after None = after ≡ before
IsLogAt before torrent (Some path) after (Some log) = IsFurtherLog before torrent path.now after log
IsLogAt before torrent _ after _ = ⊥

-- why none is opened in this file, where these files are known
abbrev pub IsLogFaultAt : KnownFiles → Metainfo → Option (Bor (List ℕ)) → Fault → Type 0
IsLogFaultAt known torrent None fault = ⊥
IsLogFaultAt known torrent (Some path) fault = IsLogFault known torrent path.now fault

-- What was told as the log was looked at, where a path of it is given, shows that it is none of a torrent's files
-- below a folder.
abbrev pub IsLogApart : Tells → (dir : List ℕ) → List File → Option (Bor (List ℕ)) → Type 0
IsLogApart tells dir files log = IfSome log (λ path. HasNoFileAt tells dir files path.now)

-- or that it is one of them; or memory was refused
abbrev pub IsLookFaultBy : Tells → (dir : List ℕ) → List File → Option (Bor (List ℕ)) → Fault → Type 0
IsLookFaultBy tells dir files log fault =
    IsSomeAnd log (λ path. IsDataFileFault tells dir files path.now fault)

-- the same, where nothing is known of what was told
abbrev pub IsLookFault : Option (Bor (List ℕ)) → Fault → Type 0
IsLookFault log fault = (log ≢ None) × ((fault ≡ log_among_files) ⊎ (fault ≡ out_of_memory))
