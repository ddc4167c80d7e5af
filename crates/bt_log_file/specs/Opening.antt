-- A log that is opened in a file, which is none of its torrent's.
use Rattle.std.specs.Prelude.{◌≡◌, ◌⊎◌, ◌↔◌, ⊤, ℕ, List, Option, Some, Err, IfSome, IsSomeAnd}
use Rattle.bt_disk.specs.declared.opening.FileIdentity.{FileIdentity}
use Rattle.bt_folder.specs.KnownFiles.{IsKnown}
use Rattle.bt_folder.specs.Lookup.{Lists}
use Rattle.bt_folder.specs.declared.folder_names.ListingError.{ListingError}
use Rattle.bt_folder.specs.declared.folder_names.ListingError.TheVariants.{Device as CallFailed, OutOfMemory as NoMemory}
use Rattle.bt_folder.specs.declared.known_files.KnownFiles.{KnownFiles}
use Rattle.bt_meta.specs.Torrent.{Metainfo}
use Rattle.bt_resume.specs.ResumeLog.{LogView, IsAttached}
use Rattle.bt_check.specs.Fault.{device, log_among_files, out_of_memory}
use Rattle.bt_check.specs.declared.fault.Fault.{Fault}
use Rattle.bt_log_file.specs.Attaching.{IsAttachFault}
use Rattle.bt_log_file.specs.Device.{LogDiskView, device_conduct, new_log_device}
use Rattle.bt_log_file.specs.Folder.{folder_of}
use Rattle.bt_log_file.specs.Names.{HasNameOfFile}

-- a call failed, or memory was refused
abbrev pub IsCallFault : Fault → Type 0
IsCallFault fault = (fault ≡ device) ⊎ (fault ≡ out_of_memory)

-- a call failed, as is known by this, or memory was refused
abbrev pub IsCallFaultBy : (failed : Type 0) → Fault → Type 0
IsCallFaultBy failed fault = ((fault ≡ device) × failed) ⊎ (fault ≡ out_of_memory)

-- a call failed, as is known by the first of these, or, on a file that is free to be a log's, by the second; or memory
-- was refused
abbrev pub IsCallFaultOf : (failed lost free : Type 0) → Fault → Type 0
IsCallFaultOf failed lost free = IsCallFaultBy (failed ⊎ (free × lost))

-- the file at a path was not opened, or its folder not listed
abbrev pub HasFailed : (refuses : List ℕ → Type 0) → Lists → List ℕ → Type 0
HasFailed refuses lists path = refuses path ⊎ lists (folder_of path) (Err CallFailed)

-- why the program ends where a folder can't be listed
abbrev pub listing_fault : ListingError → Fault
listing_fault CallFailed = device
listing_fault NoMemory = out_of_memory

-- what the system tells of one more file is added
abbrev pub IsAdded : KnownFiles → Option FileIdentity → KnownFiles → Type 0
IsAdded before identity after =
    (file : FileIdentity) → IsKnown after file ↔ (IsKnown before file ⊎ (identity ≡ Some file))

-- a file of which the system tells this was added, and was none of those before
pub record AddsFile (before : KnownFiles) (identity : Option FileIdentity) (after : KnownFiles) : Type 0 where
  pub further : IfSome identity (λ file. ¬ IsKnown before file)
  pub added : IsAdded before identity after

-- the log of a torrent on a new device of the file at a path, of which the system tells this
abbrev pub IsLogIn : Metainfo → List ℕ → Option FileIdentity → LogView LogDiskView → Type 0
IsLogIn torrent path identity log =
    IsAttached device_conduct torrent.infohash (new_log_device path identity) log

-- the log is in the file at the path, and that very file was added, which was none of those before where the system
-- tells them apart
pub record IsFurtherLog (before : KnownFiles) (torrent : Metainfo) (path : List ℕ)
    (after : KnownFiles) (log : LogView LogDiskView) : Type 0 where
  pub identity : Option FileIdentity
  pub is_log : IsLogIn torrent path identity log
  pub adds : AddsFile before identity after

-- memory was refused, or the file is one of those before
abbrev pub IsFileFault : KnownFiles → Option FileIdentity → Fault → Type 0
IsFileFault known identity fault =
    (fault ≡ out_of_memory) ⊎ ((fault ≡ log_among_files) × IsSomeAnd identity (IsKnown known))

-- a call failed, memory was refused, or the file at a path is one of a torrent's by a name that differs in case
abbrev pub IsNameFault : (failed named : Type 0) → Fault → Type 0
IsNameFault failed named fault = IsCallFaultBy failed fault ⊎ ((fault ≡ log_among_files) × named)

-- The file, of which the system tells this, is one of a torrent's: it is known, or is one by its name.
abbrev pub IsAmongFiles : KnownFiles → Option FileIdentity → (named : Type 0) → Type 0
IsAmongFiles known identity named = IsSomeAnd identity (IsKnown known) ⊎ named

-- It is none of them: it is not known, and is none by its name. Then it is free to be a log's.
abbrev pub IsNoneOfFiles : KnownFiles → Option FileIdentity → (own_name : Type 0) → Type 0
IsNoneOfFiles known identity own_name = IfSome identity (λ file. ¬ IsKnown known file) × own_name

-- Why no log is in a file that was opened, of which the system tells this: a call failed, of which some come only where
-- the file is none of the torrent's, or memory was refused; it is one of them; or it is none, and its device is one that
-- a log is not opened on.
abbrev pub IsLogFaultOf : KnownFiles → Option FileIdentity → (infohash : List ℕ)
    → (called : Type 0 → Fault → Type 0) → (named own_name : Type 0) → LogDiskView → Fault → Type 0
IsLogFaultOf known identity infohash called named own_name disk fault =
    called (IsNoneOfFiles known identity own_name) fault
    ⊎ ((fault ≡ log_among_files) × IsAmongFiles known identity named)
    ⊎ IsAttachFault device_conduct infohash (IsNoneOfFiles known identity own_name) disk fault

-- why a log is not opened in the file at a path, whatever the system tells of that file
abbrev pub IsLogFaultBy : (called : Type 0 → Fault → Type 0) (named own_name : Type 0) → KnownFiles → Metainfo
    → List ℕ → Fault → Type 0
IsLogFaultBy called named own_name known torrent path fault =
    (identity : Option FileIdentity)
    × IsLogFaultOf known identity torrent.infohash called named own_name (new_log_device path identity) fault

-- why a log is not opened in the file at a path, where nothing is known of what the system told
abbrev pub IsLogFault : KnownFiles → Metainfo → List ℕ → Fault → Type 0
IsLogFault known torrent path =
    IsLogFaultBy (λ free. IsCallFault) (HasNameOfFile torrent.files path) ⊤ known torrent path
