-- The engine that a store is opened with.
use Rattle.std.specs.Prelude.{[], ◌≡◌, ◌≢◌, ◌⊎◌, ℕ, Bool, false, List, length, Option, None, Some, Result, Ok, Err}
use Rattle.std.specs.Borrow.{Bor}
use Rattle.sha2.specs.Sha256.{sha256}
use Rattle.bt_devices.specs.Disk.{ahead_conduct}
use Rattle.bt_disk.specs.Conduct.{Conduct}
use Rattle.bt_meta.specs.Torrent.{Metainfo}
use Rattle.bt_resume.specs.ResumeLog.{LogView}
use Rattle.bt_machine.specs.declared.error.FlushError.{FlushError}
use Rattle.bt_machine.specs.declared.error.FlushError.TheVariants.{Device, LogFull}
use Rattle.bt_machine.specs.declared.event.Event.TheVariants.{Flush}
use Rattle.bt_machine.specs.declared.event.Answer.TheVariants.{Flushed}
use Rattle.bt_machine.specs.Opening.{BeginsOn}
use Rattle.bt_machine.specs.Start.{AreDevicesOf}
use Rattle.bt_machine.specs.State.{EngineState, EngineView}
use Rattle.bt_machine.specs.View.{StepsTo}
use Rattle.bt_files.specs.Adoption.{TakesIn}
use Rattle.bt_engine.specs.Leads.{LeadsTo}
use Rattle.bt_devices.specs.SealedDisk.{sealed_conduct}
use Rattle.bt_folder.specs.declared.known_files.KnownFiles.{KnownFiles}
use Rattle.bt_log_file.specs.GaplessDisk.{gapless_conduct}
use Rattle.bt_log_file.specs.TouchedDisk.{touched_conduct}
use Rattle.bt_check.specs.Fault.{device, log_full}
use Rattle.bt_check.specs.declared.fault.Fault.{Fault}
use Rattle.bt_files.specs.DataFiles.{AreFilled, AreNewDevices, DeviceView}
use Rattle.bt_files.specs.FileUse.{is_read_only, use_with}
use Rattle.bt_files.specs.OpenFolder.{IsCallFault, IsOpeningFault, KnowsOpened}
use Rattle.bt_files.specs.OwnFiles.{AreApart, AreKnown}
use Rattle.bt_files.specs.StoreLog.{IsLogAt, IsLogFaultAt, IsLookFault}
use Rattle.bt_files.specs.declared.file_use.FileUse.{FileUse}

-- which files are taken in, of those of which this is said: with a log none, since it tells what is there
abbrev pub adopted : {D : Type 0} → Option (LogView D) → List Bool → List Bool
adopted None filled = filled
adopted (Some log) filled = []

-- An engine of the torrent, which began with these devices, each with its file, and with this log or without one. In
-- the latter case it has taken in what those files have of which bytes are there, by events of the machine: no read
-- of them failed; and it has no log. No peer is connected.
pub record HasBegun {D : Type 0} (conduct : Conduct D)
    (dig : List ℕ → List ℕ) (torrent : Metainfo) (given : List D) (log : Option (LogView D))
    (filled : List Bool) (engine : EngineView D) : Type 0 where
  pub first : EngineView D
  pub placed : List (Option D)
  pub devices : AreDevicesOf torrent.files given placed
  pub begins : BeginsOn conduct dig torrent placed log first
  pub taken_in : TakesIn conduct dig first (adopted log filled) engine
  pub run : LeadsTo conduct dig first engine
  pub same : engine.state.torrent ≡ torrent
  pub no_peer : engine.state.peers ≡ []
  pub unlogged : log ≡ None → engine.log ≡ None

-- ---- its flush

-- the states are one, but for what waits for the log
abbrev pub IsSameButPending : EngineState → EngineState → Type 0
IsSameButPending old new = record new { pending = [] } ≡ record old { pending = [] }

-- why the program ends where a flush was refused
abbrev pub flush_fault : FlushError → Fault
flush_fault Device = device
flush_fault LogFull = log_full

-- that of an engine with this log, or without one: then none is full
abbrev pub IsFlushFault : {D : Type 0} → Option (LogView D) → Fault → Type 0
IsFlushFault log fault = (fault ≡ device) ⊎ ((fault ≡ log_full) × (log ≢ None))

-- what is told with a flush that answered so: its own fault, where it was refused, else that of a call beside it
abbrev pub IsToldWith : Result (Unit {0}) FlushError → Fault → Type 0
IsToldWith (Ok done) fault = IsCallFault fault
IsToldWith (Err error) fault = fault ≡ flush_fault error

-- A flush was the last that was done, and this fault is told with it.
pub record FailsWithFlush {D : Type 0} (conduct : Conduct D)
    (dig : List ℕ → List ℕ) (old : EngineView D) (fault : Fault) (new : EngineView D) : Type 0 where
  pub answer : Result (Unit {0}) FlushError
  pub flushed : StepsTo conduct dig old Flush (Flushed answer) new
  pub told : IsToldWith answer fault

-- ---- the devices of data files, as `Disk` has them

abbrev pub device_conduct : Conduct DeviceView
device_conduct = sealed_conduct (ahead_conduct (gapless_conduct touched_conduct))

-- ---- the store of a torrent's files in a folder

-- An engine of the torrent, which began with the devices of its files, opened for a use, and with the log at this path
-- or without one, and has taken in what is there where there is none. Of which files bytes are there the system
-- tells; of an empty file there are none. But for a read-only use no two of these devices are of one file, and the log is
-- in none of their files, since what is known of them is no log's: all this as far as the system tells files apart.
pub record IsOpened (usage : FileUse) (dir : List ℕ) (log : Option (Bor (List ℕ))) (torrent : Metainfo)
    (engine : EngineView DeviceView) : Type 0 where
  pub devices : List DeviceView
  pub of_files : AreNewDevices (use_with usage log) dir torrent.files devices
  pub filled : List Bool
  pub each : length filled ≡ length torrent.files
  pub apart : is_read_only usage ≡ false → AreApart devices
  pub known : KnownFiles
  pub told : is_read_only usage ≡ false → AreKnown known devices
  pub attached : Option (LogView DeviceView)
  pub after : KnownFiles
  pub of_log : IsLogAt known torrent log after attached
  pub begun : HasBegun device_conduct sha256 torrent devices attached filled
      engine
  pub are_filled : AreFilled torrent.files filled

-- Why none is opened: a look at the path of the log refuses it; the files are not opened, or a call failed; or the log
-- is not, where it is known what the system told of the files.
abbrev pub IsOpenFault : FileUse → Metainfo → Option (Bor (List ℕ)) → Fault → Type 0
IsOpenFault usage torrent log fault =
    IsLookFault log fault ⊎ IsOpeningFault usage torrent.files fault
    ⊎ ((known : KnownFiles) × KnowsOpened usage torrent.files known × IsLogFaultAt known torrent log fault)
