-- Why a log is not opened on a device, as the program tells it.
use Rattle.std.specs.Prelude.{◌≡◌, ℕ, List, Err}
use Rattle.bt_disk.specs.Conduct.{Conduct}
use Rattle.bt_resume.specs.ResumeLog.{Opens}
use Rattle.bt_resume.specs.declared.error.LogError.{LogError}
use Rattle.bt_resume.specs.declared.error.LogError.TheVariants.{OtherTorrent, TooLong, Device, OutOfMemory}
use Rattle.bt_check.specs.Fault.{device, log_too_long, other_torrent, out_of_memory}
use Rattle.bt_check.specs.declared.fault.Fault.{Fault}

-- each refusal of a log is a fault of its own
abbrev pub log_fault : LogError → Fault
log_fault OtherTorrent = other_torrent
log_fault TooLong = log_too_long
log_fault Device = device
log_fault OutOfMemory = out_of_memory

-- The fault is that of the refusal which the log's opening on the device ended with; and its file is free to be a log's.
pub record IsAttachFault {D : Type 0} (conduct : Conduct D)
    (infohash : List ℕ) (free : Type 0) (disk : D) (fault : Fault) : Type 0 where
  pub is_free : free
  pub cause : LogError
  pub after : D
  pub opens : Opens conduct infohash disk (Err cause) after
  pub told : fault ≡ log_fault cause
