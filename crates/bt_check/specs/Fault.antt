-- Why the program ends without a result, and the statuses that it exits with.
use Rattle.std.specs.Prelude.{ℕ}
use Rattle.std.specs.declared.io.ErrorKind.{ErrorKind}
use Rattle.std.specs.declared.io.ErrorKind.TheVariants.{OutOfMemory as no_growth}
use Rattle.bt_meta.specs.declared.error.MetaError.{MetaError}
use Rattle.bt_meta.specs.declared.error.MetaError.TheVariants.{OutOfMemory as no_memory}
use Rattle.bt_meta.specs.declared.writer.MakeError.{MakeError}
use Rattle.bt_meta.specs.declared.writer.MakeError.TheVariants.{OutOfMemory as no_memory_to_make}
use Rattle.bt_check.specs.declared.fault.Fault.{Fault}
use Rattle.bt_check.specs.declared.fault.Fault.TheVariants.{Words, OutAmongFiles, Torrent, Make, SameFile, LogAmongFiles, OtherTorrent, LogTooLong, LogFull, Device, OutOfMemory}

-- 2 where the input is refused, 3 for a device, 4 for out of memory
abbrev pub status_of : Fault → ℕ
status_of Words = 2
status_of OutAmongFiles = 2
status_of (Torrent refusal) = 2
status_of (Make refusal) = 2
status_of SameFile = 2
status_of LogAmongFiles = 2
status_of OtherTorrent = 2
status_of LogTooLong = 2
status_of LogFull = 2
status_of Device = 3
status_of OutOfMemory = 4

-- a word that is no text
abbrev pub words_fault : Fault
words_fault = Words

-- OUT is one of the files that the torrent would be made of
abbrev pub out_among_files : Fault
out_among_files = OutAmongFiles

-- two paths of the torrent are one file
abbrev pub same_file : Fault
same_file = SameFile

-- the file of the log is one of the torrent's
abbrev pub log_among_files : Fault
log_among_files = LogAmongFiles

-- the log is of another torrent, or of none; it is too long; it would become too long
abbrev pub other_torrent : Fault
other_torrent = OtherTorrent

abbrev pub log_too_long : Fault
log_too_long = LogTooLong

abbrev pub log_full : Fault
log_full = LogFull

abbrev pub device : Fault
device = Device

abbrev pub out_of_memory : Fault
out_of_memory = OutOfMemory

-- a refused growth is no refusal of the torrent
abbrev pub torrent_fault : MetaError → Fault
torrent_fault no_memory = OutOfMemory
torrent_fault refusal = Torrent refusal

abbrev pub make_fault : MakeError → Fault
make_fault no_memory_to_make = OutOfMemory
make_fault refusal = Make refusal

-- a call of the system that takes memory: it was refused some, or the device failed
abbrev pub system_fault : ErrorKind → Fault
system_fault no_growth = OutOfMemory
system_fault kind = Device
