-- Why a replay ends before its script does, and the statuses that the program exits with.
use Rattle.std.specs.Prelude.{ℕ}
use Rattle.bt_meta.specs.declared.error.MetaError.{MetaError}
use Rattle.bt_meta.specs.declared.error.MetaError.TheVariants.{OutOfMemory as no_memory}
use Rattle.bt_replay.specs.declared.fault.ReplayFault.{ReplayFault}
use Rattle.bt_replay.specs.declared.fault.ReplayFault.TheVariants.{Line, Torrent, Read, Write, OutOfMemory}

-- 2 where the script is refused, 3 for a reader or a writer that failed, 4 for out of memory
abbrev pub status_of : ReplayFault → ℕ
status_of (Line number) = 2
status_of (Torrent refusal) = 2
status_of Read = 3
status_of Write = 3
status_of OutOfMemory = 4

abbrev pub out_of_memory : ReplayFault
out_of_memory = OutOfMemory

-- why no torrent is read: where it is want of memory, the torrent is not refused
abbrev pub torrent_fault : MetaError → ReplayFault
torrent_fault no_memory = OutOfMemory
torrent_fault refusal = Torrent refusal

abbrev pub read_fault : ReplayFault
read_fault = Read
