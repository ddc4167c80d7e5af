-- The status of a fault.
use Rattle.std.proofs.Common.{◌≤◌, arith}
use Rattle.bt_check.specs.Fault.{status_of}
use Rattle.bt_check.specs.declared.fault.Fault.{Fault}
use Rattle.bt_check.specs.declared.fault.Fault.TheVariants.{Words, OutAmongFiles, Torrent, Make, SameFile, LogAmongFiles, OtherTorrent, LogTooLong, LogFull, Device, OutOfMemory}

-- it is above those of a result
pub above_one : (fault : Fault) → 2 ≤ status_of fault
above_one Words = omega arith
above_one OutAmongFiles = omega arith
above_one (Torrent refusal) = omega arith
above_one (Make refusal) = omega arith
above_one SameFile = omega arith
above_one LogAmongFiles = omega arith
above_one OtherTorrent = omega arith
above_one LogTooLong = omega arith
above_one LogFull = omega arith
above_one Device = omega arith
above_one OutOfMemory = omega arith
