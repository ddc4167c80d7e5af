-- Devices of which eight blocks are read ahead.
use Rattle.std.proofs.Common.{◌≡◌, ℕ}
use Rattle.std.proofs.lemmas.List.Elements.{All-weaker}
use Rattle.bt_disk.specs.Conduct.{Conduct}
use Rattle.bt_disk.specs.Calls.{Call, length_given, length_fault, bytes_given, read_fault, bytes_written, write_fault, length_set, resize_fault, sync_made, sync_fault, IsRead}
use Rattle.bt_disk.proofs.Histories.{reads_change_nothing}
use Rattle.bt_devices.specs.Cache.{IsRunRead}
use Rattle.bt_devices.specs.Disk.{MayReadRun}

-- the read of a run is a read
run_is_read : (at : ℕ) (call : Call) → IsRunRead at call → IsRead call
run_is_read at (bytes_given start wanted bytes) run = tt
run_is_read at (read_fault start wanted) run = tt
run_is_read at (length_given len) run = absurd run
run_is_read at length_fault run = absurd run
run_is_read at (bytes_written start bytes) run = absurd run
run_is_read at (write_fault start bytes) run = absurd run
run_is_read at (length_set len) run = absurd run
run_is_read at (resize_fault len) run = absurd run
run_is_read at sync_made run = absurd run
run_is_read at sync_fault run = absurd run

module _ {D : Type 0} (conduct : Conduct D) (old : D) (at : ℕ) where
  -- what an honest device holds stays
  pub run_keeps : (new : D) → MayReadRun conduct old at new → conduct.honest old → conduct.history new ≡ conduct.history old
  run_keeps new read is_honest =
      reads_change_nothing (conduct.history old) (conduct.history new) read.calls
      (All-weaker (IsRunRead at) IsRead (run_is_read at) read.calls read.run_read) (read.made.answered is_honest)
