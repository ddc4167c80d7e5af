-- The device of a log's file.
use Rattle.std.specs.Prelude.{ℕ, List, Option, true, false}
use Rattle.bt_devices.specs.Disk.{AheadView, ahead_conduct, new_ahead}
use Rattle.bt_disk.specs.FileDisk.{writing}
use Rattle.bt_disk.specs.Conduct.{Conduct}
use Rattle.bt_disk.specs.Pool.{PooledView}
use Rattle.bt_disk.specs.declared.opening.FileIdentity.{FileIdentity}
use Rattle.bt_devices.specs.SealedDisk.{SealedView, new_sealed, sealed_conduct}
use Rattle.bt_log_file.specs.GaplessDisk.{GaplessView, gapless_conduct, new_gapless}
use Rattle.bt_log_file.specs.TouchedDisk.{TouchedView, new_touched, touched_conduct}

-- a file of a pool, which is read ahead, and may be closed to writes
abbrev pub LogDiskView : Type 0
LogDiskView = SealedView (AheadView (GaplessView TouchedView))

-- the first file of a pool, at a path, of which the system tells this, and which may be written: it was not
-- yet, and no call of it failed
abbrev pub new_log_file : List ℕ → Option FileIdentity → PooledView
new_log_file at identity = record {
  number = 1;
  path = at;
  access = writing;
  identity = identity;
  is_synced = false;
  is_written = false;
  failed = 0;
}

-- the device of a log's file, which is synced from its first sync on, is written without gaps, and is not closed to
-- writes
abbrev pub new_log_device : List ℕ → Option FileIdentity → LogDiskView
new_log_device at identity =
    new_sealed (new_ahead (new_gapless (new_touched (new_log_file at identity) true) true))

-- ---- such a device, as `Disk` has it

abbrev pub device_conduct : Conduct LogDiskView
device_conduct = sealed_conduct (ahead_conduct (gapless_conduct touched_conduct))
