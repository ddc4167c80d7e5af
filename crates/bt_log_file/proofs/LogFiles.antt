-- The file of a log, by what is known of each of its parts.
use Rattle.std.proofs.Common.{◌≡◌, ℕ, ◌+◌, List, Option, false, refl}
use Rattle.bt_disk.specs.FileDisk.{writing}
use Rattle.bt_disk.specs.Pool.{PooledView, PoolView, new_pool}
use Rattle.bt_disk.specs.declared.opening.FileIdentity.{FileIdentity}
use Rattle.bt_log_file.specs.Device.{new_log_file}

pub first_file : (before after : PoolView) (file : PooledView) (at : List ℕ) (identity : Option FileIdentity)
    → before ≡ new_pool → after.made ≡ before.made + 1 → file.number ≡ after.made → file.path ≡ at → file.access ≡ writing
    → identity ≡ file.identity → file.is_synced ≡ false → file.is_written ≡ false → file.failed ≡ 0
    → file ≡ new_log_file at identity
first_file before after file at identity new one_more number path access told synced written failed = rw (← path, told) (
    let made : file.number ≡ 1 = rw (number, one_more, new) refl in
    let same : record {
      number = file.number;
      path = file.path;
      access = file.access;
      identity = file.identity;
      is_synced = file.is_synced;
      is_written = file.is_written;
      failed = file.failed;
    } ≡ new_log_file file.path file.identity = rw (made, access, synced, written, failed) refl in
    same)
