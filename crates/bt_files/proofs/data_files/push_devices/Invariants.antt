-- The devices so far are those of the entries so far, and there are no others of the pool. Before the first no file was
-- opened; after it those so far are known, but for a read-only use, of which none is. But for such a use the devices so
-- far are of files of their own, and these are known.
use Rattle.std.proofs.Common.{◌≡◌, ◌<◌, true, false}
use Rattle.bt_files.specs.FileUse.{is_read_only}
use Rattle.bt_files.specs.OpenFolder.{IsUnused, KnowsFiles}
use Rattle.bt_files.specs.OwnFiles.{AreApart, AreKnown}
use Rattle.bt_files.proofs.Devices.{AreOpened}
use Rattle.bt_files.proofs.data_files.push_devices.Given as goal

abbrev pub invariant-loop-entry : goal.invariant-loop-entry
invariant-loop-entry g l = record {
  opened : AreOpened l.context.usage l.dir l.entries l.entry-index l.files.disks.items l.files.filled.items l.pool.made;
  first : l.entry-index ≡ 0 → IsUnused l.folder;
  known : is_read_only l.context.usage ≡ false → 0 < l.entry-index → KnowsFiles l.folder.files l.entry-index;
  unread : is_read_only l.context.usage ≡ true → IsUnused l.folder;
  told : is_read_only l.context.usage ≡ false → AreKnown l.folder.files l.files.disks.items;
  apart : is_read_only l.context.usage ≡ false → AreApart l.files.disks.items;
}
