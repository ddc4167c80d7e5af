-- The files so far are those of the first entries, and lawful.
use Rattle.std.proofs.Common.{[], map, string_bytes}
use Rattle.std.specs.Vec.Iter.{into_iter_items}
use Rattle.bt_make.specs.Folder.{file_paths}
use Rattle.bt_make.proofs.FolderFiles.{AreMeasured}
use Rattle.bt_make.proofs.command.measured_files.Given as goal

abbrev pub invariant-loop-entry : goal.invariant-loop-entry
invariant-loop-entry g l =
    AreMeasured l.size.bytes l.counts.files l.counts.pieces (file_paths [] l.fn.entries.items)
    (file_paths (map string_bytes l.path.items) (into_iter_items l.entry-iterator)) l.files.items
