-- The files so far are the first of those given, and are told of by some bytes each.
use Rattle.std.specs.Vec.Iter.{into_iter_items}
use Rattle.bt_make.proofs.FolderFiles.{HaveContents}
use Rattle.bt_make.proofs.command.read_files.Given as goal

abbrev pub invariant-loop-file : goal.invariant-loop-file
invariant-loop-file g l = HaveContents l.size.layer l.fn.files.items (into_iter_items l.file-iterator) l.made.items
