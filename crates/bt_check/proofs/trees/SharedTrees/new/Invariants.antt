-- The last of each root and length among the files so far.
use Rattle.std.proofs.Common.{◌≡◌, ◌+◌, map, length}
use Rattle.bt_meta.specs.Files.{file_of}
use Rattle.bt_check.proofs.KeptTrees.{TellsLast}
use Rattle.bt_check.proofs.trees.SharedTrees.new.Given as goal

abbrev pub invariant-loop-file : goal.invariant-loop-file
invariant-loop-file l = record {
  count : l.left + l.file-index ≡ length l.files;
  told : TellsLast (map file_of l.files) l.file-index l.last;
}
