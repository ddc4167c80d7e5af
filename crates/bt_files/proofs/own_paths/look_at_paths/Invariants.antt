-- The paths of the entries so far were looked at, and each name on them is its own.
use Rattle.std.proofs.Common.{map}
use Rattle.bt_meta.specs.Files.{file_of}
use Rattle.bt_files.specs.OwnPaths.{KnowsPaths}
use Rattle.bt_files.proofs.PathNames.{AreOwnBefore}
use Rattle.bt_files.proofs.own_paths.look_at_paths.Given as goal

abbrev pub invariant-loop-entry : goal.invariant-loop-entry
invariant-loop-entry g l = record {
  known : KnowsPaths (map file_of l.entries) l.entry-index l.paths;
  own : AreOwnBefore (g.R.Lookup.lists l.rt) l.dir (map file_of l.entries) l.entry-index;
}
