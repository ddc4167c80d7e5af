use Rattle.std.proofs.Common.{◌≡◌, length, map}
use Rattle.bt_meta.specs.Files.{file_of}
use Rattle.bt_engine_start.specs.RootsSteps.{AreFirstsFrom}
use Rattle.bt_engine_start.proofs.NextFiles.{AreNextsFrom}
use Rattle.bt_engine_start.proofs.next_files.fill_next_files.Given as goal

abbrev pub invariant-loop-index : goal.invariant-loop-index
invariant-loop-index l = record {
  firsts : AreFirstsFrom (map file_of l.files) l.index l.firsts;
  size : length l.nexts ≡ length l.files;
  each : AreNextsFrom (map file_of l.files) l.index l.nexts;
}
