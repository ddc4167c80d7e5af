use Rattle.std.proofs.Common.{◌≡◌, ◌≤◌, length, map}
use Rattle.bt_meta.specs.Files.{file_of}
use Rattle.bt_engine_start.specs.RootsSteps.{AreByRoot, AreBareSlotsSoFar, roots_and_lengths}
use Rattle.bt_engine_start.proofs.roots.bare_slots.Given as goal

abbrev pub invariant-loop-index : goal.invariant-loop-index
invariant-loop-index g l = record {
  by_root : AreByRoot (map file_of l.files) l.index l.roots.first_files.items l.roots.numbers;
  limit : length l.roots.first_files.items ≤ l.index;
  count : length l.slots.items ≡ l.index;
  each : AreBareSlotsSoFar (map file_of l.files) (roots_and_lengths (map file_of l.files) l.roots.first_files.items) l.slots.items;
}
