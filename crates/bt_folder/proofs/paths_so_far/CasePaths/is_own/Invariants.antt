-- The first of the rest was looked at beside those before, and each after it alone.
use Rattle.std.proofs.Common.{◌≡◌, ◌+◌, vec_len}
use Rattle.bt_folder.specs.CasePaths.{texts}
use Rattle.bt_folder.proofs.Looks.{HasLookedAt}
use Rattle.bt_folder.proofs.paths_so_far.CasePaths.is_own.Given as goal

abbrev pub invariant-loop-element : goal.invariant-loop-element
invariant-loop-element g l = record {
  depth : vec_len l.self.path ≡ l.shared + l.element-index;
  looked : HasLookedAt (g.R.Lookup.lists l.rt) l.dir l.fn.self l.self (texts l.elements) l.shared l.element-index;
}
