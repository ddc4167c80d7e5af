-- The files so far, and the entries that wait, have paths that ascend.
use Rattle.bt_make.proofs.FolderOrder.{IsWalk, path_of_walk}
use Rattle.bt_make.proofs.folder.files_in.Given as goal

abbrev pub invariant-loop : goal.invariant-loop
invariant-loop g l = IsWalk l.walk.entries.items l.walk.waiting.items (path_of_walk l.walk)
