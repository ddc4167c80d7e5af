-- The entries of the greatest names were put after those that were there. Each turn takes a name.
use Rattle.std.proofs.Common.{length}
use Rattle.std.specs.BTreeMap.{keys}
use Rattle.bt_make.proofs.FolderWalk.{ArePut}
use Rattle.bt_make.proofs.folder.push_entries.Given as goal

abbrev pub invariant-loop-name : goal.invariant-loop-name
invariant-loop-name g l = ArePut l.depth (keys l.initial.names) (keys l.names) l.initial.waiting.items l.waiting.items

abbrev pub decreases-loop-name : goal.decreases-loop-name
decreases-loop-name g l = length (keys l.names)
