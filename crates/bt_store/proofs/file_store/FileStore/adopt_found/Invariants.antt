-- The groups so far were adopted.
use Rattle.std.proofs.Common.{◌+◌, ◌-◌}
use Rattle.bt_store.proofs.SmallGroups.{IsUnderWay}
use Rattle.bt_store.proofs.file_store.FileStore.adopt_found.Given as goal

abbrev pub invariant-loop-total : goal.invariant-loop-total
invariant-loop-total g l =
    IsUnderWay g.H.NodeHash.digest l.fn.tree l.from l.batch.anchor l.batch.count l.blocks_found l.fn.self l.tree l.total l.self

abbrev pub decreases-loop-total : goal.decreases-loop-total
decreases-loop-total g l = l.from + l.batch.count - l.total.next
