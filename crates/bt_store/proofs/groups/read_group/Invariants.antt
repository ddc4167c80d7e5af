use Rattle.std.proofs.Common.{◌≡◌, ◌*◌, ◌-◌, ◌≤◌, List, length}
use Rattle.bt_store.specs.BlockReads.{BlockRead}
use Rattle.bt_store.specs.GroupsSteps.{IsGroupRead}
use Rattle.bt_store.proofs.groups.read_group.Given as goal

abbrev pub invariant-loop-done : goal.invariant-loop-done
invariant-loop-done g l = record {
  read : (reads : List BlockRead) × IsGroupRead g.D.Disk.conduct g.H.NodeHash.digest l.geometry
      l.first l.done (length l.fn.digests) l.fn.disk reads l.tally l.disk l.digests;
  within : l.done ≤ l.count;
  size : length l.digests ≡ length l.fn.digests;
  room : length l.buffer ≡ 8 * 16384;
}

abbrev pub decreases-loop-done : goal.decreases-loop-done
decreases-loop-done g l = l.count - l.done
