use Rattle.std.proofs.Common.{◌≡◌, ◌-◌, ◌≤◌}
use Rattle.sha2.specs.Sha256.{hash_after}
use Rattle.bt_lanes.proofs.single.absorb.Given as goal

abbrev pub invariant-absorbed : goal.invariant-absorbed
invariant-absorbed l = record {
  within : l.done ≤ l.count;
  value : l.value ≡ hash_after l.fn.value l.bytes l.done;
}

abbrev pub decreases-absorbed : goal.decreases-absorbed
decreases-absorbed l = l.count - l.done
