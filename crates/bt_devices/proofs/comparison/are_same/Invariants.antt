use Rattle.std.proofs.Common.{◌*◌}
use Rattle.bt_devices.specs.CacheSteps.{AreSameFrom}
use Rattle.bt_devices.proofs.comparison.are_same.Given as goal

abbrev pub invariant-loop-part : goal.invariant-loop-part
invariant-loop-part l = AreSameFrom 0 (l.part * 64) l.one l.other
