use Rattle.std.proofs.Common.{◌≡◌, ◌≤◌, ◌++◌, length, vec_capacity}
use Rattle.bt_engine_start.specs.DeviceSteps.{devices_in}
use Rattle.bt_engine_start.proofs.DeviceOrder.{AreBareBelow}
use Rattle.bt_engine_start.proofs.devices.take_back.Given as goal

abbrev pub invariant-loop-slot : goal.invariant-loop-slot
invariant-loop-slot g l = record {
  count : length l.slots ≡ length l.fn.slots;
  bare : AreBareBelow l.slots l.slot-index;
  devices : l.disks.items ++ devices_in l.slots ≡ l.fn.disks.items ++ devices_in l.fn.slots;
  capacity : vec_capacity l.fn.disks ≤ vec_capacity l.disks;
}
