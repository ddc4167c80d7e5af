use Rattle.std.proofs.Common.{◌≡◌, ◌≤◌, ◌++◌, length, map, take, vec_capacity}
use Rattle.bt_meta.specs.Files.{file_of}
use Rattle.bt_machine.specs.Start.{device_count}
use Rattle.bt_engine_start.specs.DeviceSteps.{devices_in}
use Rattle.bt_engine_start.proofs.DeviceOrder.{AreBareBelow, AreNewFrom}
use Rattle.bt_engine_start.proofs.devices.fill_slots.Given as goal

abbrev pub invariant-loop-index : goal.invariant-loop-index
invariant-loop-index g l = record {
  count : length l.slots ≡ length l.files;
  trees : map (λ slot. slot.tree) l.slots ≡ map (λ slot. slot.tree) l.fn.slots;
  bare : AreBareBelow l.slots l.index;
  slots : AreNewFrom (map file_of l.files) l.slots l.index;
  enough : length l.disks.items ≡ device_count (map file_of (take l.index l.files));
  devices : l.disks.items ++ devices_in l.slots ≡ l.fn.disks.items;
  capacity : vec_capacity l.fn.disks ≤ vec_capacity l.disks;
}
