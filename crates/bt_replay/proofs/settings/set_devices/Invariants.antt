-- The settings so far are made.
use Rattle.std.proofs.Common.{length}
use Rattle.bt_replay.specs.Run.{lines_in}
use Rattle.bt_replay.proofs.DeviceSettings.{IsSetting}
use Rattle.bt_replay.proofs.settings.set_devices.Given as goal

abbrev pub invariant-lines : goal.invariant-lines
invariant-lines l = IsSetting l.initial.devices.items (lines_in l.initial.rest) l.rest l.count l.devices.items

abbrev pub decreases-lines : goal.decreases-lines
decreases-lines l = length (lines_in l.rest)
