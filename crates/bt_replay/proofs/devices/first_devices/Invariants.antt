-- The files so far have their devices.
use Rattle.std.proofs.Common.{◌≡◌, map, take}
use Rattle.bt_meta.specs.Files.{file_of}
use Rattle.bt_replay.specs.Devices.{first_device}
use Rattle.bt_replay.proofs.devices.first_devices.Given as goal

abbrev pub invariant-loop-file : goal.invariant-loop-file
invariant-loop-file l = l.devices.items ≡ map first_device (map file_of (take l.file-index l.files))
