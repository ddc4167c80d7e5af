use Rattle.std.proofs.Common.{◌+◌, refl, ap}
use Rattle.bt_replay.specs.Run.{lines_in}
use Rattle.bt_replay.proofs.DeviceSettings.{set_start, set_more, true_holds}
use Rattle.bt_replay.proofs.settings.set_devices.Goals as goal

pub lines-init : goal.lines-init
lines-init c = set_start c.args.devices.now.items c.args.lines

pub lines-preserved : goal.lines-preserved
lines-preserved c =
    set_more c.args.devices.now.items c.lines.devices.items c.set_by.new.devices.items (lines_in c.args.lines) c.in-Some.text.now c.cut.result.0.now
    c.lines.rest c.cut.result.1 c.lines.count (c.lines.count + 1) c.lines.invariant (ap lines_in c.in-Some.is) c.cut.ensures refl
    (true_holds c.in_ok-set_by.field-0 c.if-not-branch.false c.in_ok-set_by.ensures.set)
