use Rattle.std.proofs.Common.{subst}
use Rattle.bt_resume.specs.ResumeLog.{IsAttached}
use Rattle.bt_replay.specs.Script.{device_conduct}
use Rattle.bt_replay.proofs.script.new_log.Goals as goal

pub returns-in-Ok : goal.returns-in-Ok
returns-in-Ok c =
    subst (λ device. IsAttached device_conduct c.args.infohash device c.in-Ok.log)
    c.in_ok-device.ensures c.in-Ok.ensures.log
