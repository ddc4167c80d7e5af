use Rattle.std.proofs.Common.{Some, Ok, map, ap, subst, ◌∙◌}
use Rattle.sha2.specs.Sha256.{sha256}
use Rattle.bt_machine.specs.Opening.{AnswersStart}
use Rattle.bt_replay.specs.Devices.{SetsFront, first_device}
use Rattle.bt_replay.specs.Run.{lines_in}
use Rattle.bt_replay.specs.Script.{IsNewLog, device_conduct}
use Rattle.bt_replay.proofs.script.begin.Goals as goal

pub returns-in-Ok-clause-begun : goal.returns-in-Ok-clause-begun
returns-in-Ok-clause-begun c = record {
  devices = c.set_devices.new.devices.items;
  log = c.in_ok-log.log;
  log_is_new = subst (λ infohash. IsNewLog infohash c.in_ok-log.log) c.infohash.ensures c.in_ok-log.ensures;
  set = subst (λ devices. SetsFront devices (lines_in c.args.lines) c.in_ok-rest.count (lines_in c.in_ok-rest.rest) c.set_devices.new.devices.items)
      (c.in_ok-devices.ensures ∙ ap (map first_device) c.files.ensures.said) c.in_ok-rest.ensures;
  starts = subst (λ given. AnswersStart device_conduct sha256 c.args.torrent given (Some c.in_ok-log.log) (Ok c.in-Ok.engine))
      c.in_ok-disks.ensures c.in-Ok.ensures.answer;
}
