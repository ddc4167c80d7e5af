use Rattle.std.proofs.lemmas.Bool.{OnFalse_at, OnFalse_from}
use Rattle.bt_replay.specs.Devices.{no_setting}
use Rattle.bt_replay.proofs.Telling.{some_holds}
use Rattle.bt_replay.proofs.settings.set_by.Goals as goal

pub returns-in-Some-clause-unset : goal.returns-in-Some-clause-unset
returns-in-Some-clause-unset c =
    OnFalse_from c.set_device.result _ (λ e. no_setting c.in-Some.line
    (some_holds _ _ _ c.in_ok-line.ensures.some c.in-Some.is) (OnFalse_at e c.set_device.ensures.unset))
