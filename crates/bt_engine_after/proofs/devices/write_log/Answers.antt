use Rattle.std.proofs.Common.{refl}
use Rattle.bt_engine_after.specs.DevicesSteps.{writes}
use Rattle.bt_engine_after.proofs.devices.write_log.Goals as goal

pub returns : goal.returns
returns g c =
    let calls = c.write_to.ensures.written in
    writes c.in-Some.open_log (record { log = c.write_to.new.log; pending = c.write_to.new.self }) calls.0 c.in-Some.is refl calls.1 calls.2
