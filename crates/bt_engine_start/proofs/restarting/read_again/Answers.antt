use Rattle.std.proofs.Common.{refl}
use Rattle.bt_engine_start.specs.RestartingSteps.{reloads}
use Rattle.bt_engine_start.proofs.restarting.read_again.Goals as goal

pub returns-in-Some : goal.returns-in-Some
returns-in-Some g c = reloads c.in-Some.held c.reload.new.self c.in-Some.is c.reload.ensures refl
