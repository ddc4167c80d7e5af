use Rattle.std.proofs.Common.{◌≡◌, map, take}
use Rattle.bt_engine_after.specs.ServingSteps.{standing_at}
use Rattle.bt_engine_after.proofs.serving.standings.Given as goal

abbrev pub invariant-loop-peer : goal.invariant-loop-peer
invariant-loop-peer l = l.standings.items ≡ map standing_at (take l.peer-index l.peers)
