use Rattle.std.proofs.Common.{refl, arith}
use Rattle.bt_machine.specs.WireEvents.{out_of_range}
use Rattle.bt_engine_messages.proofs.Standing.{kept}
use Rattle.bt_engine_messages.proofs.message.take_have.Goals as goal

pub returns-then-piece-pieces-clause-takes : goal.returns-then-piece-pieces-clause-takes
returns-then-piece-pieces-clause-takes c = λ s i p here is counted. out_of_range (omega arith) refl (kept s i p c.args.peer.now here is)
