use Rattle.std.proofs.Common.{subst, sym}
use Rattle.bt_replay.specs.Command.{IsReplay}
use Rattle.bt_replay.proofs.command.replay.Goals as goal

pub returns-in-Err-clause-answer : goal.returns-in-Err-clause-answer
returns-in-Err-clause-answer g c = subst (IsReplay _ _ _ _) (sym c.status.ensures) c.in-Err.ensures.answer
