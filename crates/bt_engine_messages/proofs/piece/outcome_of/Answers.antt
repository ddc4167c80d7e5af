use Rattle.std.proofs.Common.{rules}
use Rattle.bt_engine_messages.proofs.piece.outcome_of.Goals as goal

pub returns-in-Ok-Waiting-clause-effect : goal.returns-in-Ok-Waiting-clause-effect
returns-in-Ok-Waiting-clause-effect c = search rules
