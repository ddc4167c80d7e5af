use Rattle.std.proofs.Common.{arith}
use Rattle.std.proofs.lemmas.Grind.{common_steps}
use Rattle.bt_engine_state.proofs.piece_set.PieceSet.contains.Goals as goal

pub returns-then-piece-self : goal.returns-then-piece-self
returns-then-piece-self c = grind (arith, common_steps)
