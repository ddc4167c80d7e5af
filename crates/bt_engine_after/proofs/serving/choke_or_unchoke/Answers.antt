use Rattle.std.proofs.Common.{rules}
use Rattle.bt_engine_after.proofs.serving.choke_or_unchoke.Goals as goal

pub returns-clause-peer : goal.returns-clause-peer
returns-clause-peer c = search rules
