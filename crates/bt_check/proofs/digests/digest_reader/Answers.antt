use Rattle.std.proofs.Common.{arith}
use Rattle.std.proofs.lemmas.Grind.{common_steps}
use Rattle.bt_check.proofs.digests.digest_reader.Goals as goal

pub returns-clause-told : goal.returns-clause-told
returns-clause-told g c = grind (arith, common_steps)

pub returns-clause-given : goal.returns-clause-given
returns-clause-given g c = grind (arith, common_steps)
