use Rattle.std.proofs.Common.{rules}
use Rattle.bt_hashreq.proofs.claim.digest_count.Goals as goal

pub returns-clause-some : goal.returns-clause-some
returns-clause-some c = search rules
