use Rattle.bt_parts.proofs.Chains.{sums_whole}
use Rattle.bt_parts.proofs.law.sums_are_whole.Goals as goal

pub returns : goal.returns
returns c = sums_whole
