use Rattle.bt_parts.proofs.Cuts.{shares_whole}
use Rattle.bt_parts.proofs.law.shares_are_whole.Goals as goal

pub returns : goal.returns
returns c = shares_whole
