use Rattle.bt_parts.proofs.Lines.{read_back}
use Rattle.bt_parts.proofs.law.lines_are_read_back.Goals as goal

pub returns : goal.returns
returns c = read_back
