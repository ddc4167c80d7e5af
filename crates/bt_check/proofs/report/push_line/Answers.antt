use Rattle.bt_check.proofs.report.push_line.Goals as goal

pub returns-then-finding : goal.returns-then-finding
returns-then-finding c = rw c.if-finding.true c.writeln.ensures.bytes
