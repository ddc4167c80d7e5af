use Rattle.bt_resume.proofs.Sequences as sequences
use Rattle.bt_resume.proofs.Holdings.{open_logs_keep}
use Rattle.bt_resume.proofs.law.kept_logs_open.Goals as goal

pub returns : goal.returns
returns c = record { first = sequences.kept_logs_open; back = open_logs_keep }
