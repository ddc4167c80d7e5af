use Rattle.std.proofs.Common.{rules}
use Rattle.bt_make.proofs.atomic_file.publish.Goals as goal

pub returns-in_err-replace_file-clause-unsaid : goal.returns-in_err-replace_file-clause-unsaid
returns-in_err-replace_file-clause-unsaid g c = search rules
