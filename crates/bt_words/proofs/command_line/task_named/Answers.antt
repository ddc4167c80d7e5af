use Rattle.std.proofs.Common.{rules}
use Rattle.bt_words.proofs.command_line.task_named.Goals as goal

pub returns-in-show-clause-task : goal.returns-in-show-clause-task
returns-in-show-clause-task c = search rules

pub returns-in-show-clause-refused : goal.returns-in-show-clause-refused
returns-in-show-clause-refused c = search rules
