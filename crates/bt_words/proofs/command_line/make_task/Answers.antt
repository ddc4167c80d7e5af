use Rattle.std.proofs.Common.{codes}
use Rattle.clap.specs.Words.{found_of, rows_of}
use Rattle.bt_words.specs.CommandLine.{AsksFor, IsMakeTaskIn}
use Rattle.bt_words.specs.declared.command_line.MakeTask.{MakeTask}
use Rattle.bt_words.specs.declared.command_line.Task.{Task}
use Rattle.bt_words.proofs.CommandLineTask.{no_make, passed_on}
use Rattle.bt_words.proofs.command_line.make_task.Goals as goal

pub returns-in_err-request-clause-refused : goal.returns-in_err-request-clause-refused
returns-in_err-request-clause-refused c =
    let rows = rows_of (found_of c.args.matches.now) in
    passed_on c.from_residual.result c.in_err-request.field-0.0 ((request : MakeTask) → ¬ IsMakeTaskIn rows request)
    ((task : Task) → ¬ AsksFor (codes "make") rows task) c.in_err-request.ensures.refused (no_make rows) c.from_residual.ensures.1
