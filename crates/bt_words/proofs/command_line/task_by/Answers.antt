use Rattle.std.proofs.Common.{map, string_bytes}
use Rattle.clap.specs.Words.{kind_of, subcommand_rows_of}
use Rattle.bt_words.specs.CommandLine.{IsTaskIn, IsTaskOf}
use Rattle.bt_words.specs.declared.command_line.Task.{Task}
use Rattle.bt_words.proofs.CommandLineTask.{asked, faulty, not_asked, refused_as, told}
use Rattle.bt_words.proofs.command_line.task_by.Goals as goal

pub returns-in_err-matches-clause-error : goal.returns-in_err-matches-clause-error
returns-in_err-matches-clause-error c =
    faulty c.from_residual.result (map string_bytes c.args.words.now) c.in_err-matches.field-0.0 c.in_err-matches.ensures.error c.from_residual.ensures.1

pub returns-in-Ok-clause-task : goal.returns-in-Ok-clause-task
returns-in-Ok-clause-task c =
    asked (map string_bytes c.args.words.now) c.in_ok-matches.matches c.in-Ok.task c.in_ok-matches.ensures.matches c.in-Ok.ensures.task

pub returns-clause-error : goal.returns-clause-error
returns-clause-error c =
    let words = map string_bytes c.args.words.now in
    told words c.in-Err.refusal (kind_of c.error_of.result) c.error_of.ensures
    (refused_as ((task : Task) → ¬ IsTaskIn (subcommand_rows_of c.in_ok-matches.matches) task) ((task : Task) → ¬ IsTaskOf words task) c.in-Err.refusal
    (not_asked words c.in_ok-matches.matches c.in_ok-matches.ensures.matches) c.in-Err.ensures.refused)
