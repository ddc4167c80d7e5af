use Rattle.std.proofs.Common.{◌≡◌, ℕ, List, Some, codes}
use Rattle.clap.specs.Words.{first_of, found_of, rows_of}
use Rattle.bt_words.specs.CommandLine.{IsWorkIn}
use Rattle.bt_words.specs.declared.command_line.Work.{Work}
use Rattle.bt_words.proofs.CommandLineTask.{no_work_jobs, no_work_missing, passed_on}
use Rattle.bt_words.proofs.command_line.work_of.Goals as goal

pub returns-in_err-digits-clause-refused : goal.returns-in_err-digits-clause-refused
returns-in_err-digits-clause-refused c =
    let rows = rows_of (found_of c.args.matches.now) in
    passed_on c.from_residual.result c.in_err-digits.field-0.0 ((text : List ℕ) → ¬ (first_of (codes "jobs") rows ≡ Some text))
    ((work : Work) → ¬ IsWorkIn rows work) c.in_err-digits.ensures.refused (λ none. no_work_missing rows none) c.from_residual.ensures.1

pub work_by-requires : goal.work_by-requires
work_by-requires c = record { text = c.in_ok-digits.digits.now; given = c.in_ok-digits.ensures.word; number = c.in-Some.ensures.some }

pub returns-in-None-clause-refused : goal.returns-in-None-clause-refused
returns-in-None-clause-refused c =
    no_work_jobs (rows_of (found_of c.args.matches.now)) c.in_ok-digits.digits.now c.in_ok-digits.ensures.word c.in-None.ensures.none
