use Rattle.std.proofs.Common.{◌≡◌, ℕ, List, Some, codes, refl}
use Rattle.clap.specs.Words.{first_of, found_of, rows_of}
use Rattle.bt_check.specs.declared.torrent_file.Source.{Source}
use Rattle.bt_words.specs.declared.command_line.Work.{Work}
use Rattle.bt_words.specs.CommandLine.{AsksFor, IsWorkIn, IsSourceIn}
use Rattle.bt_words.specs.declared.command_line.Task.{Task}
use Rattle.bt_words.proofs.CommandLineTask.{no_check, passed_on}
use Rattle.bt_words.proofs.command_line.check_task.Goals as goal

pub returns-in_err-torrent-clause-refused : goal.returns-in_err-torrent-clause-refused
returns-in_err-torrent-clause-refused c =
    let rows = rows_of (found_of c.args.matches.now) in
    passed_on c.from_residual.result c.in_err-torrent.field-0.0 ((source : Source) → ¬ IsSourceIn rows source)
    ((task : Task) → ¬ AsksFor (codes "check") rows task) c.in_err-torrent.ensures.refused
    (λ none. no_check rows (λ task is. none task.torrent is.torrent)) c.from_residual.ensures.1

pub returns-in_err-dir-clause-refused : goal.returns-in_err-dir-clause-refused
returns-in_err-dir-clause-refused c =
    let rows = rows_of (found_of c.args.matches.now) in
    passed_on c.from_residual-in_err-dir.result c.in_err-dir.field-0.0 ((text : List ℕ) → ¬ (first_of (codes "DIR") rows ≡ Some text))
    ((task : Task) → ¬ AsksFor (codes "check") rows task) c.in_err-dir.ensures.refused
    (λ none. no_check rows (λ task is. none task.dir.now is.dir)) c.from_residual-in_err-dir.ensures.1

pub returns-in_err-work-clause-refused : goal.returns-in_err-work-clause-refused
returns-in_err-work-clause-refused c =
    let rows = rows_of (found_of c.args.matches.now) in
    passed_on c.from_residual-in_err-work.result c.in_err-work.field-0.0 ((work : Work) → ¬ IsWorkIn rows work)
    ((task : Task) → ¬ AsksFor (codes "check") rows task) c.in_err-work.ensures.refused
    (λ none. no_check rows (λ task is. none task.work is.work)) c.from_residual-in_err-work.ensures.1

pub returns-clause-task : goal.returns-clause-task
returns-clause-task c = (
  refl,
  record {
    torrent = c.in_ok-torrent.ensures.source;
    dir = c.in_ok-dir.ensures.word;
    work = c.in_ok-work.ensures.work;
    verbose = c.has_flag-verbose.ensures;
  },
)
