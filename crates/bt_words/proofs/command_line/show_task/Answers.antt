use Rattle.std.proofs.Common.{codes, refl}
use Rattle.clap.specs.Words.{found_of, rows_of}
use Rattle.bt_check.specs.declared.torrent_file.Source.{Source}
use Rattle.bt_words.specs.CommandLine.{AsksFor, IsSourceIn}
use Rattle.bt_words.specs.declared.command_line.Task.{Task}
use Rattle.bt_words.proofs.CommandLineTask.{no_show, passed_on}
use Rattle.bt_words.proofs.command_line.show_task.Goals as goal

pub returns-in_err-torrent-clause-refused : goal.returns-in_err-torrent-clause-refused
returns-in_err-torrent-clause-refused c =
    let rows = rows_of (found_of c.args.matches.now) in
    passed_on c.from_residual.result c.in_err-torrent.field-0.0 ((source : Source) → ¬ IsSourceIn rows source)
    ((task : Task) → ¬ AsksFor (codes "show") rows task) c.in_err-torrent.ensures.refused
    (λ none. no_show rows (λ task is. none task.torrent is.torrent)) c.from_residual.ensures.1

pub returns-clause-task : goal.returns-clause-task
returns-clause-task c = (refl, record { torrent = c.in_ok-torrent.ensures.source; verbose = c.has_flag-verbose.ensures })
