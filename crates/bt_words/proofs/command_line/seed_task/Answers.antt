use Rattle.std.proofs.Common.{◌≡◌, ℕ, List, Option, Some, codes, refl}
use Rattle.std.specs.Borrow.{Bor}
use Rattle.clap.specs.Words.{first_of, found_of, rows_of}
use Rattle.bt_check.specs.declared.torrent_file.Source.{Source}
use Rattle.bt_words.specs.declared.peer.Service.{Service}
use Rattle.bt_words.specs.CommandLine.{AsksFor, IsLogBeside, IsServiceIn, IsSourceIn}
use Rattle.bt_words.specs.declared.command_line.Task.{Task}
use Rattle.bt_words.proofs.CommandLineTask.{no_seed, no_seed_log, passed_on}
use Rattle.bt_words.proofs.command_line.seed_task.Goals as goal

pub returns-in_err-torrent-clause-refused : goal.returns-in_err-torrent-clause-refused
returns-in_err-torrent-clause-refused c =
    let rows = rows_of (found_of c.args.matches.now) in
    passed_on c.from_residual.result c.in_err-torrent.field-0.0 ((source : Source) → ¬ IsSourceIn rows source)
    ((task : Task) → ¬ AsksFor (codes "seed") rows task) c.in_err-torrent.ensures.refused
    (λ none. no_seed rows (λ task is. none task.torrent is.torrent)) c.from_residual.ensures.1

pub returns-in_err-dir-clause-refused : goal.returns-in_err-dir-clause-refused
returns-in_err-dir-clause-refused c =
    let rows = rows_of (found_of c.args.matches.now) in
    passed_on c.from_residual-in_err-dir.result c.in_err-dir.field-0.0 ((text : List ℕ) → ¬ (first_of (codes "DIR") rows ≡ Some text))
    ((task : Task) → ¬ AsksFor (codes "seed") rows task) c.in_err-dir.ensures.refused
    (λ none. no_seed rows (λ task is. none task.dir.now is.dir)) c.from_residual-in_err-dir.ensures.1

pub returns-in_err-service-clause-refused : goal.returns-in_err-service-clause-refused
returns-in_err-service-clause-refused c =
    let rows = rows_of (found_of c.args.matches.now) in
    passed_on c.from_residual-in_err-service.result c.in_err-service.field-0.0 ((service : Service) → ¬ IsServiceIn rows service)
    ((task : Task) → ¬ AsksFor (codes "seed") rows task) c.in_err-service.ensures.refused
    (λ none. no_seed rows (λ task is. none task.service is.service)) c.from_residual-in_err-service.ensures.1

pub returns-in_err-log-clause-refused : goal.returns-in_err-log-clause-refused
returns-in_err-log-clause-refused c =
    let rows = rows_of (found_of c.args.matches.now) in
    passed_on c.from_residual-in_err-log.result c.in_err-log.field-0.0
    ((log : Option (Bor (List ℕ))) → ¬ IsLogBeside c.in_ok-service.service.is_read_only rows log)
    ((task : Task) → ¬ AsksFor (codes "seed") rows task) c.in_err-log.ensures.refused
    (no_seed_log rows c.in_ok-service.service c.in_ok-service.ensures.service) c.from_residual-in_err-log.ensures.1

pub returns-clause-task : goal.returns-clause-task
returns-clause-task c = (
  refl,
  record {
    torrent = c.in_ok-torrent.ensures.source;
    dir = c.in_ok-dir.ensures.word;
    service = c.in_ok-service.ensures.service;
    log = c.in_ok-log.ensures.log;
    verbose = c.has_flag-verbose.ensures;
  },
)
