use Rattle.std.proofs.Common.{◌≡◌, ℕ, List, Some, codes}
use Rattle.clap.specs.Words.{first_of, found_of, rows_of}
use Rattle.bt_check.specs.declared.torrent_file.Source.{Source}
use Rattle.bt_words.specs.CommandLine.{IsSourceIn}
use Rattle.bt_words.proofs.CommandLineTask.{passed_on}
use Rattle.bt_words.proofs.command_line.source_of.Goals as goal

pub returns-in_err-path-clause-refused : goal.returns-in_err-path-clause-refused
returns-in_err-path-clause-refused c =
    let rows = rows_of (found_of c.args.matches.now) in
    passed_on c.from_residual.result c.in_err-path.field-0.0 ((text : List ℕ) → ¬ (first_of (codes "TORRENT") rows ≡ Some text))
    ((source : Source) → ¬ IsSourceIn rows source) c.in_err-path.ensures.refused (λ none source is. none source.path.now is.path) c.from_residual.ensures.1

pub returns-clause-source : goal.returns-clause-source
returns-clause-source c = record { path = c.in_ok-path.ensures.word; info = c.has_flag-is_info.ensures }
