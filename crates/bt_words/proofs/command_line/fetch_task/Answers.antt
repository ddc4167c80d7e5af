use Rattle.std.proofs.Common.{◌≡◌, ℕ, List, Some, codes, map, refl}
use Rattle.std.specs.List.{AllZip}
use Rattle.clap.specs.Words.{all_of, first_of, found_of, rows_of}
use Rattle.bt_check.specs.declared.torrent_file.Source.{Source}
use Rattle.bt_words.specs.declared.peer.Peer.{Peer}
use Rattle.bt_words.specs.CommandLine.{AsksFor, IsSourceIn}
use Rattle.bt_words.specs.Values.{IsPeerWord}
use Rattle.bt_words.specs.declared.command_line.Task.{Task}
use Rattle.bt_words.proofs.CommandLineTask.{no_fetch, no_fetch_peers, passed_on}
use Rattle.bt_words.proofs.command_line.fetch_task.Goals as goal

pub returns-in_err-torrent-clause-refused : goal.returns-in_err-torrent-clause-refused
returns-in_err-torrent-clause-refused c =
    let rows = rows_of (found_of c.args.matches.now) in
    passed_on c.from_residual.result c.in_err-torrent.field-0.0 ((source : Source) → ¬ IsSourceIn rows source)
    ((task : Task) → ¬ AsksFor (codes "fetch") rows task) c.in_err-torrent.ensures.refused
    (λ none. no_fetch rows (λ task is. none task.torrent is.torrent)) c.from_residual.ensures.1

pub returns-in_err-dir-clause-refused : goal.returns-in_err-dir-clause-refused
returns-in_err-dir-clause-refused c =
    let rows = rows_of (found_of c.args.matches.now) in
    passed_on c.from_residual-in_err-dir.result c.in_err-dir.field-0.0 ((text : List ℕ) → ¬ (first_of (codes "DIR") rows ≡ Some text))
    ((task : Task) → ¬ AsksFor (codes "fetch") rows task) c.in_err-dir.ensures.refused
    (λ none. no_fetch rows (λ task is. none task.dir.now is.dir)) c.from_residual-in_err-dir.ensures.1

pub returns-in_err-words-clause-refused : goal.returns-in_err-words-clause-refused
returns-in_err-words-clause-refused c =
    let rows = rows_of (found_of c.args.matches.now) in
    passed_on c.from_residual-in_err-words.result c.in_err-words.field-0.0 ((texts : List (List ℕ)) → ¬ (all_of (codes "PEER") rows ≡ Some texts))
    ((task : Task) → ¬ AsksFor (codes "fetch") rows task) c.in_err-words.ensures.refused
    (λ none. no_fetch rows (λ task is. none is.words is.given)) c.from_residual-in_err-words.ensures.1

pub returns-in_err-peers-clause-refused : goal.returns-in_err-peers-clause-refused
returns-in_err-peers-clause-refused c =
    let rows = rows_of (found_of c.args.matches.now) in
    passed_on c.from_residual-in_err-peers.result c.in_err-peers.field-0.0
    ((peers : List Peer) → ¬ AllZip IsPeerWord (map (λ word. word.now) c.in_ok-words.words.now) peers)
    ((task : Task) → ¬ AsksFor (codes "fetch") rows task) c.in_err-peers.ensures.refused
    (no_fetch_peers rows (map (λ word. word.now) c.in_ok-words.words.now) c.in_ok-words.ensures.words) c.from_residual-in_err-peers.ensures.1

pub returns-clause-task : goal.returns-clause-task
returns-clause-task c = (
  refl,
  record {
    torrent = c.in_ok-torrent.ensures.source;
    dir = c.in_ok-dir.ensures.word;
    words = map (λ word. word.now) c.in_ok-words.words.now;
    given = c.in_ok-words.ensures.words;
    peers = c.in_ok-peers.ensures.peers;
    together = c.is_given-is_together.ensures;
    log = c.log_in-log.ensures;
    verbose = c.has_flag-verbose.ensures;
  },
)
