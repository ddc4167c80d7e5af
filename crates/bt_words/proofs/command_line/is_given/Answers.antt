use Rattle.clap.specs.Words.{found_of, rows_of}
use Rattle.bt_words.proofs.CommandLineTask.{given_is, not_given, word_some, word_none}
use Rattle.bt_words.proofs.command_line.is_given.Goals as goal

pub returns-in-Some : goal.returns-in-Some
returns-in-Some c =
    let found = found_of c.args.matches.now in
    given_is (rows_of found) c.args.id.now c.in-Some.text.now c.eq.result
    (word_some found c.args.id.now c.get_str.result c.in-Some.text c.get_str.ensures c.in-Some.is) c.eq.ensures

pub returns-in-None : goal.returns-in-None
returns-in-None c =
    let found = found_of c.args.matches.now in
    not_given (rows_of found) c.args.id.now (word_none found c.args.id.now c.get_str.result c.get_str.ensures c.in-None.is)
