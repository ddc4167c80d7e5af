use Rattle.std.proofs.Common.{◌≡◌, None, Some, sym, ◌∙◌}
use Rattle.clap.specs.Words.{found_of}
use Rattle.bt_words.proofs.CommandLineTask.{word_some, word_none}
use Rattle.bt_words.proofs.command_line.word_of.Goals as goal

pub returns-in-Some-clause-word : goal.returns-in-Some-clause-word
returns-in-Some-clause-word c =
    word_some (found_of c.args.matches.now) c.args.id.now c.get_str.result c.in-Some.word c.get_str.ensures c.in-Some.is

pub returns-in-None-clause-refused : goal.returns-in-None-clause-refused
returns-in-None-clause-refused c = λ text given.
    let none = word_none (found_of c.args.matches.now) c.args.id.now c.get_str.result c.get_str.ensures c.in-None.is in
    let bad : None ≡ Some text = sym none ∙ given in cc
