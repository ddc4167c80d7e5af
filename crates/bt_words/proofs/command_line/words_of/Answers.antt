use Rattle.std.proofs.Common.{◌≡◌, None, Some, sym, ◌∙◌}
use Rattle.clap.specs.Words.{found_of}
use Rattle.bt_words.proofs.CommandLineTask.{words_are}
use Rattle.bt_words.proofs.command_line.words_of.Goals as goal

pub returns-in-Some-clause-words : goal.returns-in-Some-clause-words
returns-in-Some-clause-words c =
    words_are (found_of c.args.matches.now) c.args.id.now c.get_strs.result (Some c.in-Some.words) c.get_strs.ensures c.in-Some.is

pub returns-in-None-clause-refused : goal.returns-in-None-clause-refused
returns-in-None-clause-refused c = λ texts given.
    let none = words_are (found_of c.args.matches.now) c.args.id.now c.get_strs.result None c.get_strs.ensures c.in-None.is in
    let bad : None ≡ Some texts = sym none ∙ given in cc
