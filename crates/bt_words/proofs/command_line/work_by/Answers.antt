use Rattle.std.proofs.Common.{codes}
use Rattle.clap.specs.Words.{found_of}
use Rattle.bt_words.proofs.CommandLineTask.{word_none, word_some}
use Rattle.bt_words.proofs.command_line.work_by.Goals as goal

pub part_by-requires-clause-given : goal.part_by-requires-clause-given
part_by-requires-clause-given c =
    word_some (found_of c.args.matches.now) (codes "part") c.get_str.result c.in-Some.word c.get_str.ensures c.in-Some.is

pub returns-in-None-clause-work : goal.returns-in-None-clause-work
returns-in-None-clause-work c = (
  c.requires,
  word_none (found_of c.args.matches.now) (codes "part") c.get_str.result c.get_str.ensures c.in-None.is,
)
