use Rattle.bt_parts.proofs.Lines.{written}
use Rattle.bt_parts.proofs.line.push_line.Goals as goal

pub returns : goal.returns
returns c = written c.writeln.result _ _ c.word_of-word.result.now c.args.run c.word_of-word.ensures c.writeln.ensures.bytes
