use Rattle.std.proofs.Common.{[]}
use Rattle.bt_machine.proofs.Lists.{here}
use Rattle.bt_engine.proofs.pending.push_mark.Goals as goal

pub push_mark-requires-clause-within : goal.push_mark-requires-clause-within
push_mark-requires-clause-within c = c.requires.inside c.in-Marked.block (here [] c.in-Marked.is)
