use Rattle.std.proofs.Common.{ap}
use Rattle.bt_commands.proofs.ProgramRun.{start_on_words, start_without_words}
use Rattle.bt_commands.proofs.program.start.Goals as goal
use Rattle.bt_commands.proofs.program.start.Goals.{in-Ok, in-Err}

pub returns-clause-answer : goal.returns-clause-answer
returns-clause-answer g c = elim c.match-words.branch [
  | in-Ok w ↦ start_on_words _ _ _ _ _ _ _ _ _ _ (ap g.I.Read.remaining w.reader-is) (ap g.O.Write.contents w.writer-is) w.status-is c.from.ensures w.run-status.ensures.answer
  | in-Err w ↦ start_without_words _ _ _ _ _ _ _ w.in-Err.fault (ap g.O.Write.contents w.writer-is) w.status-is c.from.ensures w.report_fault-status.ensures w.in-Err.ensures
]
