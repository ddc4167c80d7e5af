use Rattle.clap.specs.Words.{kind_of}
use Rattle.bt_commands.specs.Program.{no_task}
use Rattle.bt_commands.proofs.ProgramRun.{performed}
use Rattle.bt_commands.proofs.program.attempt.Goals as goal

pub returns-in-Ok-clause-answer : goal.returns-in-Ok-clause-answer
returns-in-Ok-clause-answer g c = performed _ c.in-Ok.task _ _ _ _ c.perform-outcome.result c.in-Ok.ensures.task c.perform-outcome.ensures.done c.perform-outcome.ensures.ended

pub returns-in-Err-clause-answer : goal.returns-in-Err-clause-answer
returns-in-Err-clause-answer g c = no_task (kind_of c.in-Err.error) c.in-Err.ensures.error c.explain.ensures.answer
