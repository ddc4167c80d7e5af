use Rattle.std.proofs.Common.{map, string_bytes, subst, sym, arith, ◌∙◌}
use Rattle.bt_commands.specs.Program.{IsRun}
use Rattle.bt_commands.proofs.FaultStatus.{above_one}
use Rattle.bt_commands.proofs.Refusals.{refused}
use Rattle.bt_commands.proofs.program.run.Goals as goal

pub returns-in-Err-clause-answer : goal.returns-in-Err-clause-answer
returns-in-Err-clause-answer g c =
    subst (IsRun (map string_bytes c.args.words.now) _ _ (g.O.Write.contents c.args.writer.now) (g.O.Write.contents c.attempt.new.writer))
    (sym c.report_fault.ensures) c.in-Err.ensures.answer

pub returns-in-Err-clause-faultless : goal.returns-in-Err-clause-faultless
returns-in-Err-clause-faultless g c = λ done. absurd (omega (arith, done, c.report_fault.ensures, above_one c.in-Err.fault))

pub returns-in-Ok-clause-refused : goal.returns-in-Ok-clause-refused
returns-in-Ok-clause-refused g c = λ other two. refused _ _ _ _ _ _ c.in-Ok.ensures.answer other two

pub returns-in-Err-clause-refused : goal.returns-in-Err-clause-refused
returns-in-Err-clause-refused g c = λ other two. refused _ _ _ _ _ _ c.in-Err.ensures.answer other (sym c.report_fault.ensures ∙ two)
