use Rattle.std.proofs.Common.{refl}
use Rattle.std.proofs.KnownBytes.{Keeps-refl}
use Rattle.std.proofs.lemmas.Result.{err_from_is_err_and}
use Rattle.bt_replay.specs.Command.{replayed, unread}
use Rattle.bt_replay.proofs.Failures.{failed_by_none}
use Rattle.bt_replay.proofs.command.read_and_run.Goals as goal

pub returns-in_err-script-clause-answer : goal.returns-in_err-script-clause-answer
returns-in_err-script-clause-answer g c =
    let p = err_from_is_err_and c.from_residual.result c.from_residual.ensures.1 in
    rw (p.1, p.2)
    (unread c.in_err-script.field-0.0 c.in_err-script.ensures.unread (Keeps-refl (g.W.Write.contents c.args.writer.now)) refl)

pub returns-clause-answer : goal.returns-clause-answer
returns-clause-answer g c =
    replayed c.in_ok-script.script.items c.run_script.result c.in_ok-script.ensures.script (rw c.deref.ensures.value at c.run_script.ensures.replays) refl

pub returns-clause-read_fault : goal.returns-clause-read_fault
returns-clause-read_fault g c = failed_by_none c.run_script.result _ c.run_script.ensures.replays
