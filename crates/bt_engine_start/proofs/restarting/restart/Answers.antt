use Rattle.std.proofs.Common.{List, sym, ap, subst}
use Rattle.bt_resume.specs.declared.hint.Hint.{Hint}
use Rattle.bt_machine.specs.State.{EngineState}
use Rattle.bt_engine_state.specs.Parts.{hints_of}
use Rattle.bt_engine_start.specs.Runs.{AreRunsOf}
use Rattle.bt_engine_start.specs.declared.runs.MarkRun.{MarkRun}
use Rattle.bt_engine_start.proofs.RestartSteps.{steps_unread, steps_refused, steps_begun}
use Rattle.bt_engine_start.proofs.Restarts.{tied_with_log, shaped_with_log}
use Rattle.bt_engine_start.proofs.RootTrees.{numbered_roots}
use Rattle.bt_engine_start.proofs.restarting.restart.Goals as goal

pub returns-in-Err-clause-step : goal.returns-in-Err-clause-step
returns-in-Err-clause-step g c =
    let d = g.D.Disk in
    steps_unread d.conduct g.H.NodeHash.digest c.args.parts.now c.in-Err.ensures

pub returns-in-Err-clause-tied : goal.returns-in-Err-clause-tied
returns-in-Err-clause-tied g c = tied_with_log c.args.parts.now c.read_again.new.log c.requires.sound.tied

pub made_anew-requires-clause-firsts : goal.made_anew-requires-clause-firsts
made_anew-requires-clause-firsts g c = c.requires.sound.tied.roots.firsts.each

pub made_anew-requires-clause-numbered : goal.made_anew-requires-clause-numbered
made_anew-requires-clause-numbered g c =
    let parts = c.args.parts.now in
    let roots = c.requires.sound.tied.roots in
    numbered_roots parts.torrent.files parts.roots.first_files.items parts.roots.trees roots.firsts.same roots.numbered

pub begin_again-requires-clause-sound : goal.begin_again-requires-clause-sound
begin_again-requires-clause-sound g c = record {
  tied = tied_with_log c.args.parts.now c.read_again.new.log c.requires.sound.tied;
  shaped = shaped_with_log c.args.parts.now c.read_again.new.log c.requires.sound.shaped;
}

pub recover_files-requires : goal.recover_files-requires
recover_files-requires g c =
    let b = c.begin_again.ensures.begun in
    record {
      tied = b.tied;
      shaped = b.shaped;
      alone = b.alone;
      missing = b.missing;
      runs = subst (λ (runs : List MarkRun). AreRunsOf (hints_of c.begin_again.new.parts.log) runs) (sym c.deref.ensures.value)
          (subst (λ (hints : List Hint). AreRunsOf hints c.in-Ok.runs.items) (sym (ap (λ (s : EngineState). s.hints) c.begin_again.ensures.state)) c.in-Ok.ensures.runs);
    }

pub returns-in-Ok-clause-step : goal.returns-in-Ok-clause-step
returns-in-Ok-clause-step g c =
    let d = g.D.Disk in
    steps_begun d.conduct g.H.NodeHash.digest c.args.parts.now c.in_default.ensures c.begin_again.ensures.begun c.begin_again.ensures.state
    c.begin_again.ensures.places c.begin_again.ensures.devices c.begin_again.ensures.log c.recover_files.ensures.recovers c.recover_files.ensures.places
    c.recover_files.ensures.log

pub returns-in-Err-made_anew-clause-step : goal.returns-in-Err-made_anew-clause-step
returns-in-Err-made_anew-clause-step g c =
    let d = g.D.Disk in
    steps_refused d.conduct g.H.NodeHash.digest c.args.parts.now c.in_default.ensures

pub returns-in-Err-made_anew-clause-tied : goal.returns-in-Err-made_anew-clause-tied
returns-in-Err-made_anew-clause-tied g c = tied_with_log c.args.parts.now c.read_again.new.log c.requires.sound.tied
