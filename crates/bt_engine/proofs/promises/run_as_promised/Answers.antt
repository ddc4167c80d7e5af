use Rattle.bt_engine.proofs.Kept.{as_promised, some_run, files_published}
use Rattle.bt_engine.proofs.Flushes.{flushes, none_lost_then}
use Rattle.bt_engine.proofs.promises.run_as_promised.Goals as goal

pub returns-clause-run : goal.returns-clause-run
returns-clause-run g c =
    let laws = c.keeps_laws.ensures in
    let steps = c.steps_keep_laws.ensures in
    let old = c.args.engine.now in
    let new = c.run_events-result.new.engine in
    as_promised g.D.Disk.conduct g.H.NodeHash.digest old new c.args.events.now c.args.answers.now.items
    c.run_events-result.new.answers.items laws.lawful laws.shaped laws.rooted c.runs_compose.ensures.are_runs c.right_is_checked.ensures steps.shaped steps.rooted
    c.step_marks_by_bytes.ensures c.run_sends_read_bytes.ensures
    (λ events calls answers run logged. flushes g.D.Disk.conduct g.H.NodeHash.digest c.honest_devices_were_so.ensures
    c.run_keeps_images.ensures c.run_keeps_marks.ensures c.flush_keeps_blocks.ensures steps.sound old new events calls answers laws.sound run logged)
    c.run_events-result.result c.run_events-result.ensures.runs

pub returns-clause-published : goal.returns-clause-published
returns-clause-published g c =
    let after = c.keeps_laws-2.ensures in
    files_published g.D.Disk.conduct g.H.NodeHash.digest c.roots_tell_files.ensures c.complete_files_stand.ensures
    c.run_events-result.new.engine after.shaped after.rooted after.sound

pub returns-clause-stands : goal.returns-clause-stands
returns-clause-stands g c = c.run_events-result.ensures.stands

pub returns-clause-flushed : goal.returns-clause-flushed
returns-clause-flushed g c = λ no_restart.
    let ran = some_run g.D.Disk.conduct g.H.NodeHash.digest c.runs_compose.ensures.none c.args.engine.now
    c.run_events-result.new.engine c.args.events.now c.args.answers.now.items c.run_events-result.new.answers.items c.run_events-result.result
    c.run_events-result.ensures.runs c.run_events-result.ensures.kept no_restart in
    λ flushed events answers came none.
    none_lost_then g.D.Disk.conduct g.H.NodeHash.digest c.honest_devices_were_so.ensures c.run_keeps_images.ensures
    c.run_keeps_marks.ensures c.steps_keep_laws.ensures.files c.args.engine.now c.run_events-result.new.engine ran.0 ran.2.calls ran.1 ran.3
    c.keeps_laws.ensures.sound ran.2.run flushed events answers came none
