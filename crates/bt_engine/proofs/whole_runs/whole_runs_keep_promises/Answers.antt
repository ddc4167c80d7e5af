use Rattle.bt_engine.proofs.WholeRuns.{whole_runs, what_leads_on}
use Rattle.bt_engine.proofs.whole_runs.whole_runs_keep_promises.Goals as goal

pub returns-clause-runs : goal.returns-clause-runs
returns-clause-runs g c =
    let starts = c.starts_keep_laws.ensures in
    let steps = c.steps_keep_laws.ensures in
    whole_runs g.D.Disk.conduct g.H.NodeHash.digest c.right_is_checked.ensures starts.shaped starts.rooted starts.sound
    c.start_marks_by_bytes.ensures steps.shaped steps.rooted steps.sound c.step_marks_by_bytes.ensures c.run_sends_read_bytes.ensures c.runs_keep_shape.ensures
    c.runs_compose.ensures.are_runs c.complete_files_are_published.ensures c.run_keeps_marks.ensures c.run_keeps_images.ensures c.flush_keeps_blocks.ensures
    c.honest_devices_were_so.ensures

pub returns-clause-leads : goal.returns-clause-leads
returns-clause-leads g c =
    let starts = c.starts_keep_laws.ensures in
    let steps = c.steps_keep_laws.ensures in
    let runs = c.runs_compose.ensures in
    what_leads_on g.D.Disk.conduct g.H.NodeHash.digest c.right_is_checked.ensures starts.shaped starts.rooted starts.sound
    c.start_marks_by_bytes.ensures steps.shaped steps.rooted steps.sound c.step_marks_by_bytes.ensures c.run_sends_read_bytes.ensures c.runs_keep_shape.ensures
    runs.are_runs c.complete_files_are_published.ensures c.run_keeps_marks.ensures c.run_keeps_images.ensures c.flush_keeps_blocks.ensures
    c.honest_devices_were_so.ensures runs.none runs.one_more runs.both
