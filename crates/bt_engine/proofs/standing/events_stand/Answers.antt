use Rattle.bt_engine.proofs.StandingRuns.{runs_stand, steps_stand}
use Rattle.bt_engine.proofs.standing.events_stand.Goals as goal

pub returns : goal.returns
returns g c =
    let d = g.D.Disk in
    let stand = c.kept_hints_stand.ensures in
    let compose = c.runs_compose.ensures in
    record {
      runs = runs_stand d.conduct g.H.NodeHash.digest c.run_keeps_marks.ensures c.run_keeps_images.ensures stand.reload stand.append stand.flush;
      steps = steps_stand d.conduct g.H.NodeHash.digest c.run_keeps_marks.ensures c.run_keeps_images.ensures stand.reload stand.append stand.flush
          compose.none compose.one_more;
    }
