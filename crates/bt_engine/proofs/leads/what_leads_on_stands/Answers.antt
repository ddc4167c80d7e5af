use Rattle.bt_engine.proofs.StandingRuns.{runs_stand}
use Rattle.bt_engine.proofs.Leading.{leads_stand}
use Rattle.bt_engine.proofs.leads.what_leads_on_stands.Goals as goal

pub returns : goal.returns
returns g c =
    let d = g.D.Disk in
    let dig = g.H.NodeHash.digest in
    let hints = c.kept_hints_stand.ensures in
    let runs = c.runs_compose.ensures in
    leads_stand d.conduct dig runs.none runs.one_more runs.both
    (runs_stand d.conduct dig c.run_keeps_marks.ensures c.run_keeps_images.ensures hints.reload hints.append hints.flush)
