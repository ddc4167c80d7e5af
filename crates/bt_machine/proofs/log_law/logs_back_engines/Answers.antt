use Rattle.bt_machine.proofs.Backing.{start_backed, restart_backed, step_backed, backing_goes_on, runs_backed}
use Rattle.bt_machine.proofs.PastFlush.{logs_kept}
use Rattle.bt_machine.proofs.log_law.logs_back_engines.Goals as goal

pub returns : goal.returns
returns g c =
    let d = g.D.Disk in
    let dig = g.H.NodeHash.digest in
    let hold = c.logs_hold_hints.ensures in
    let stand = c.kept_hints_stand.ensures in
    let groups = c.group_proofs_follow.ensures in
    let first = c.starts_keep_laws.ensures in
    let next = c.steps_keep_laws.ensures in
    let sizes = g.met.H.NodeHash.has_32_bytes in
    let rooted = c.keeps_rooted.ensures in
    record {
      starts = start_backed d.conduct dig hold.attach;
      restarts = restart_backed d.conduct dig hold.reload hold.append hold.flush hold.attach;
      steps = step_backed d.conduct dig hold.reload hold.append hold.flush sizes rooted groups.lead groups.others;
      goes_on = backing_goes_on d.conduct dig hold.reload hold.append hold.flush sizes rooted groups.lead groups.others
          hold.attach next.shaped next.sparse;
      runs = runs_backed d.conduct dig hold.reload hold.append hold.flush sizes rooted groups.lead groups.others
          hold.attach next.shaped next.sparse first.shaped first.sparse;
      flushed = logs_kept d.conduct dig hold.reload hold.append hold.flush hold.attach
          stand.reload stand.append stand.flush stand.flushed c.kept_devices_open.ensures.opens;
    }
