use Rattle.bt_resume.proofs.Holdings.{attach_holds, reload_holds, append_holds, flush_holds}
use Rattle.bt_resume.proofs.law.logs_hold_hints.Goals as goal

pub returns : goal.returns
returns g c =
    let d = g.D.Disk in
    record {
      attach = attach_holds d.conduct;
      reload = reload_holds d.conduct;
      append = append_holds d.conduct;
      flush = flush_holds d.conduct;
    }
