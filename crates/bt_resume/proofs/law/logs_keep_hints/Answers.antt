use Rattle.bt_resume.proofs.Crashes.{attach_keeps, reload_keeps, append_keeps, flush_keeps}
use Rattle.bt_resume.proofs.law.logs_keep_hints.Goals as goal

pub returns : goal.returns
returns g c =
    let d = g.D.Disk in
    let gives_image = g.met.D.Disk.reads_image in
    record {
      attach = attach_keeps d.conduct gives_image;
      reload = reload_keeps d.conduct gives_image;
      append = append_keeps d.conduct gives_image;
      flush = flush_keeps d.conduct gives_image;
    }
