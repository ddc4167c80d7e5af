use Rattle.bt_resume.proofs.Standings.{attach_stands, reload_stands, append_stands, flush_stands, flushed_stand}
use Rattle.bt_resume.proofs.law.kept_hints_stand.Goals as goal

pub returns : goal.returns
returns g c =
    let d = g.D.Disk in
    let gives_image = g.met.D.Disk.reads_image in
    record {
      attach = attach_stands d.conduct gives_image;
      reload = reload_stands d.conduct gives_image;
      append = append_stands d.conduct gives_image;
      flush = flush_stands d.conduct gives_image;
      flushed = flushed_stand d.conduct gives_image;
    }
