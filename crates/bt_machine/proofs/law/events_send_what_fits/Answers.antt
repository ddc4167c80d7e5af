use Rattle.bt_machine.proofs.Frames.{step_fits}
use Rattle.bt_machine.proofs.Rooted.{run_sparse}
use Rattle.bt_machine.proofs.Shape.{shape_kept}
use Rattle.bt_machine.proofs.law.events_send_what_fits.Goals as goal

pub returns : goal.returns
returns g c =
    let dig = g.H.NodeHash.digest in
    let is = g.met.H.NodeHash.has_32_bytes in
    let heights = c.heights_are_least.ensures in
    record {
      step = step_fits dig is heights;
      runs = λ torrent first last new events calls answers event made answer lawful begins run step.
          step_fits dig is heights torrent last new event made answer lawful
          (shape_kept dig torrent first last events calls answers begins run).0
          (run_sparse dig c.keeps_rooted.ensures c.layers_are_sound.ensures c.roots_are_sound.ensures is last events calls answers lawful begins run)
          step;
    }
