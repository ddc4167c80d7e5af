use Rattle.bt_machine.proofs.Orderly.{order_kept}
use Rattle.bt_machine.proofs.Rooted.{step_rooted, step_sparse}
use Rattle.bt_machine.proofs.Shape.{step_shape, step_keeps_files}
use Rattle.bt_machine.proofs.Sound.{step_sound}
use Rattle.bt_machine.proofs.law.steps_keep_laws.Goals as goal

pub returns : goal.returns
returns g c =
    let dig = g.H.NodeHash.digest in
    let keeps = c.keeps_rooted.ensures in
    let layers = c.layers_are_sound.ensures in
    let roots = c.roots_are_sound.ensures in
    record {
      shaped = λ torrent old new event calls answer shaped step. step_shape dig event calls answer shaped step;
      files = step_keeps_files dig;
      orderly = order_kept dig;
      rooted = step_rooted dig keeps layers roots;
      sparse = step_sparse dig keeps layers roots g.met.H.NodeHash.has_32_bytes;
      sound = step_sound g.D.Disk.conduct dig c.adopt_marks_by_bytes.ensures;
    }
