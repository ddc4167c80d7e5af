use Rattle.bt_machine.proofs.Orderly.{order_at_first}
use Rattle.bt_machine.proofs.Rooted.{start_rooted, start_sparse}
use Rattle.bt_machine.proofs.Shape.{shape_at_first}
use Rattle.bt_machine.proofs.Sound.{start_sound}
use Rattle.bt_machine.proofs.law.starts_keep_laws.Goals as goal

pub returns : goal.returns
returns g c =
    let dig = g.H.NodeHash.digest in
    let keeps = c.keeps_rooted.ensures in
    let layers = c.layers_are_sound.ensures in
    let roots = c.roots_are_sound.ensures in
    record {
      shaped = λ torrent first begins. shape_at_first dig begins;
      orderly = order_at_first dig;
      rooted = start_rooted dig keeps layers roots;
      sparse = start_sparse dig keeps layers roots g.met.H.NodeHash.has_32_bytes;
      sound = start_sound g.D.Disk.conduct dig;
    }
