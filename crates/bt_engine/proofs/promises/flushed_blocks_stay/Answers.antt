use Rattle.bt_engine.proofs.Flushes.{flushed_stay}
use Rattle.bt_engine.proofs.promises.flushed_blocks_stay.Goals as goal

pub returns : goal.returns
returns g c =
    flushed_stay g.D.Disk.conduct g.H.NodeHash.digest c.honest_devices_were_so.ensures c.run_keeps_images.ensures
    c.run_keeps_marks.ensures c.flush_keeps_blocks.ensures c.args.engine.now c.keeps_laws.ensures.sound
