use Rattle.std.proofs.Common.{arith}
use Rattle.bt_disk.proofs.KnownBytes.{read_more, read_none}
use Rattle.bt_disk.proofs.handle.fill.Goals as goal
use Rattle.bt_disk.proofs.handle.fill.Goals.{in-Ok, in-Err}

pub loop-preserved : goal.loop-preserved
loop-preserved g c =
    let front = c.read_more.ensures.front in
    let (within, so_far) = c.loop.invariant in
    elim c.match-read_more.branch [
      | in-Ok w ↦ rw w.filled-is (
        w.in-Ok.ensures.fits,
        read_more _ _ _ c.loop.out c.read_more.new.out c.loop.filled w.in-Ok.count front so_far w.in-Ok.ensures.next,
      )
      | in-Err w ↦ rw w.filled-is (
        omega (arith, within, c.read_more.auto.out),
        read_none _ _ _ c.loop.out c.read_more.new.out c.loop.filled front so_far w.in-Err.ensures.kept,
      )
    ]
