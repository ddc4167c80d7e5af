use Rattle.std.proofs.Common.{arith}
use Rattle.bt_jobs.specs.Parts.{IsOver}
use Rattle.bt_jobs.specs.PartsSteps.{IsAny}
use Rattle.bt_jobs.proofs.Turning.{turned_all, turned_more, turned_none}
use Rattle.bt_jobs.proofs.children.end_all.Goals as goal

pub loop-child-init : goal.loop-child-init
loop-child-init g c = turned_none g.C.StartedPart.stands IsAny IsOver _

pub loop-child-preserved : goal.loop-child-preserved
loop-child-preserved g c =
    let l = c.loop-child in
    turned_more g.C.StartedPart.stands IsAny IsOver l.child-index _ l.children c.child-item.result c.end_part.new.part (omega (arith, c.loop-child-test.true, l.auto.children))
    l.invariant c.end_part.ensures

pub returns : goal.returns
returns g c =
    let l = c.loop-child in
    turned_all g.C.StartedPart.stands IsAny IsOver l.child-index _ l.children (omega (arith, c.loop-child-test.false, l.auto.children)) l.invariant
