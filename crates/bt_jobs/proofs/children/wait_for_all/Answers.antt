use Rattle.std.proofs.Common.{arith}
use Rattle.bt_jobs.specs.Parts.{IsDone, IsSeen}
use Rattle.bt_jobs.specs.PartsSteps.{IsAny}
use Rattle.bt_jobs.proofs.Turning.{turned_all, turned_any, turned_more, turned_none, unturned}
use Rattle.bt_jobs.proofs.children.wait_for_all.Goals as goal

pub loop-child-init : goal.loop-child-init
loop-child-init g c =
    let stands = g.C.StartedPart.stands in
    (λ text looks. turned_none stands (IsSeen text looks) (IsDone text) _, unturned stands IsAny _)

pub loop-child-preserved : goal.loop-child-preserved
loop-child-preserved g c =
    let stands = g.C.StartedPart.stands in
    let l = c.loop-child in
    let item = c.child-item.result in
    let new = c.wait_for.new.child in (
      λ text looks. turned_more stands (IsSeen text looks) (IsDone text) l.child-index _ l.children item new (omega (arith, c.loop-child-test.true, l.auto.children))
          (l.invariant.0 text looks) (c.in_ok-wait_for.ensures.ended text looks),
      turned_any stands l.child-index _ l.children item new l.invariant.1 c.wait_for.ensures.kept,
    )

pub returns-in_err-wait_for-clause-kept : goal.returns-in_err-wait_for-clause-kept
returns-in_err-wait_for-clause-kept g c =
    let l = c.loop-child in
    turned_any g.C.StartedPart.stands l.child-index _ l.children c.child-item.result c.wait_for.new.child l.invariant.1 c.wait_for.ensures.kept

pub returns-clause-ended : goal.returns-clause-ended
returns-clause-ended g c =
    let l = c.loop-child in
    λ text looks. turned_all g.C.StartedPart.stands (IsSeen text looks) (IsDone text) l.child-index _ l.children
    (omega (arith, c.loop-child-test.false, l.auto.children)) (l.invariant.0 text looks)
