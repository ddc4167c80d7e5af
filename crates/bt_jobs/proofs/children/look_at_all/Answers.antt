use Rattle.std.proofs.Common.{◌+◌, arith}
use Rattle.bt_jobs.specs.Parts.{IsSeen}
use Rattle.bt_jobs.specs.PartsSteps.{IsAny}
use Rattle.bt_jobs.proofs.Turning.{turned_all, turned_any, turned_more, turned_none, unturned}
use Rattle.bt_jobs.proofs.children.look_at_all.Goals as goal

pub loop-child-init : goal.loop-child-init
loop-child-init g c =
    let stands = g.C.StartedPart.stands in
    (λ text looks. turned_none stands (IsSeen text looks) (IsSeen text (looks + 1)) _, unturned stands IsAny _)

pub loop-child-preserved : goal.loop-child-preserved
loop-child-preserved g c =
    let stands = g.C.StartedPart.stands in
    let l = c.loop-child in
    let item = c.child-item.result in
    let new = c.look_at.new.child in (
      λ text looks. turned_more stands (IsSeen text looks) (IsSeen text (looks + 1)) l.child-index _ l.children item new (omega (arith, c.loop-child-test.true, l.auto.children))
          (l.invariant.0 text looks) (c.in_ok-look_at.ensures.seen text looks),
      turned_any stands l.child-index _ l.children item new l.invariant.1 c.look_at.ensures.kept,
    )

pub returns-in_err-look_at-clause-kept : goal.returns-in_err-look_at-clause-kept
returns-in_err-look_at-clause-kept g c =
    let l = c.loop-child in
    turned_any g.C.StartedPart.stands l.child-index _ l.children c.child-item.result c.look_at.new.child l.invariant.1 c.look_at.ensures.kept

pub returns-clause-seen : goal.returns-clause-seen
returns-clause-seen g c =
    let l = c.loop-child in
    λ text looks. turned_all g.C.StartedPart.stands (IsSeen text looks) (IsSeen text (looks + 1)) l.child-index _ l.children
    (omega (arith, c.loop-child-test.false, l.auto.children)) (l.invariant.0 text looks)
