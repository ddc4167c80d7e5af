use Rattle.std.proofs.Common.{inl, inr, arith, refl}
use Rattle.bt_parts.proofs.Chains.{elsewhere_at, joined_whole, joining_begun, joining_more, never_whole, none_so, not_whole}
use Rattle.bt_parts.proofs.join.join_runs.Goals as goal
use Rattle.bt_parts.proofs.join.join_runs.Goals.{then-loop-count-test+else-runs-count, else-loop-count-test}

pub loop-count-init : goal.loop-count-init
loop-count-init c = (joining_begun c.args.file c.args.blocks _ refl refl refl refl refl, omega arith)

pub loop-count-preserved : goal.loop-count-preserved
loop-count-preserved c = (
  joining_more c.args.file c.args.blocks c.loop-count.count c.args.runs.now _ c.loop-count.joined c.in_ok-joined.joined c.loop-count-test.true
      c.if-runs-count.true c.loop-count.invariant.0 c.in_ok-joined.ensures.some,
  omega (arith, c.loop-count-test.true),
)

pub returns-in_err-joined-clause-none : goal.returns-in_err-joined-clause-none
returns-in_err-joined-clause-none c =
    none_so c.from_residual.result _
    (never_whole c.args.file c.args.blocks c.loop-count.count c.args.runs.now _ c.loop-count.joined c.loop-count-test.true c.if-runs-count.true
    c.loop-count.invariant.0 c.in_err-joined.ensures.none)

pub returns-then-count-eq0-clause-none : goal.returns-then-count-eq0-clause-none
returns-then-count-eq0-clause-none c =
    not_whole c.args.file c.args.blocks c.loop-count.count c.args.runs.now c.loop-count.joined c.loop-count.invariant.0 c.loop-count.invariant.1
    (elsewhere_at c.args.file c.loop-count.count c.args.runs.now _ (λ below. elim c.loop-count-test.branch [
      | then-loop-count-test+else-runs-count w ↦ w.if-runs-count.false
      | else-loop-count-test w ↦ absurd (omega (arith, below, w.loop-count-test.false))
    ]))
    (elim c.then-count-eq0.either [ inl zeroth ↦ inl zeroth | inr early ↦ inr early.1 ])

pub returns-clause-some : goal.returns-clause-some
returns-clause-some c =
    joined_whole c.args.file c.args.blocks c.loop-count.count c.args.runs.now c.loop-count.joined c.loop-count.invariant.0 c.loop-count.invariant.1
    c.if-count-eq0.false c.if-joined-blocks.false
    (elsewhere_at c.args.file c.loop-count.count c.args.runs.now _ (λ below. elim c.loop-count-test.branch [
      | then-loop-count-test+else-runs-count w ↦ w.if-runs-count.false
      | else-loop-count-test w ↦ absurd (omega (arith, below, w.loop-count-test.false))
    ]))
