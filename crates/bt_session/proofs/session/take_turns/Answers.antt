use Rattle.std.proofs.Common.{arith}
use Rattle.std.proofs.lemmas.Result.{err_from_is_err_and}
use Rattle.bt_session.proofs.Whole.{spent}
use Rattle.bt_session.proofs.session.take_turns.Goals as goal

pub returns-in-Err-clause-ends : goal.returns-in-Err-clause-ends
returns-in-Err-clause-ends g c first begun =
    c.in-Err.ensures.part c.args.partner.flushing c.args.turns c.loop-taken.taken first (c.loop-taken.invariant.goes first begun) (omega (arith, c.loop-taken-test.true))

pub returns-in_err-flush_if_due-in-Ok-clause-ends : goal.returns-in_err-flush_if_due-in-Ok-clause-ends
returns-in_err-flush_if_due-in-Ok-clause-ends g c first begun =
    let took = c.in-Ok.ensures.part c.args.partner.flushing c.args.turns c.loop-taken.taken first (c.loop-taken.invariant.goes first begun) (omega (arith, c.loop-taken-test.true)) in
    let p = err_from_is_err_and c.from_residual.result c.from_residual.ensures.1 in
    rw (p.1, p.2) (c.in_err-flush_if_due-in-Ok.ensures.pause c.args.turns first _ _ took (omega (arith, c.loop-taken-test.true)))

pub loop-taken-preserved : goal.loop-taken-preserved
loop-taken-preserved g c = record {
  alone = c.in_ok-flush_if_due-in-Ok.ensures.alone;
  goes = λ first begun.
      let took = c.in-Ok.ensures.part c.args.partner.flushing c.args.turns c.loop-taken.taken first (c.loop-taken.invariant.goes first begun) (omega (arith, c.loop-taken-test.true)) in
      c.in_ok-flush_if_due-in-Ok.ensures.pause c.args.turns first _ _ took (omega (arith, c.loop-taken-test.true));
  flushed = λ before. c.in-Ok.ensures.flushed (c.loop-taken.invariant.flushed before) (λ is. absurd cc);
}

pub returns-clause-ends : goal.returns-clause-ends
returns-clause-ends g c first begun =
    spent g.D.Disk.conduct g.H.NodeHash.digest _ _ _ c.args.turns c.loop-taken.taken first _
    (omega (arith, c.loop-taken.auto.taken-end, c.loop-taken-test.false)) (c.loop-taken.invariant.goes first begun)
