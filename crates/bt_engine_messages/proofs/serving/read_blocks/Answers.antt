use Rattle.std.proofs.Common.{List, arith, subst, sym}
use Rattle.std.proofs.lemmas.Result.{err_from_is_err_and}
use Rattle.bt_engine_messages.specs.ServingSteps.{AreReadRight, one_or_two}
use Rattle.bt_engine_messages.proofs.SpanReads.{one_block, two_blocks, first_fails, second_fails, both_parts}
use Rattle.bt_engine_messages.proofs.serving.read_blocks.Goals as goal

pub returns-in_err-count-clause-wrong : goal.returns-in_err-count-clause-wrong
returns-in_err-count-clause-wrong g c =
    let p = err_from_is_err_and c.from_residual.result c.from_residual.ensures.1 in
    rw (p.1, p.2) (first_fails c.args.last c.in_err-count.ensures.wrong)

pub returns-then-first-last-clause-right : goal.returns-then-first-last-clause-right
returns-then-first-last-clause-right g c = one_block c.args.last c.if-first-last.true c.in_ok-count.ensures.right

pub returns-in_err-more-clause-wrong : goal.returns-in_err-more-clause-wrong
returns-in_err-more-clause-wrong g c =
    let p = err_from_is_err_and c.from_residual-in_err-more.result c.from_residual-in_err-more.ensures.1 in
    rw (p.1, p.2) (second_fails c.if-first-last.false c.in_ok-count.ensures.right c.in_err-more.ensures.wrong)

pub returns-clause-right : goal.returns-clause-right
returns-clause-right g c =
    let d = g.D.Disk in
    subst (λ (all : List _). AreReadRight d.conduct g.H.NodeHash.digest c.args.tree.now (one_or_two c.args.first c.args.last) all c.args.store.now c.read_block-2.new.store)
    (sym (both_parts c.in_ok-count.count c.in_ok-more.more c.read_block.new.out c.read_block-2.new.out (omega arith) c.in_ok-count.ensures.within c.in_ok-more.ensures.within c.read_block-2.auto.out))
    (two_blocks c.if-first-last.false c.in_ok-count.ensures.right c.in_ok-more.ensures.right)
