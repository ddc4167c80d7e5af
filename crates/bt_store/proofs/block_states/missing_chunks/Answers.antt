use Rattle.std.proofs.Common.{◌+◌, subst, sym, arith}
use Rattle.bt_store.proofs.StateChunks.{AreMade, none_made, more_made, all_made}
use Rattle.bt_store.proofs.block_states.missing_chunks.Goals as goal

pub loop-index-init : goal.loop-index-init
loop-index-init c = none_made _ _ c.in_ok-chunks.ensures.items

pub loop-index-preserved : goal.loop-index-preserved
loop-index-preserved c =
    subst (AreMade c.args.count (c.loop-index.index + 1)) (sym c.in_ok-push.ensures.items)
    (more_made _ _ _ _ _ c.loop-index.invariant c.in_ok-new.ensures c.min.ensures)

pub returns-clause-places : goal.returns-clause-places
returns-clause-places c =
    let needed = c.div_ceil-needed.ensures in
    let done = c.loop-index-test.false in
    all_made _ _ _ c.loop-index.invariant (omega arith)

pub returns-clause-missing : goal.returns-clause-missing
returns-clause-missing c = λ i. c.loop-index.invariant.missing _ _
