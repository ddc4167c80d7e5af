use Rattle.bt_engine_state.specs.Parts.{state_of}
use Rattle.bt_engine_after.proofs.HashNeeds.{planned, unplanned}
use Rattle.bt_engine_after.proofs.hash_requests.next_key.Goals as goal

pub returns-clause-some : goal.returns-clause-some
returns-clause-some g c =
    planned g.H.NodeHash.digest (state_of c.args.parts.now) c.requires.shaped c.in_ok-block.block c.tree_at.ensures c.args.has.now c.in_ok-block.ensures.some
    c.plan.result c.plan.ensures.plan

pub returns-clause-none : goal.returns-clause-none
returns-clause-none g c =
    unplanned g.H.NodeHash.digest (state_of c.args.parts.now) c.requires.shaped c.in_ok-block.block c.tree_at.ensures c.args.has.now c.in_ok-block.ensures.some
    c.in_ok-block.ensures.block c.plan.result c.plan.ensures.none.0
