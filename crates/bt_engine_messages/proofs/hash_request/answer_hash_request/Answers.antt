use Rattle.std.proofs.Common.{refl, sym, arith}
use Rattle.bt_machine.proofs.Lists.{some_below}
use Rattle.bt_machine.specs.HashMessages.{rejected}
use Rattle.bt_engine_state.specs.Parts.{state_of}
use Rattle.bt_engine_state.proofs.Chains.{roots_numbered}
use Rattle.bt_engine_state.proofs.Lists.{get_read}
use Rattle.bt_engine_messages.proofs.HashAnswers.{none_answers, tree_answers, ok_more}
use Rattle.bt_engine_messages.proofs.Learnings.{root_found}
use Rattle.bt_engine_messages.proofs.hash_request.answer_hash_request.Goals as goal

pub index-requires : goal.index-requires
index-requires g c =
    let parts = c.args.parts.now in
    let has = root_found parts.trees.items parts.roots.trees (roots_numbered c.requires) c.args.key.now.root c.in-Some.index (sym c.in-Some.ensures) in
    omega (arith, some_below parts.trees.items c.in-Some.index has.1.here, parts.trees.ok.0)

pub returns-in-Some : goal.returns-in-Some
returns-in-Some g c =
    let parts = c.args.parts.now in
    let are = roots_numbered c.requires in
    let own = sym c.in-Some.ensures in
    let has = root_found parts.trees.items parts.roots.trees are c.args.key.now.root c.in-Some.index own in
    let here = get_read parts.trees.items c.in-Some.index c.index.result.now (some_below parts.trees.items c.in-Some.index has.1.here) c.index.ensures in
    ok_more c.answer_by.result (λ digests says p. tree_answers g.H.NodeHash.digest c.args.key.now (state_of parts) parts.roots.trees are c.in-Some.index here own digests says p)
    c.answer_by.ensures

pub returns-in-None : goal.returns-in-None
returns-in-None g c = λ p.
    rejected (none_answers g.H.NodeHash.digest c.args.key.now (state_of c.args.parts.now) c.args.parts.now.roots.trees (roots_numbered c.requires) (sym c.in-None.ensures)) refl
