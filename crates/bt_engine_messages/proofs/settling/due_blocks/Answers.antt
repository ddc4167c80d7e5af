use Rattle.std.proofs.Common.{◌-◌, ◌++◌, ◌∷◌, [], length, cond, ap, sym, ◌∙◌, arith, append-nil}
use Rattle.bt_engine_messages.proofs.Settlings.{due_length, due_more}
use Rattle.bt_engine_messages.proofs.settling.due_blocks.Goals as goal
use Rattle.bt_engine_messages.proofs.settling.due_blocks.Goals.{then-is_due, else-is_due}

pub push-requires : goal.push-requires
push-requires g c =
    let few = due_length g.H.NodeHash.digest c.args.tree.now c.args.store.now.states c.args.from (c.loop-block.block - c.args.from) in
    let size = ap length c.loop-block.invariant in
    omega (arith, few, size, c.loop-block-test.true, c.loop-block.auto.block, c.requires.few)

pub loop-block-preserved : goal.loop-block-preserved
loop-block-preserved g c =
    let blocks = c.loop-block.blocks.items in
    let at = c.loop-block.block in
    let more = due_more g.H.NodeHash.digest c.args.tree.now c.args.store.now.states c.args.from at blocks c.loop-block.auto.block c.loop-block.invariant in
    elim c.if-is_due.branch [
      | then-is_due w ↦
          ap (λ v. v.items) w.blocks-is ∙ w.push.ensures.items
          ∙ ap (λ b. blocks ++ cond b (at ∷ []) []) (sym w.if-is_due.true ∙ c.is_due.ensures) ∙ more
      | else-is_due w ↦
          ap (λ v. v.items) w.blocks-is ∙ sym (append-nil blocks)
          ∙ ap (λ b. blocks ++ cond b (at ∷ []) []) (sym w.if-is_due.false ∙ c.is_due.ensures) ∙ more
    ]
