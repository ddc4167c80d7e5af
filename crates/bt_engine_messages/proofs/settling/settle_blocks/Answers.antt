use Rattle.std.proofs.Common.{◌≡◌, ◌++◌, ◌∷◌, [], length, map, take, ap, ◌∙◌, arith}
use Rattle.std.proofs.Math.Seq.{take-length}
use Rattle.bt_machine.specs.declared.answer.Note.TheVariants.{Device}
use Rattle.bt_engine_messages.specs.SettlingSteps.{note_at}
use Rattle.bt_engine_messages.proofs.Settlings.{due_few, some_due, with_fault, without_fault, blocks_settled}
use Rattle.bt_engine_messages.proofs.settling.settle_blocks.Goals as goal

pub unwrap-requires : goal.unwrap-requires
unwrap-requires g c =
    let few = due_few g.H.NodeHash.digest c.args.tree.now c.args.store.now.states c.args.from c.args.count in
    let size = ap length (c.as_slice-block-items.ensures.value ∙ c.due_blocks-due.ensures) in
    c.push.ensures.succeeds (omega (arith, few, size, c.loop-block-test.true, c.loop-block.invariant.few, c.loop-block.invariant.room, c.requires.room))

pub unwrap-requires-then-settled-gt0 : goal.unwrap-requires-then-settled-gt0
unwrap-requires-then-settled-gt0 g c =
    let few = due_few g.H.NodeHash.digest c.args.tree.now c.args.store.now.states c.args.from c.args.count in
    let size = ap length (c.as_slice-block-items.ensures.value ∙ c.due_blocks-due.ensures) in
    let r = rw c.unwrap-settled.ensures at c.settle.ensures.settled in
    let some = some_due g.H.NodeHash.digest c.args.tree.now c.args.store.now.states c.args.from c.args.count r.0 r.1.device.in_order
    (omega (arith, r.4, c.if-settled-gt0.true)) in
    c.push-then-settled-gt0.ensures.succeeds
    (omega (arith, few, size, some, c.loop-block.auto.block-index-end, c.loop-block.invariant.few, c.loop-block.invariant.room, c.requires.room))

pub returns-then-settled-gt0-clause-settles : goal.returns-then-settled-gt0-clause-settles
returns-then-settled-gt0-clause-settles g c =
    let d = g.D.Disk in
    let r = rw c.unwrap-settled.ensures at c.settle.ensures.settled in
    let items = c.as_slice-block-items.result.now in
    let pushed = rw c.unwrap-then-settled-gt0.ensures at c.push-then-settled-gt0.ensures.items in
    let whole : c.loop-block.block-index ≡ length items = omega (arith, c.loop-block-test.false, c.loop-block.auto.block-index-end) in
    let f = note_at c.args.file c.settle.new.self.states in
    let all = ap (λ n. map f (take n items)) whole ∙ ap (λ xs. map f xs) (take-length items ∙ c.as_slice-block-items.ensures.value ∙ c.due_blocks-due.ensures) in
    blocks_settled g.H.NodeHash.digest c.args.tree.now d.conduct c.args.file c.args.from c.args.count c.args.store.now c.settle.new.self r.0
    c.args.notes.now.items c.push-then-settled-gt0.new.self.items c.unwrap-settled.result.faults r.1 r.4
    (pushed ∙ ap (λ xs. xs ++ Device c.args.file ∷ []) (c.loop-block.invariant.noted ∙ ap (λ xs. c.args.notes.now.items ++ xs) all)
    ∙ with_fault _ c.args.file c.unwrap-settled.result.faults c.if-settled-gt0.true)

pub returns-then-settled-gt0-clause-few : goal.returns-then-settled-gt0-clause-few
returns-then-settled-gt0-clause-few g c =
    let few = due_few g.H.NodeHash.digest c.args.tree.now c.args.store.now.states c.args.from c.args.count in
    let size = ap length (c.as_slice-block-items.ensures.value ∙ c.due_blocks-due.ensures) in
    let r = rw c.unwrap-settled.ensures at c.settle.ensures.settled in
    let some = some_due g.H.NodeHash.digest c.args.tree.now c.args.store.now.states c.args.from c.args.count r.0 r.1.device.in_order
    (omega (arith, r.4, c.if-settled-gt0.true)) in
    omega (arith, few, size, some, c.loop-block.auto.block-index-end, c.loop-block.invariant.few, c.push-then-settled-gt0.ensures.upper_bound)

pub returns-else-settled-gt0-clause-settles : goal.returns-else-settled-gt0-clause-settles
returns-else-settled-gt0-clause-settles g c =
    let d = g.D.Disk in
    let r = rw c.unwrap-settled.ensures at c.settle.ensures.settled in
    let items = c.as_slice-block-items.result.now in
    let whole : c.loop-block.block-index ≡ length items = omega (arith, c.loop-block-test.false, c.loop-block.auto.block-index-end) in
    let f = note_at c.args.file c.settle.new.self.states in
    let all = ap (λ n. map f (take n items)) whole ∙ ap (λ xs. map f xs) (take-length items ∙ c.as_slice-block-items.ensures.value ∙ c.due_blocks-due.ensures) in
    blocks_settled g.H.NodeHash.digest c.args.tree.now d.conduct c.args.file c.args.from c.args.count c.args.store.now c.settle.new.self r.0
    c.args.notes.now.items c.loop-block.notes.items c.unwrap-settled.result.faults r.1 r.4
    (c.loop-block.invariant.noted ∙ ap (λ xs. c.args.notes.now.items ++ xs) all
    ∙ without_fault _ c.args.file c.unwrap-settled.result.faults c.if-settled-gt0.false)

pub returns-else-settled-gt0-clause-few : goal.returns-else-settled-gt0-clause-few
returns-else-settled-gt0-clause-few g c =
    let few = due_few g.H.NodeHash.digest c.args.tree.now c.args.store.now.states c.args.from c.args.count in
    let size = ap length (c.as_slice-block-items.ensures.value ∙ c.due_blocks-due.ensures) in
    omega (arith, few, size, c.loop-block.auto.block-index-end, c.loop-block.invariant.few)
