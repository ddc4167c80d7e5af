use Rattle.std.proofs.Common.{◌≡◌, [], Option, length, ap, sym, ◌∙◌, arith, subst, append-nil}
use Rattle.std.specs.Option.{option_map_or}
use Rattle.bt_tree.specs.Blocks.{block_count}
use Rattle.bt_store.specs.FileStore.{StoreView}
use Rattle.bt_store.specs.Review.{waiting_blocks}
use Rattle.bt_engine_messages.specs.RunSteps.{SettlesSlot}
use Rattle.bt_engine_messages.proofs.RunSettlings.{slot_kept, of_tree, of_empty, none_past, due_cut, slot_settled}
use Rattle.bt_engine_messages.proofs.runs.settle_slot.Goals as goal

pub returns-in_default-clause-settles : goal.returns-in_default-clause-settles
returns-in_default-clause-settles g c =
    let d = g.D.Disk in
    let dig = g.H.NodeHash.digest in
    let slot = c.args.slot.now in
    let none = sym (of_tree d.conduct dig c.args.tree.now c.args.index c.args.from c.args.count slot c.if-slot-index.false)
    ∙ of_empty d.conduct dig c.args.tree.now c.args.index c.args.from c.args.count slot c.in_default.is in
    ([], slot_kept d.conduct dig c.args.tree.now c.args.index c.args.from c.args.count slot none, sym (append-nil c.args.notes.now.items))

pub returns-then-from-blocks-clause-settles : goal.returns-then-from-blocks-clause-settles
returns-then-from-blocks-clause-settles g c =
    let d = g.D.Disk in
    let dig = g.H.NodeHash.digest in
    let store = c.in-Some.store in
    let s = c.settle_blocks.ensures.settles in
    let size : length store.states ≡ c.blocks-blocks.result = c.geometry.ensures.states ∙ sym (c.blocks-blocks.ensures.value ∙ ap block_count c.geometry.ensures.value) in
    let cut = ap (waiting_blocks dig c.args.tree.now store.states c.args.from) c.min.ensures
    ∙ due_cut dig c.args.tree.now store.states c.args.from c.args.count c.blocks-blocks.result size c.if-from-blocks.true in (
      s.reads,
      slot_settled d.conduct dig c.args.tree.now c.args.index c.args.from c.args.count c.args.slot.now store c.settle_blocks.new.store
          c.min.result c.args.file c.args.notes.now.items c.settle_blocks.new.notes.items c.if-slot-index.false c.in-Some.is
          (c.requires.fits c.if-slot-index.false store c.in-Some.is) cut s,
      s.noted,
    )

pub returns-else-from-blocks-clause-settles : goal.returns-else-from-blocks-clause-settles
returns-else-from-blocks-clause-settles g c =
    let d = g.D.Disk in
    let dig = g.H.NodeHash.digest in
    let slot = c.args.slot.now in
    let store = c.in-Some.store in
    let size : length store.states ≡ c.blocks-blocks.result = c.geometry.ensures.states ∙ sym (c.blocks-blocks.ensures.value ∙ ap block_count c.geometry.ensures.value) in
    let none = sym (of_tree d.conduct dig c.args.tree.now c.args.index c.args.from c.args.count slot c.if-slot-index.false)
    ∙ ap (λ (o : Option (StoreView g.row.D.Denot)). waiting_blocks dig c.args.tree.now (option_map_or (λ st. st.states) o []) c.args.from c.args.count) c.in-Some.is
    ∙ none_past dig c.args.tree.now store.states c.args.from c.args.count (omega (arith, size, c.if-from-blocks.false)) in (
      [],
      subst (λ (o : Option (StoreView g.row.D.Denot)). SettlesSlot d.conduct dig c.args.tree.now c.args.index c.args.from c.args.count slot [] (record slot { store = o })) c.in-Some.is
          (slot_kept d.conduct dig c.args.tree.now c.args.index c.args.from c.args.count slot none),
      sym (append-nil c.args.notes.now.items),
    )
