use Rattle.std.proofs.Common.{false, ap, sym, ◌∙◌, subst, arith}
use Rattle.std.specs.Option.{option_map}
use Rattle.bt_sparse.specs.SparseTree.{Facts}
use Rattle.bt_tree.specs.Blocks.{block_count}
use Rattle.bt_store.specs.FileStore.{StoreView}
use Rattle.bt_store.specs.BlockReads.{IsJudged}
use Rattle.bt_store.specs.Review.{waiting_blocks}
use Rattle.bt_machine.proofs.Lists.{some_is, some_below}
use Rattle.bt_engine_state.proofs.Lists.{get_read}
use Rattle.bt_engine_start.proofs.Readings.{slot_settled}
use Rattle.bt_engine_start.proofs.reads.settle_slot.Goals as goal

pub offset_bounds-trees-slot : goal.offset_bounds-trees-slot
offset_bounds-trees-slot g c =
    let k = c.requires c.in-Some.store.file_length (ap (option_map (λ (s : StoreView g.row.D.Denot). s.file_length)) c.in-Some.is) in
    omega (arith, some_below c.args.trees.now c.args.slot.now.tree k.1)

pub bounds-trees-slot : goal.bounds-trees-slot
bounds-trees-slot g c =
    let k = c.requires c.in-Some.store.file_length (ap (option_map (λ (s : StoreView g.row.D.Denot). s.file_length)) c.in-Some.is) in
    some_below c.args.trees.now c.args.slot.now.tree k.1

pub settle-requires : goal.settle-requires
settle-requires g c =
    let trees = c.args.trees.now in
    let tree = c.args.slot.now.tree in
    let k = c.requires c.in-Some.store.file_length (ap (option_map (λ (s : StoreView g.row.D.Denot). s.file_length)) c.in-Some.is) in
    let here = get_read trees tree c.index-trees-slot.result (some_below trees tree k.1) c.index-trees-slot.is in
    ap (λ (x : Facts). x.file_length) (some_is (sym here ∙ k.1)) ∙ k.2

pub returns : goal.returns
returns g c =
    let d = g.D.Disk in
    let dig = g.H.NodeHash.digest in
    let store = c.in-Some.store in
    let trees = c.args.trees.now in
    let tree = c.args.slot.now.tree in
    let k = c.requires store.file_length (ap (option_map (λ (s : StoreView g.row.D.Denot). s.file_length)) c.in-Some.is) in
    let here = get_read trees tree c.index-trees-slot.result (some_below trees tree k.1) c.index-trees-slot.is in
    let r = rw c.unwrap.ensures at c.settle.ensures.settled in
    slot_settled d.conduct dig trees c.in-Some.is here r.0
    (subst (λ n. IsJudged d.conduct dig c.index-trees-slot.result false (waiting_blocks dig c.index-trees-slot.result store.states 0 n) store r.0 c.settle.new.self)
    (c.blocks-blocks.ensures.value ∙ ap block_count c.geometry.ensures.value ∙ sym c.geometry.ensures.states) r.1)
