use Rattle.std.proofs.Common.{false, Some, get_or, sym, ap, ◌∙◌, subst, arith}
use Rattle.std.specs.Vec.{with_item}
use Rattle.bt_tree.specs.Blocks.{block_count}
use Rattle.bt_store.specs.BlockReads.{IsJudged}
use Rattle.bt_store.specs.Review.{waiting_blocks}
use Rattle.bt_machine.proofs.Lists.{set_same, get_some}
use Rattle.bt_engine_state.specs.Parts.{state_of}
use Rattle.bt_engine_after.proofs.Slots.{here_at, has_file, there_at, stands_at, store_changed}
use Rattle.bt_engine_after.proofs.LeftOut.{follows_still, in_line_again, rest_again, settles_again}
use Rattle.bt_engine_after.proofs.Settlements.{settles_not, settles_one, kept_judged, due_again}
use Rattle.bt_engine_after.proofs.settling.settle_file.Goals as goal

pub returns-then-not-is_due-clause-settles : goal.returns-then-not-is_due-clause-settles
returns-then-not-is_due-clause-settles g c =
    let old = c.args.parts.now in
    let k = get_some old.trees.items c.args.tree (omega (arith, c.requires.here, old.trees.ok.0)) in
    settles_not g.H.NodeHash.digest old c.args.file c.args.tree (here_at old c.requires.inside c.index.ensures) k.1
    (λ due. absurd (let yes = c.is_due.ensures.1 due in let no = c.if-not-is_due.true in cc))

pub leave_out-requires : goal.leave_out-requires
leave_out-requires g c =
    let old = c.args.parts.now in
    (state_of old, has_file old (here_at old c.requires.inside c.index_mut-slot.ensures.value), c.requires.in_line.follows)

pub unreachable-requires : goal.unreachable-requires
unreachable-requires g c =
    let old = c.args.parts.now in
    let here = here_at old c.requires.inside c.index_mut-slot.ensures.value in
    let has = (due_again old c.args.file (here_at old c.requires.inside c.index.ensures) here (c.is_due.ensures.0 c.if-not-is_due.false)).has in
    let none = c.in_default.is in
    cc

pub settle-requires : goal.settle-requires
settle-requires g c =
    let old = c.args.parts.now in
    let here = here_at old c.requires.inside c.index_mut-slot.ensures.value in
    let of_tree = (due_again old c.args.file (here_at old c.requires.inside c.index.ensures) here (c.is_due.ensures.0 c.if-not-is_due.false)).of_tree in
    (stands_at old c.args.file here c.requires.in_line.fits c.in-Some.is (c.index-2.ensures ∙ ap (λ n. get_or old.trees.items n c.index-2.result.now) (sym of_tree))).same

pub count_in-requires : goal.count_in-requires
count_in-requires g c =
    let old = c.args.parts.now in
    let slot = c.index_mut-slot.result.now in
    let here = here_at old c.requires.inside c.index_mut-slot.ensures.value in
    let of_tree = (due_again old c.args.file (here_at old c.requires.inside c.index.ensures) here (c.is_due.ensures.0 c.if-not-is_due.false)).of_tree in
    let at = stands_at old c.args.file here c.requires.in_line.fits c.in-Some.is (c.index-2.ensures ∙ ap (λ n. get_or old.trees.items n c.index-2.result.now) (sym of_tree)) in
    let r = rw c.unwrap.ensures at c.settle.ensures.settled in
    let changes = store_changed at (kept_judged r.1) c.requires.in_line.fits in
    let mid = record old { slots = with_item old.slots c.args.file (record slot { store = Some c.settle.new.self }) } in (
      state_of mid,
      has_file mid {slot = record slot { store = Some c.settle.new.self }} (set_same old.slots.items c.args.file here),
      follows_still old mid.slots mid.trees mid.log changes (c.leave_out.ensures.followed (state_of old) (has_file old here) c.requires.in_line.follows),
    )

pub returns-clause-settles : goal.returns-clause-settles
returns-clause-settles g c =
    let d = g.D.Disk in
    let dig = g.H.NodeHash.digest in
    let old = c.args.parts.now in
    let store = c.in-Some.store in
    let k = c.index-2.result.now in
    let here = here_at old c.requires.inside c.index_mut-slot.ensures.value in
    let of_tree = (due_again old c.args.file (here_at old c.requires.inside c.index.ensures) here (c.is_due.ensures.0 c.if-not-is_due.false)).of_tree in
    let at = stands_at old c.args.file here c.requires.in_line.fits c.in-Some.is (c.index-2.ensures ∙ ap (λ n. get_or old.trees.items n c.index-2.result.now) (sym of_tree)) in
    let r = rw c.unwrap.ensures at c.settle.ensures.settled in
    settles_again (record old { slots = with_item old.slots c.args.file (record c.index_mut-slot.result.now { store = Some c.settle.new.self }) }) c.count_in.new.book
    c.count_in.new.counts c.requires.alone old
    (settles_one dig old c.args.file c.args.tree here (there_at old c.requires.here c.index-2.ensures) c.in-Some.is of_tree at.same
    (subst (λ n. IsJudged d.conduct dig k false (waiting_blocks dig k store.states 0 n) store r.0 c.settle.new.self)
    (c.blocks-blocks.ensures.value ∙ ap block_count c.geometry.ensures.value) r.1))

pub returns-clause-rest : goal.returns-clause-rest
returns-clause-rest g c =
    let old = c.args.parts.now in
    let slot = c.index_mut-slot.result.now in
    let here = here_at old c.requires.inside c.index_mut-slot.ensures.value in
    let of_tree = (due_again old c.args.file (here_at old c.requires.inside c.index.ensures) here (c.is_due.ensures.0 c.if-not-is_due.false)).of_tree in
    let at = stands_at old c.args.file here c.requires.in_line.fits c.in-Some.is (c.index-2.ensures ∙ ap (λ n. get_or old.trees.items n c.index-2.result.now) (sym of_tree)) in
    let r = rw c.unwrap.ensures at c.settle.ensures.settled in
    let changes = store_changed at (kept_judged r.1) c.requires.in_line.fits in
    let mid = record old { slots = with_item old.slots c.args.file (record slot { store = Some c.settle.new.self }) } in
    rest_again old mid.slots mid.trees mid.log changes c.count_in.new.book c.count_in.new.counts (c.count_in.ensures.peers ∙ c.leave_out.ensures.peers)

pub returns-clause-in_line : goal.returns-clause-in_line
returns-clause-in_line g c =
    let old = c.args.parts.now in
    let slot = c.index_mut-slot.result.now in
    let here = here_at old c.requires.inside c.index_mut-slot.ensures.value in
    let of_tree = (due_again old c.args.file (here_at old c.requires.inside c.index.ensures) here (c.is_due.ensures.0 c.if-not-is_due.false)).of_tree in
    let at = stands_at old c.args.file here c.requires.in_line.fits c.in-Some.is (c.index-2.ensures ∙ ap (λ n. get_or old.trees.items n c.index-2.result.now) (sym of_tree)) in
    let r = rw c.unwrap.ensures at c.settle.ensures.settled in
    let changes = store_changed at (kept_judged r.1) c.requires.in_line.fits in
    let mid = record old { slots = with_item old.slots c.args.file (record slot { store = Some c.settle.new.self }) } in
    in_line_again old mid.slots mid.trees mid.log changes c.count_in.new.book c.count_in.new.counts
    (c.count_in.ensures.followed (state_of mid) (has_file mid {slot = record slot { store = Some c.settle.new.self }} (set_same old.slots.items c.args.file here))
    (follows_still old mid.slots mid.trees mid.log changes (c.leave_out.ensures.followed (state_of old) (has_file old here) c.requires.in_line.follows)))
