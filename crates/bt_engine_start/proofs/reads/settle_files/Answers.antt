use Rattle.std.proofs.Common.{get_or, sym, ◌∙◌, arith}
use Rattle.std.proofs.lemmas.Option.{slice_get-get_or}
use Rattle.bt_machine.proofs.Lists.{some_below}
use Rattle.bt_engine_start.proofs.Readings.{settled_none, settled_more}
use Rattle.bt_engine_start.proofs.reads.settle_files.Goals as goal

pub loop-slot-init : goal.loop-slot-init
loop-slot-init g c =
    let d = g.D.Disk in
    settled_none d.conduct g.H.NodeHash.digest c.args.trees.now c.args.slots.now

pub settle_slot-requires : goal.settle_slot-requires
settle_slot-requires g c =
    let now = c.loop-slot.slots in
    let i = c.loop-slot.slot-index in
    let here = slice_get-get_or now i c.slot-item.result (omega (arith, c.loop-slot-test.true, c.loop-slot.auto.slots)) in
    c.requires i (get_or now i c.slot-item.result) (sym (c.loop-slot.invariant.from i (omega arith)) ∙ here)

pub loop-slot-preserved : goal.loop-slot-preserved
loop-slot-preserved g c =
    let d = g.D.Disk in
    let now = c.loop-slot.slots in
    let i = c.loop-slot.slot-index in
    let here = slice_get-get_or now i c.slot-item.result (omega (arith, c.loop-slot-test.true, c.loop-slot.auto.slots)) in
    settled_more d.conduct g.H.NodeHash.digest c.args.trees.now i c.args.slots.now now (get_or now i c.slot-item.result) c.settle_slot.new.slot here
    c.loop-slot.invariant c.settle_slot.ensures

pub returns : goal.returns
returns g c = λ file slot at.
    c.loop-slot.invariant.below file slot (omega (arith, some_below c.args.slots.now file at, c.loop-slot-test.false)) at
