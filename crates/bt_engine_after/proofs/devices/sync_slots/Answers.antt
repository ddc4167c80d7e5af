use Rattle.std.proofs.Common.{arith, sym, subst, Ok, Err}
use Rattle.bt_engine_state.proofs.Lists.{get_read}
use Rattle.bt_engine_after.specs.DevicesSteps.{SyncsSlot}
use Rattle.bt_engine_after.proofs.Flushes.{one_synced, all_synced, sync_failed}
use Rattle.bt_engine_after.proofs.devices.sync_slots.Goals as goal

pub returns-in-Err : goal.returns-in-Err
returns-in-Err g c =
    let d = g.D.Disk in
    let now = c.loop-slot.slots in
    let i = c.loop-slot.slot-index in
    sync_failed d.conduct c.args.slots.now now i c.slot-item.result c.sync_slot.new.slot c.loop-slot.invariant
    (get_read now i c.slot-item.result (omega (arith, c.loop-slot-test.true, c.loop-slot.auto.slots)) c.slot-item.is) c.in-Err.field-0
    (subst (λ s. SyncsSlot d.conduct s (Err c.in-Err.field-0) c.sync_slot.new.slot) (sym c.slot-item.is) c.in-Err.ensures)

pub loop-slot-preserved : goal.loop-slot-preserved
loop-slot-preserved g c =
    let d = g.D.Disk in
    let now = c.loop-slot.slots in
    let i = c.loop-slot.slot-index in
    one_synced d.conduct c.args.slots.now now i c.slot-item.result c.sync_slot.new.slot c.loop-slot.invariant
    (get_read now i c.slot-item.result (omega (arith, c.loop-slot-test.true, c.loop-slot.auto.slots)) c.slot-item.is)
    (subst (λ s. SyncsSlot d.conduct s (Ok tt) c.sync_slot.new.slot) (sym c.slot-item.is) c.in_default.ensures)

pub returns : goal.returns
returns g c =
    let d = g.D.Disk in
    all_synced d.conduct c.args.slots.now c.loop-slot.slots c.loop-slot.slot-index (omega (arith, c.loop-slot-test.false, c.loop-slot.auto.slot-index-end)) c.loop-slot.invariant
