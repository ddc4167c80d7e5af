use Rattle.std.proofs.Common.{◌∙◌, Ok, Err}
use Rattle.std.proofs.lemmas.List.{with_items_is}
use Rattle.std.specs.Vec.{with_items}
use Rattle.bt_engine_after.proofs.SlotTies.{tied_kept, tied_with, synced_as}
use Rattle.bt_engine_after.proofs.LogWrites.{err_is, stopped, flushed}
use Rattle.bt_engine_after.proofs.devices.flush.Goals as goal

pub returns-in_err-sync_slots-clause-step : goal.returns-in_err-sync_slots-clause-step
returns-in_err-sync_slots-clause-step g c =
    let d = g.D.Disk in
    let old = c.args.parts.now in
    let cause = c.in_err-sync_slots.field-0.0 in
    let items = with_items_is old.slots c.sync_slots.new.slots (c.sync_slots.auto.slots ∙ c.deref_mut.ensures.len) in
    let synced = synced_as d.conduct (Err cause) c.deref_mut.ensures.value items c.in_err-sync_slots.ensures in
    stopped d.conduct old (record old { slots = with_items old.slots c.sync_slots.new.slots }) cause synced
    c.from_residual.result (err_is _ _ c.from_residual.ensures.1)

pub returns-in_err-sync_slots-clause-tied : goal.returns-in_err-sync_slots-clause-tied
returns-in_err-sync_slots-clause-tied g c =
    let d = g.D.Disk in
    let old = c.args.parts.now in
    let items = with_items_is old.slots c.sync_slots.new.slots (c.sync_slots.auto.slots ∙ c.deref_mut.ensures.len) in
    let synced = synced_as d.conduct (Err c.in_err-sync_slots.field-0.0) c.deref_mut.ensures.value items c.in_err-sync_slots.ensures in
    tied_kept old (record old { slots = with_items old.slots c.sync_slots.new.slots }) synced.others c.requires

pub returns-clause-step : goal.returns-clause-step
returns-clause-step g c =
    let d = g.D.Disk in
    let old = c.args.parts.now in
    let items = with_items_is old.slots c.sync_slots.new.slots (c.sync_slots.auto.slots ∙ c.deref_mut.ensures.len) in
    let synced = synced_as d.conduct (Ok tt) c.deref_mut.ensures.value items c.in_ok-sync_slots.ensures in
    flushed d.conduct old (record old { slots = with_items old.slots c.sync_slots.new.slots }) c.writing_flushes.ensures synced
    c.write_log.result c.write_log.new.log c.write_log.ensures

pub returns-clause-tied : goal.returns-clause-tied
returns-clause-tied g c =
    let d = g.D.Disk in
    let old = c.args.parts.now in
    let items = with_items_is old.slots c.sync_slots.new.slots (c.sync_slots.auto.slots ∙ c.deref_mut.ensures.len) in
    let synced = synced_as d.conduct (Ok tt) c.deref_mut.ensures.value items c.in_ok-sync_slots.ensures in
    tied_with old (record old { slots = with_items old.slots c.sync_slots.new.slots }) synced.others c.requires c.write_log.new.log
