use Rattle.std.proofs.Common.{set, sym, ap, ◌∙◌}
use Rattle.std.proofs.lemmas.List.Edits.{map_over_more}
use Rattle.bt_engine_start.specs.AnewSteps.{cleared}
use Rattle.bt_engine_start.proofs.anew.clear_slots.Goals as goal

pub loop-slot-preserved : goal.loop-slot-preserved
loop-slot-preserved g c =
    let now = c.loop-slot.slots in
    let i = c.loop-slot.slot-index in
    ap (set now i) (c.clear_slot.ensures ∙ ap cleared (sym c.slot-item.is))
    ∙ map_over_more cleared c.args.slots.now now i c.slot-item.result c.loop-slot-test.true c.loop-slot.invariant c.slot-item.is
