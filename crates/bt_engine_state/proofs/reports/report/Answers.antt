use Rattle.std.proofs.Common.{Some, List, sym, ap, ◌∙◌}
use Rattle.std.specs.Prelude.{slice_get, option_map}
use Rattle.bt_machine.specs.Report.{report_of}
use Rattle.bt_engine_state.specs.Parts.{file_of}
use Rattle.bt_engine_state.specs.declared.slot.Slot.{Slot}
use Rattle.bt_engine_state.proofs.Lists.{get_mapped, get_read}
use Rattle.bt_engine_state.proofs.Completeness.{states_all}
use Rattle.bt_engine_state.proofs.reports.report.Goals as goal

pub report_slot-requires : goal.report_slot-requires
report_slot-requires g c =
    let at = c.in-Some.ensures.lookup in
    let here = ap (λ (xs : List (Slot g.row.D.Denot g.row.H.Denot)). slice_get xs c.args.file) (sym c.as_slice-slots.ensures.value)
    ∙ get_read c.as_slice-slots.result.now c.args.file c.in-Some.slot.now at.3.0 at.1 in
    states_all c.args.parts.now c.requires.tied c.requires.shaped c.args.file c.in-Some.slot.now here

pub returns : goal.returns
returns g c =
    let at = c.in-Some.ensures.lookup in
    let here = ap (λ (xs : List (Slot g.row.D.Denot g.row.H.Denot)). slice_get xs c.args.file) (sym c.as_slice-slots.ensures.value)
    ∙ get_read c.as_slice-slots.result.now c.args.file c.in-Some.slot.now at.3.0 at.1 in
    ap (λ r. Some r) c.report_slot.ensures ∙ sym (ap (option_map report_of) (get_mapped file_of c.args.parts.now.slots.items c.args.file here))
