use Rattle.std.proofs.Common.{◌≡◌, ◌≢◌, List, Option, Some, rules, sym, ap, ◌∙◌, subst}
use Rattle.std.specs.Prelude.{slice_get}
use Rattle.std.specs.Bool.{OnTrue, OnFalse}
use Rattle.bt_store.specs.declared.block_states.BlockState.{BlockState}
use Rattle.bt_store.specs.declared.block_states.BlockState.TheVariants.{Marked}
use Rattle.bt_engine_state.specs.declared.slot.Slot.{Slot}
use Rattle.bt_engine_state.proofs.Lists.{get_read}
use Rattle.bt_engine_messages.proofs.Requests.{in_slot}
use Rattle.bt_engine_messages.proofs.request.is_marked.Goals as goal

pub returns-clause-yes : goal.returns-clause-yes
returns-clause-yes g c =
    let at = c.in-Some.ensures.lookup in
    let here = ap (λ (xs : List (Slot g.row.D.Denot g.row.H.Denot)). slice_get xs c.args.file) (sym c.as_slice-slots.ensures.value)
    ∙ get_read c.as_slice-slots.result.now c.args.file c.in-Some.slot.now at.3.0 at.1 in
    let yes : OnTrue c.eq.result (c.state.result ≡ Some Marked) = search rules in
    subst (λ (state : Option BlockState). OnTrue c.eq.result (state ≡ Some Marked))
    (c.state.ensures ∙ sym (in_slot c.args.parts.now c.args.file c.args.block here)) yes

pub returns-clause-no : goal.returns-clause-no
returns-clause-no g c =
    let at = c.in-Some.ensures.lookup in
    let here = ap (λ (xs : List (Slot g.row.D.Denot g.row.H.Denot)). slice_get xs c.args.file) (sym c.as_slice-slots.ensures.value)
    ∙ get_read c.as_slice-slots.result.now c.args.file c.in-Some.slot.now at.3.0 at.1 in
    let no : OnFalse c.eq.result (c.state.result ≢ Some Marked) = search rules in
    subst (λ (state : Option BlockState). OnFalse c.eq.result (state ≢ Some Marked))
    (c.state.ensures ∙ sym (in_slot c.args.parts.now c.args.file c.args.block here)) no
