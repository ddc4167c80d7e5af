use Rattle.std.proofs.Common.{◌≡◌, ℕ, suc, ◌-◌, ◌<◌, Bool, true, false, length, drop, sym, ap, ◌∙◌, arith}
use Rattle.std.specs.List.{list_all}
use Rattle.std.proofs.lemmas.List.{drop_all}
use Rattle.std.proofs.lemmas.List.Folds.{list_all_at}
use Rattle.bt_store.specs.BlockStates.{is_marked}
use Rattle.bt_engine_state.specs.Parts.{file_of}
use Rattle.bt_engine_state.specs.declared.slot.Slot.{Slot}
use Rattle.bt_engine_state.proofs.Completeness.{complete_slots, passes_from}
use Rattle.bt_engine_state.proofs.reports.is_complete.Goals as goal

pub loop-index-init : goal.loop-index-init
loop-index-init g c =
    let test : Slot g.row.D.Denot g.row.H.Denot → Bool = λ slot. list_all is_marked (file_of slot).states in
    let slots = c.as_slice-slots.result.now in
    ap (list_all test) (drop_all (length slots) slots (omega arith))

pub loop-index-preserved : goal.loop-index-preserved
loop-index-preserved g c =
    let test : Slot g.row.D.Denot g.row.H.Denot → Bool = λ slot. list_all is_marked (file_of slot).states in
    let slots = c.as_slice-slots.result.now in
    let l = c.loop-index in
    let i : ℕ = l.index - 1 in
    let next : suc i ≡ l.index = omega (arith, c.loop-index-test.true) in
    let below : i < length slots = omega (arith, c.loop-index-test.true, l.auto.index) in
    let part : test c.index-slots-index.result ≡ true = sym c.is_slot_complete.ensures ∙ c.if-not-is_slot_complete.false in
    passes_from test slots i c.index-slots-index.result below (ap test (sym c.index-slots-index.is) ∙ part)
    (ap (λ n. list_all test (drop n slots)) next ∙ l.invariant)

pub returns-then-not-is_slot_complete : goal.returns-then-not-is_slot_complete
returns-then-not-is_slot_complete g c =
    let test : Slot g.row.D.Denot g.row.H.Denot → Bool = λ slot. list_all is_marked (file_of slot).states in
    let slots = c.as_slice-slots.result.now in
    let l = c.loop-index in
    let below : l.index - 1 < length slots = omega (arith, c.loop-index-test.true, l.auto.index) in
    let part : test c.index-slots-index.result ≡ false = sym c.is_slot_complete.ensures ∙ c.if-not-is_slot_complete.true in
    sym (complete_slots c.args.parts.now ∙ ap (list_all test) (sym c.as_slice-slots.ensures.value)
    ∙ list_all_at test slots (l.index - 1) c.index-slots-index.result below (ap test (sym c.index-slots-index.is) ∙ part))

pub returns : goal.returns
returns g c =
    let test : Slot g.row.D.Denot g.row.H.Denot → Bool = λ slot. list_all is_marked (file_of slot).states in
    let slots = c.as_slice-slots.result.now in
    let none : 0 ≡ c.loop-index.index = omega (arith, c.loop-index-test.false) in
    sym (complete_slots c.args.parts.now ∙ ap (list_all test) (sym c.as_slice-slots.ensures.value)
    ∙ ap (λ n. list_all test (drop n slots)) none ∙ c.loop-index.invariant)
