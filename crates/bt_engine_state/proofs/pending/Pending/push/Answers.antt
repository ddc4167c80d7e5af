use Rattle.std.proofs.Common.{ap, ◌∙◌, refl, sym, subst, arith, ◌<◌, ◌-◌, ◌++◌, ◌∷◌, []}
use Rattle.std.proofs.lemmas.Bool.{false≢true}
use Rattle.std.specs.Vec.{vec_len}
use Rattle.bt_machine.specs.Hints.{add_hint}
use Rattle.bt_engine_state.specs.Pending.{PendingView, AreWritable}
use Rattle.bt_engine_state.specs.declared.pending.Pending.TheInside.{Inside}
use Rattle.bt_engine_state.proofs.MarkJoins.{lengthened, unchanged, put_behind, put_first, stay_writable}
use Rattle.bt_engine_state.proofs.pending.Pending.push.Goals as goal
use Rattle.bt_engine_state.proofs.pending.Pending.push.Goals.{in-Some+else-lengthen, in_default}

pub returns-then-lengthen-clause-hints : goal.returns-then-lengthen-clause-hints
returns-then-lengthen-clause-hints c =
    let old = c.self.inside.hints in
    let some : 0 < vec_len old = c.in-Some.ensures.variant.0 refl in
    lengthened old.items (vec_len old - 1) c.in-Some.last.now c.args.hint (omega (arith, old.ok.0)) c.in-Some.ensures.value c.lengthen.result
    c.lengthen.ensures.continues c.lengthen.new.run c.lengthen.ensures.joined c.if-lengthen.true
    ∙ ap (λ (p : PendingView). add_hint p.hints c.args.hint) c.self.view_is

pub invariant_of-self-2 : goal.invariant_of-self-2
invariant_of-self-2 c =
    let old = c.self.inside.hints in
    let are : AreWritable c.match-last_mut.self-inside.hints.items = elim c.match-last_mut.branch [
      | in-Some+else-lengthen w ↦ let some : 0 < vec_len old = w.in-Some.ensures.variant.0 refl in
          subst (λ (p : Inside). AreWritable p.hints.items) (sym w.self-inside-is)
          (subst AreWritable (sym (unchanged old.items (vec_len old - 1) w.in-Some.last.now c.args.hint (omega (arith, old.ok.0)) w.in-Some.ensures.value
          w.lengthen.result w.lengthen.ensures.continues w.lengthen.new.run w.lengthen.ensures.joined w.if-lengthen.false)) c.self.invariant)
      | in_default w ↦ subst (λ (p : Inside). AreWritable p.hints.items) (sym w.self-inside-is) c.self.invariant
    ] in
    subst AreWritable (sym c.push_reserved.ensures.items)
    (stay_writable c.match-last_mut.self-inside.hints.items c.args.hint are c.requires.readable c.has_sizes.ensures)

pub returns-clause-hints : goal.returns-clause-hints
returns-clause-hints c =
    let old = c.self.inside.hints in
    c.push_reserved.ensures.items
    ∙ elim c.match-last_mut.branch [
      | in-Some+else-lengthen w ↦ let some : 0 < vec_len old = w.in-Some.ensures.variant.0 refl in
          ap (λ (p : Inside). p.hints.items ++ c.args.hint ∷ []) w.self-inside-is
          ∙ put_behind old.items (vec_len old - 1) w.in-Some.last.now c.args.hint (omega (arith, old.ok.0)) w.in-Some.ensures.value
          w.lengthen.result w.lengthen.ensures.continues w.lengthen.new.run w.lengthen.ensures.joined w.if-lengthen.false
      | in_default w ↦ let none : 0 < vec_len old → ⊥ = λ lt. false≢true (w.in_default.ensures.variant.1 lt) in
          ap (λ (p : Inside). p.hints.items ++ c.args.hint ∷ []) w.self-inside-is ∙ put_first old.items c.args.hint (omega (arith, old.ok.0))
    ]
    ∙ ap (λ (p : PendingView). add_hint p.hints c.args.hint) c.self.view_is
