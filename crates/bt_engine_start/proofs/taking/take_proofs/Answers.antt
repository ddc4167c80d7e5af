use Rattle.std.proofs.Common.{◌∷◌, refl, sym, ap, ◌∙◌, subst}
use Rattle.bt_resume.specs.LogText.{hints_in}
use Rattle.bt_resume.specs.LentHint.{hint_of}
use Rattle.bt_engine_start.specs.Taking.{TakeFirstHints}
use Rattle.bt_engine_start.proofs.Takings.{if_err, taken_none, taken_proof, taken_marks, taken_some, taken_all}
use Rattle.bt_engine_start.proofs.taking.take_proofs.Goals as goal

pub loop-hint-init : goal.loop-hint-init
loop-hint-init g c = record {
  can = tt;
  finite = tt;
  roots = refl;
  lengths = refl;
  taken = taken_none g.H.NodeHash.digest (hints_in c.args.hints.now) c.into_iter-hint-iterator.result c.args.trees.now c.args.trees.now
      (c.into_iter-hint-iterator.ensures.into_iter_gives ∙ c.iter-hint-items.ensures);
}

pub loop-hint-preserved-in-Continue-1 : goal.loop-hint-preserved-in-Continue-1
loop-hint-preserved-in-Continue-1 g c = record {
  can = tt;
  finite = tt;
  roots = c.in_ok-take_proof.ensures.roots ∙ c.loop-hint.invariant.roots;
  lengths = c.in_ok-take_proof.ensures.lengths ∙ c.loop-hint.invariant.lengths;
  taken = taken_proof g.H.NodeHash.digest (hints_in c.args.hints.now) c.next.new.self c.args.trees.now c.loop-hint.trees c.take_proof.new.trees c.loop-hint.hint-iterator
      c.in-Proof.key c.in-Proof.digests.now (c.in-Some.ensures.steps ∙ ap (λ hint. hint_of hint ∷ c.next.new.self) c.in-Proof.is) c.loop-hint.invariant.taken
      c.in_ok-take_proof.ensures.taken;
}

pub loop-hint-preserved : goal.loop-hint-preserved
loop-hint-preserved g c = record {
  can = tt;
  finite = tt;
  roots = c.loop-hint.invariant.roots;
  lengths = c.loop-hint.invariant.lengths;
  taken = taken_marks g.H.NodeHash.digest (hints_in c.args.hints.now) c.next.new.self c.args.trees.now c.loop-hint.trees c.loop-hint.hint-iterator
      c.in_default.field-0 c.in_default.field-1 c.in_default.field-2 (c.in-Some.ensures.steps ∙ ap (λ hint. hint_of hint ∷ c.next.new.self) c.in_default.is)
      c.loop-hint.invariant.taken;
}

pub returns-in_err-take_proof-clause-refused : goal.returns-in_err-take_proof-clause-refused
returns-in_err-take_proof-clause-refused g c =
    let dig = g.H.NodeHash.digest in
    let trees = c.args.trees.now in
    let all = hints_in c.args.hints.now in
    let before =
    taken_some dig all c.loop-hint.hint-iterator trees c.loop-hint.trees c.loop-hint.invariant.roots c.loop-hint.invariant.taken c.in-Some.ensures.steps in
    if_err c.from_residual.result
    (subst (λ now. TakeFirstHints dig all trees now) (sym c.in_err-take_proof.ensures.refused) before)

pub returns-clause-taken : goal.returns-clause-taken
returns-clause-taken g c =
    taken_all g.H.NodeHash.digest (hints_in c.args.hints.now) c.loop-hint.hint-iterator c.args.trees.now c.loop-hint.trees c.loop-hint.invariant.roots
    c.in-None.ensures.steps.0 c.loop-hint.invariant.taken
