use Rattle.std.proofs.lemmas.Bool.{eqb-true, eq-eqb}
use Rattle.bt_engine_state.proofs.Comparisons.{nothing_from_marks, marks_from_nothing}
use Rattle.bt_engine_state.proofs.comparison.adds_nothing.Goals as goal

pub returns : goal.returns
returns c = (
  λ equal. nothing_from_marks c.args.at c.args.own.now c.args.other.now c.requires.own c.requires.other (eqb-true _ 0 equal),
  λ nothing. eq-eqb _ 0 (marks_from_nothing c.args.at c.args.own.now c.args.other.now c.requires.own c.requires.other
      (λ i. (c.type_inv.own i).fits) nothing),
)
