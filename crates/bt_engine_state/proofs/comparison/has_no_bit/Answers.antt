use Rattle.std.proofs.lemmas.Bool.{eqb-true, eq-eqb}
use Rattle.bt_engine_state.proofs.Comparisons.{no_bit_from_marks, marks_from_no_bit}
use Rattle.bt_engine_state.proofs.comparison.has_no_bit.Goals as goal

pub returns : goal.returns
returns c = (
  λ equal. no_bit_from_marks c.args.at c.args.bytes.now c.requires (eqb-true _ 0 equal),
  λ none. eq-eqb _ 0 (marks_from_no_bit c.args.at c.args.bytes.now c.requires (λ i. (c.type_inv.bytes i).fits) none),
)
