use Rattle.bt_meta.proofs.Base.{arith, refl, err_from_is_err_and}
use Rattle.bt_meta.proofs.FileLayers.{one_more, next_short, next_refused, whole_at_end, faultless_at_end}
use Rattle.bt_meta.proofs.RootLengths.{none_right}
use Rattle.bt_meta.proofs.layers.add_layers_of.Goals as goal

pub loop-file-init : goal.loop-file-init
loop-file-init c = (record { short = c.requires.short; whole = refl; faults = refl }, none_right _ _ c.new-right.result c.new-right.ensures.empty)

pub add_layer-requires-clause-short : goal.add_layer-requires-clause-short
add_layer-requires-clause-short c = next_short c.loop-file.invariant.0 _ (omega arith)

pub returns-in_err-add_layer-clause-refused : goal.returns-in_err-add_layer-clause-refused
returns-in_err-add_layer-clause-refused c =
    let q = err_from_is_err_and c.from_residual.result c.from_residual.ensures.1 in
    rw (q.1, q.2) (next_refused c.loop-file.invariant.0 _ (omega arith) c.in_err-add_layer.ensures.refused)

pub loop-file-preserved : goal.loop-file-preserved
loop-file-preserved c = (one_more c.loop-file.invariant.0 _ (omega arith) _ c.in_ok-add_layer.ensures.whole c.in_ok-add_layer.ensures.faultless, c.in_ok-add_layer.ensures.right)

pub returns-clause-whole : goal.returns-clause-whole
returns-clause-whole c = whole_at_end c.loop-file.invariant.0 (omega arith)

pub returns-clause-faultless : goal.returns-clause-faultless
returns-clause-faultless c = faultless_at_end c.loop-file.invariant.0 (omega arith)
