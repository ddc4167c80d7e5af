use Rattle.bt_meta.proofs.Base.{arith, sym, nat_tests}
use Rattle.bt_meta.proofs.EncodeValue.{layers_of_new}
use Rattle.bt_meta.proofs.encode.add_layer.Goals as goal

pub returns : goal.returns
returns c files h =
    layers_of_new _ _ files c.args.layers.now h c.insert.new.self _
    (grind (arith, nat_tests)) (sym c.if-contains_key.ensures) c.as_slice.ensures.value
    c.in_ok-insert.ensures.updates.0
