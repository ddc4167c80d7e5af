use Rattle.std.proofs.Common.{ap, ◌*◌, ◌^◌, ◌<◌, refl, arith}
use Rattle.bt_tree.specs.RootBuilder.{BuilderState}
use Rattle.bt_check.proofs.DigestFile.{root_covers, layer_inside, layer_sized, long_file}
use Rattle.bt_check.proofs.digests.digest_file.Goals as goal

pub read_node-requires-clause-all : goal.read_node-requires-clause-all
read_node-requires-clause-all g c =
    let place = c.new-builder.ensures.state in
    rw c.length-then-length-size.ensures.value (root_covers c.args.geometry c.new-builder.result (ap (λ (b : BuilderState). b.file_length) place)
    (ap (λ (b : BuilderState). b.layer) place) (ap (λ (b : BuilderState). b.index) place))

pub read_layer-requires : goal.read_layer-requires
read_layer-requires g c =
    layer_inside c.args.geometry c.args.size.layer (omega (arith, c.if-length-size.false, c.length.ensures.value, c.args.size.of_layer))

pub layer_root-root-requires : goal.layer_root-root-requires
layer_root-root-requires g c =
    let long : 16384 * 2 ^ c.args.size.layer < c.args.geometry = omega (arith, c.if-length-size.false, c.length.ensures.value, c.args.size.of_layer) in
    rw c.as_slice.ensures.value (layer_sized _ _ c.args.geometry c.args.size.layer c.in_ok-layer.layer.items long c.in_ok-layer.ensures.given)

pub returns-clause-given : goal.returns-clause-given
returns-clause-given g c =
    let long : 16384 * 2 ^ c.args.size.layer < c.args.geometry = omega (arith, c.if-length-size.false, c.length.ensures.value, c.args.size.of_layer) in
    long_file _ _ c.args.geometry c.args.size.layer c.in_ok-layer.layer.items c.layer_root-root.result _ long
    c.in_ok-layer.ensures.given (rw c.as_slice.ensures.value at c.layer_root-root.ensures) refl refl
