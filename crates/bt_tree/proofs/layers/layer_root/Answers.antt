use Rattle.std.proofs.Common.{rules, ◌≡◌, ◌-◌, ◌^◌, ap, sym, arith}
use Rattle.bt_tree.specs.Blocks.{block_count}
use Rattle.bt_tree.specs.TreeShape.{height_of}
use Rattle.bt_tree.proofs.TreeShape.{real_limit}
use Rattle.bt_tree.proofs.layers.layer_root.Goals as goal

pub fold-requires-clause-within : goal.fold-requires-clause-within
fold-requires-clause-within g c =
    let n = block_count c.args.geometry in
    let same : 2 ^ (height_of n - c.args.layer) ≡ 2 ^ (c.height-height.result - c.args.layer) =
    ap (λ h. 2 ^ (h - c.args.layer)) (sym c.height-height.ensures.value) in
    omega (arith, c.as_chunks.ensures.front_len, c.requires.size, real_limit n c.args.layer c.requires.inside, same)

pub fold-requires-clause-pads : goal.fold-requires-clause-pads
fold-requires-clause-pads g c = search rules
