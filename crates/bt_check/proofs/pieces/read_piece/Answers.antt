use Rattle.std.proofs.Common.{ap, ◌^◌}
use Rattle.std.proofs.lemmas.Nat.{pow_pos}
use Rattle.bt_tree.specs.Blocks.{block_count}
use Rattle.bt_tree.specs.RootBuilder.{BuilderState}
use Rattle.bt_tree.proofs.TreeShape.{real_lt}
use Rattle.bt_check.proofs.PiecesNode.{covers, piece_covers}
use Rattle.bt_check.proofs.pieces.read_piece.Goals as goal

pub for_node-builder-requires : goal.for_node-builder-requires
for_node-builder-requires g c = covers (block_count c.args.geometry) c.args.layer c.args.index c.requires.inside c.requires.real

pub read_node-requires-clause-all : goal.read_node-requires-clause-all
read_node-requires-clause-all g c =
    let place = c.for_node-builder.ensures.state in
    piece_covers c.args.geometry c.args.layer c.args.index c.args.size c.for_node-builder.result (ap (λ (b : BuilderState). b.file_length) place)
    (ap (λ (b : BuilderState). b.layer) place) (ap (λ (b : BuilderState). b.index) place)
    (real_lt (block_count c.args.geometry) (2 ^ c.args.layer) c.args.index (pow_pos c.args.layer) c.requires.real) c.requires.size
