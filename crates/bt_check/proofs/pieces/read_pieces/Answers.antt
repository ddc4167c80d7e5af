use Rattle.std.proofs.Common.{[], arith, refl}
use Rattle.std.proofs.lemmas.List.{get_or-replicate}
use Rattle.bt_tree.specs.Blocks.{block_count}
use Rattle.bt_check.proofs.PiecesNode.{real_index}
use Rattle.bt_check.proofs.PieceRuns.{eight_there, one_piece}
use Rattle.bt_check.proofs.pieces.read_pieces.Goals as goal

pub returns-then-rest : goal.returns-then-rest
returns-then-rest g c = eight_there c.read_eight.result _ _ c.args.geometry c.args.size.layer c.args.index (omega (arith, c.requires.rest)) c.read_eight.ensures

pub read_piece-requires-clause-real : goal.read_piece-requires-clause-real
read_piece-requires-clause-real g c =
    real_index (block_count c.args.geometry) c.args.size.layer c.args.index (omega (arith, c.requires.rest, c.requires.some))

pub read_piece-requires-clause-size : goal.read_piece-requires-clause-size
read_piece-requires-clause-size g c = omega (arith, c.min-bytes.ensures, c.args.size.of_layer, c.requires.rest)

pub returns : goal.returns
returns g c =
    one_piece _ _ c.args.geometry c.args.size.layer c.args.index c.args.rest c.min-bytes.result c.args.size.bytes c.in-Some.digest _ c.requires.some c.requires.rest
    c.args.size.of_layer (omega (arith, c.min-bytes.ensures, c.args.size.of_layer, c.requires.rest)) (get_or-replicate 8 0 c.in-Some.digest [] (omega arith)) refl refl
    (rw c.in-Some.is at c.in_ok-digest.ensures.node)
