use Rattle.bt_meta.proofs.PieceBlocks.{has_piece}
use Rattle.bt_engine_state.proofs.block_change.piece_of.Goals as goal

pub returns-clause-inside : goal.returns-clause-inside
returns-clause-inside c =
    has_piece c.args.torrent.now c.args.block.file c.args.block.block c.in-Some.range c.keeps_laws.ensures.piece c.keeps_laws.ensures.laid_out
    c.in-Some.ensures.value
