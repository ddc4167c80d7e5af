use Rattle.bt_meta.proofs.PieceBlocks.{lies_in_piece, begins_behind, run_has, has_piece}
use Rattle.bt_meta.proofs.law.blocks_and_ranges_agree.Goals as goal

pub returns : goal.returns
returns c = record {
  in_piece = lies_in_piece;
  behind = begins_behind;
  has_block = λ torrent piece file block run r o. run_has torrent piece run r file block o;
  has_piece = has_piece;
}
