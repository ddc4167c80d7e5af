use Rattle.bt_meta.proofs.PieceBlocks.{is_place, is_range}
use Rattle.bt_meta.proofs.law.block_ranges_are_places.Goals as goal

pub returns : goal.returns
returns c = record { place = is_place; range = is_range }
