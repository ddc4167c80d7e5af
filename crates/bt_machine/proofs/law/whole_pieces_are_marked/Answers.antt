use Rattle.bt_machine.proofs.Changes.{piece_is_whole, run_is_whole}
use Rattle.bt_machine.proofs.law.whole_pieces_are_marked.Goals as goal

pub returns : goal.returns
returns c = record {
  blocks = piece_is_whole;
  run = run_is_whole c.blocks_and_ranges_agree.ensures.in_piece c.blocks_and_ranges_agree.ensures.has_block;
}
