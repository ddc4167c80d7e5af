use Rattle.bt_machine.proofs.Changes.{new_marked_blocks_are, new_whole_pieces_are, haves_are, new_complete_files_are}
use Rattle.bt_machine.proofs.law.news_is_of_changes.Goals as goal

pub returns : goal.returns
returns c = record {
  marked = new_marked_blocks_are;
  whole = new_whole_pieces_are;
  announced = haves_are;
  complete = new_complete_files_are;
}
