use Rattle.bt_machine_checks.proofs.AnswerBlocks.{next_marks_right}
use Rattle.bt_machine_checks.proofs.answer_due.next_marks_right_block.Goals as goal

pub returns : goal.returns
returns g c = next_marks_right g.H.NodeHash.digest c.block_ranges_are_places.ensures.place
