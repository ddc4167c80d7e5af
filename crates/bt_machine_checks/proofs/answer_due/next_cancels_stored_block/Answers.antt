use Rattle.bt_machine_checks.proofs.AnswerCancels.{next_cancels}
use Rattle.bt_machine_checks.proofs.answer_due.next_cancels_stored_block.Goals as goal

pub returns : goal.returns
returns g c = next_cancels g.H.NodeHash.digest c.block_ranges_are_places.ensures.place
