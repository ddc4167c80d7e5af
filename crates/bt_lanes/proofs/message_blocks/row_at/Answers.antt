use Rattle.bt_lanes.proofs.Rows.{row_word}
use Rattle.bt_lanes.proofs.message_blocks.row_at.Goals as goal

pub returns : goal.returns
returns c = row_word c.args.message.now c.args.at c.type_inv.message
