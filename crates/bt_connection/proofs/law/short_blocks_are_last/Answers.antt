use Rattle.bt_connection.proofs.LastBlocks.{short_blocks_are}
use Rattle.bt_connection.proofs.law.short_blocks_are_last.Goals as goal

pub returns : goal.returns
returns c = short_blocks_are
