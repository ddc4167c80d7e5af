use Rattle.std.proofs.Common.{rules}
use Rattle.bt_wire.proofs.writer.write_message.Goals as goal

pub returns-in-Cancel : goal.returns-in-Cancel
returns-in-Cancel c = search rules
