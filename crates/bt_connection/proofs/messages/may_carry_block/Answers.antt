use Rattle.std.proofs.Common.{rules}
use Rattle.bt_connection.proofs.messages.may_carry_block.Goals as goal

pub returns-else-part-eq-LENGTH_LEN-clause-answer :
    goal.returns-else-part-eq-LENGTH_LEN-clause-answer
returns-else-part-eq-LENGTH_LEN-clause-answer c = search rules
