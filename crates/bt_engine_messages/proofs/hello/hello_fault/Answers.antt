use Rattle.std.proofs.Common.{rules}
use Rattle.bt_engine_messages.proofs.hello.hello_fault.Goals as goal

pub returns-else-eq : goal.returns-else-eq
returns-else-eq c = search rules
