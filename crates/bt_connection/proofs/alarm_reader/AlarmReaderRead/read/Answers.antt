use Rattle.std.proofs.Common.{rules}
use Rattle.bt_connection.proofs.alarm_reader.AlarmReaderRead.read.Goals as goal

pub returns-clause-bytes : goal.returns-clause-bytes
returns-clause-bytes g c = search rules
