use Rattle.std.proofs.Common.{◌∙◌, ap}
use Rattle.bt_disk.specs.Calls.{bytes_written}
use Rattle.bt_disk.specs.MemoryDisk.{history_of}
use Rattle.bt_disk.proofs.Records.{history_push}
use Rattle.bt_disk.proofs.memory_disk.MemoryDiskDisk.write_at.Goals as goal

pub returns-in-Ok-clause-answered : goal.returns-in-Ok-clause-answered
returns-in-Ok-clause-answered c = λ _. rw (← c.self.view_is) (ap history_of c.in-Ok.ensures.ok ∙ history_push c.self.inside.medium (bytes_written c.args.at c.args.bytes.now))
