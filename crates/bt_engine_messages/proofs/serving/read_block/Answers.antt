use Rattle.bt_engine_messages.proofs.SpanReads.{read_right, read_damaged, read_failed}
use Rattle.bt_engine_messages.proofs.serving.read_block.Goals as goal

pub returns-in-Ok-clause-right : goal.returns-in-Ok-clause-right
returns-in-Ok-clause-right g c = read_right c.requires.geometry c.in-Ok.ensures.lent

pub returns-in-Err-Damaged-clause-wrong : goal.returns-in-Err-Damaged-clause-wrong
returns-in-Err-Damaged-clause-wrong g c = read_damaged c.requires.geometry (rw c.in-Err-Damaged.field-0-is at c.in-Err-Damaged.ensures.lent)

pub returns-in-Err-Device-clause-wrong : goal.returns-in-Err-Device-clause-wrong
returns-in-Err-Device-clause-wrong g c = read_failed c.requires.geometry (rw c.in-Err-Device.field-0-is at c.in-Err-Device.ensures.lent)
