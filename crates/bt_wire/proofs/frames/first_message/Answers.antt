use Rattle.std.proofs.Common.{arith}
use Rattle.bt_wire.proofs.FrameLengths.{four_up, begins_message}
use Rattle.bt_wire.proofs.frames.first_message.Goals as goal

pub returns-clause-some : goal.returns-clause-some
returns-clause-some c = omega (arith, four_up c.args.bytes.now, c.message_len-len.ensures.value)

pub returns-clause-whole : goal.returns-clause-whole
returns-clause-whole c =
    begins_message c.args.bytes.now c.message_len-len.result c.message_len-len.ensures.value c.message_len-len.ensures.field (omega arith)

pub returns-then-bytes-len-clause-part : goal.returns-then-bytes-len-clause-part
returns-then-bytes-len-clause-part c = λ long. omega (arith, c.message_len-len.ensures.value)
