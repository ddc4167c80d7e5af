use Rattle.bt_wire.proofs.FrameLengths.{length_of, field_of}
use Rattle.bt_wire.proofs.frames.message_len.Goals as goal

pub returns-clause-value : goal.returns-clause-value
returns-clause-value c = length_of c.args.bytes.now c.number_at.result c.number_at.type_inv c.number_at.ensures

pub returns-clause-field : goal.returns-clause-field
returns-clause-field c = field_of c.args.bytes.now c.number_at.result c.number_at.type_inv c.number_at.ensures
