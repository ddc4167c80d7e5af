use Rattle.std.proofs.Common.{arith}
use Rattle.bt_wire.proofs.FrameLengths.{begins_frame}
use Rattle.bt_connection.proofs.frame.front_of.Goals as goal

pub returns-then-field-bytes : goal.returns-then-field-bytes
returns-then-field-bytes c =
    (_, begins_frame c.args.bytes.now c.number_at-field.result c.number_at-field.ensures (omega arith) (omega (arith, c.if-bytes-lt-LENGTH_LEN.false, c.if-field-bytes.true)))
