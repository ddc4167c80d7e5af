use Rattle.bt_wire.proofs.Fronts.{lawful_size, has_frame}
use Rattle.bt_wire.proofs.Takings.{err_of}
use Rattle.bt_wire.proofs.front.read_frame.Goals as goal

pub read_message-requires : goal.read_message-requires
read_message-requires c = lawful_size c.args.frame.now c.requires c.if-frame-le-LENGTH_LEN.false

pub returns-in_err-message-clause-refused : goal.returns-in_err-message-clause-refused
returns-in_err-message-clause-refused c =
    err_of c.from_residual.result (has_frame c.args.frame.now c.requires c.if-frame-le-LENGTH_LEN.false c.in_err-message.ensures.refused)
