use Rattle.bt_wire.proofs.Hellos.{begins_hello}
use Rattle.bt_wire.proofs.front.first_handshake.Goals as goal

pub returns-clause-hello : goal.returns-clause-hello
returns-clause-hello c =
    begins_hello c.args.unread.now _ c.if-unread-lt-HANDSHAKE_LEN.false (λ shown. let yes = c.shows_bad_protocol.ensures.1 shown in cc)
    c.copy_from_slice.ensures.after c.copy_from_slice-2.ensures.after
