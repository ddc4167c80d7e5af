use Rattle.std.proofs.Common.{refl, inl, inr}
use Rattle.bt_sockets.proofs.Hosts.{no_address}
use Rattle.bt_sockets.proofs.stream.text_of.Goals as goal

pub returns-in-Ok : goal.returns-in-Ok
returns-in-Ok c = inl (c.in-Ok.field-0, c.in-Ok.ensures.value, c.in-Some.ensures)

pub returns-in-Err : goal.returns-in-Err
returns-in-Err c = no_address c.args.host.now c.in-Some.text.now c.in-Some.ensures c.in-Err.ensures.value

pub returns-in-None : goal.returns-in-None
returns-in-None c = inr (λ inner a spelled. c.in-None.ensures inner, refl)
