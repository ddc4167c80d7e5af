use Rattle.std.proofs.Common.{subst}
use Rattle.bt_sockets.specs.Link.{Dials}
use Rattle.bt_sockets.specs.StreamSteps.{IsAddressOf}
use Rattle.bt_sockets.proofs.link.TcpLink.connect.Goals as goal

pub returns-clause-address : goal.returns-clause-address
returns-clause-address g c = subst (λ (d : Dials). IsAddressOf d.host d.port c.in_ok-stream.address) c.self.view_is c.in_ok-stream.ensures
