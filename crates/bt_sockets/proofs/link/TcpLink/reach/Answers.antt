use Rattle.std.proofs.Common.{◌+◌, ap}
use Rattle.bt_sockets.specs.Link.{Dials}
use Rattle.bt_sockets.proofs.link.TcpLink.reach.Goals as goal

pub returns-in-Err-clause-failed : goal.returns-in-Err-clause-failed
returns-in-Err-clause-failed g c = ap (λ (d : Dials). d.failed + 1) c.self.view_is
