use Rattle.bt_connection.proofs.Sendable.{sendable}
use Rattle.bt_connection.proofs.law.given_on_can_be_sent.Goals as goal

pub returns : goal.returns
returns c = sendable
