use Rattle.bt_connection.proofs.WholeRequests.{none}
use Rattle.bt_connection.proofs.requests.RequestsRenew.renew.Goals as goal

pub invariant_of-self : goal.invariant_of-self
invariant_of-self c = none _ c.clear.ensures.items
