use Rattle.bt_connection.proofs.WholeRequests.{extended}
use Rattle.bt_connection.proofs.requests.Requests.hold.Goals as goal

pub invariant_of-self : goal.invariant_of-self
invariant_of-self c =
    extended _ _ _ c.extend_from_slice.result c.extend_from_slice.ensures.items c.self.invariant c.if-not-are_requests.ensures
