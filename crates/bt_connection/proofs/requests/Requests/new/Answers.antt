use Rattle.bt_connection.proofs.WholeRequests.{none}
use Rattle.bt_connection.proofs.requests.Requests.new.Goals as goal

pub invariant_of-result : goal.invariant_of-result
invariant_of-result c = none _ c.in_ok-with_capacity.ensures.items
