use Rattle.bt_connection.proofs.WholeRequests.{found}
use Rattle.bt_connection.proofs.requests.begins_request.Goals as goal

pub returns-clause-request : goal.returns-clause-request
returns-clause-request c = rw c.is_some.ensures (found _ c.read_request.result c.read_request.ensures.some)
