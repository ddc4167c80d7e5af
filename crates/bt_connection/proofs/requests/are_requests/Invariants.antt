-- What was passed are requests.
use Rattle.std.proofs.Common.{◌≡◌, List, ℕ, ◌++◌, length}
use Rattle.bt_connection.specs.Requests.{AreRequests}
use Rattle.bt_connection.proofs.requests.are_requests.Given as goal

abbrev pub invariant-requests : goal.invariant-requests
invariant-requests l = (before : List ℕ) × AreRequests before × (l.bytes ≡ before ++ l.rest)

abbrev pub decreases-requests : goal.decreases-requests
decreases-requests l = length l.rest
