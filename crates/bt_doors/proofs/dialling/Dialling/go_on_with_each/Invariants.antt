-- How it ended with each stays noted.
use Rattle.std.proofs.Common.{◌≡◌}
use Rattle.bt_doors.proofs.dialling.Dialling.go_on_with_each.Given as goal

abbrev pub invariant-loop-at : goal.invariant-loop-at
invariant-loop-at g l = (l.self.ends ≡ l.initial.self.ends) × (l.self.given ≡ l.initial.self.given)
