-- What came so far.
use Rattle.std.proofs.Common.{ℕ, List}
use Rattle.bt_connection.specs.Padded.{padded_state, TakesParts}
use Rattle.bt_connection.proofs.padded.Padded.read_each.Given as goal

abbrev pub invariant-loop : goal.invariant-loop
invariant-loop g l =
    let first = padded_state l.initial.self-inside.inner l.initial.self-inside.direction in
    (came : List ℕ) × TakesParts g.R.Read.remaining first came (padded_state l.self-inside.inner l.self-inside.direction)
