-- The peers so far have their addresses.
use Rattle.std.proofs.Common.{◌≡◌, length}
use Rattle.bt_transfer.proofs.command.fetch_together.addresses_of.Given as goal

abbrev pub invariant-loop-peer : goal.invariant-loop-peer
invariant-loop-peer l = length l.addresses.items ≡ l.peer-index
