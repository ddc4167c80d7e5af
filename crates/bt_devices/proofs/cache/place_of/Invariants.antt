use Rattle.std.proofs.Common.{◌≢◌, ℕ, ◌<◌}
use Rattle.bt_tree.specs.Blocks.{block_at}
use Rattle.bt_devices.proofs.cache.place_of.Given as goal

abbrev pub invariant-loop-j : goal.invariant-loop-j
invariant-loop-j l = (t : ℕ) → t < l.j → block_at l.run t ≢ l.block
