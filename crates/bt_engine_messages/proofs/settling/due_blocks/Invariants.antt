use Rattle.std.proofs.Common.{◌≡◌, ◌-◌}
use Rattle.bt_store.specs.Review.{waiting_blocks}
use Rattle.bt_engine_messages.proofs.settling.due_blocks.Given as goal

abbrev pub invariant-loop-block : goal.invariant-loop-block
invariant-loop-block g l = l.blocks.items ≡ waiting_blocks g.H.NodeHash.digest l.tree l.store.states l.from (l.block - l.from)
