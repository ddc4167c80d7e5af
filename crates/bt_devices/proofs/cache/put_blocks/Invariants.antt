use Rattle.std.proofs.Common.{◌≡◌, ℕ, ◌<◌, List, [], Bor, map, get_or}
use Rattle.bt_tree.specs.Blocks.{block_at}
use Rattle.bt_devices.proofs.cache.put_blocks.Given as goal

abbrev pub invariant-loop-j : goal.invariant-loop-j
invariant-loop-j l = (t : ℕ) → t < l.j → block_at l.run t ≡ get_or (map (λ (block : Bor (List ℕ)). block.now) l.blocks) t []
