use Rattle.std.proofs.Common.{◌≡◌, true, map, replicate, take}
use Rattle.bt_book.proofs.block_set.BlockSet.full.Given as goal

abbrev pub invariant-loop-count : goal.invariant-loop-count
invariant-loop-count l = l.files.items ≡ map (λ n. replicate n true) (take l.count-index l.blocks)
