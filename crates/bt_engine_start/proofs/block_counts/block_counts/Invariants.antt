use Rattle.std.proofs.Common.{◌≡◌, map, take}
use Rattle.bt_tree.specs.Blocks.{block_count}
use Rattle.bt_engine_start.proofs.block_counts.block_counts.Given as goal

abbrev pub invariant-loop-file : goal.invariant-loop-file
invariant-loop-file l = l.counts.items ≡ map (λ file. block_count file.length) (take l.file-index l.files)
