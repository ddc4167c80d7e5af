use Rattle.std.proofs.Common.{◌≡◌, ℕ, ◌+◌, ◌<◌, None, length, slice_index_or}
use Rattle.bt_tree.specs.Blocks.{block_at}
use Rattle.bt_store.specs.BatchesSteps.{found_of}
use Rattle.bt_store.specs.declared.batches.BlockFound.TheVariants.{Failed}
use Rattle.bt_store.proofs.batches.digest_batch.Given as goal

abbrev pub invariant-loop-j : goal.invariant-loop-j
invariant-loop-j g l = record {
  size : length l.blocks_found ≡ 8;
  below : (t : ℕ) → t < l.j → slice_index_or l.blocks_found t Failed
      ≡ found_of g.H.NodeHash.digest l.geometry (l.first + t) (slice_index_or l.lengths t None) (block_at l.buffer t);
}
