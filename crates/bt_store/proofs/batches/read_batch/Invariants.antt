use Rattle.std.proofs.Common.{◌≡◌, ℕ, ◌+◌, ◌<◌, ◌≤◌, None, IfSome, length, map, slice_index_or}
use Rattle.bt_tree.specs.Blocks.{block_length}
use Rattle.bt_disk.specs.Calls.{HasCalls}
use Rattle.bt_store.specs.BlockReads.{call_of}
use Rattle.bt_store.specs.BatchesSteps.{batch_reads}
use Rattle.bt_store.proofs.batches.read_batch.Given as goal

abbrev pub invariant-loop-j : goal.invariant-loop-j
invariant-loop-j g l = record {
  size : length l.lengths ≡ 8;
  within : (t : ℕ) → t < l.j → IfSome (slice_index_or l.lengths t None) (λ given. given ≤ block_length l.geometry (l.first + t));
  calls : HasCalls g.D.Disk.conduct
      l.fn.disk (map (call_of l.geometry) (batch_reads l.first l.lengths l.buffer l.j)) l.disk;
}
