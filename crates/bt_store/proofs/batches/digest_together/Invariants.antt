use Rattle.std.proofs.Common.{◌≡◌, ℕ, ◌<◌, [], length, None, Some, slice_index_or}
use Rattle.bt_store.proofs.batches.digest_together.Given as goal

abbrev pub invariant-loop-j : goal.invariant-loop-j
invariant-loop-j g l = record {
  size : length l.together ≡ 8;
  below : (t : ℕ) → t < l.j → slice_index_or l.together t None ≡ Some (slice_index_or l.digests t []);
}
