use Rattle.std.proofs.Common.{◌≡◌, ℕ, ◌+◌, ◌<◌, List, [], get_or}
use Rattle.arrayvec.specs.ArrayVec.{array_vec_len}
use Rattle.bt_tree.specs.Peaks.{peaks_of, peak_count}
use Rattle.bt_tree.proofs.peaks.add_all.Given as goal

abbrev pub invariant-loop-digest : goal.invariant-loop-digest
invariant-loop-digest g l = record {
  count : l.count ≡ l.fn.count + l.digest-index;
  size : array_vec_len l.peaks ≡ peak_count 26 l.count;
  peaks : (row : ℕ → List ℕ) → l.fn.peaks.items ≡ peaks_of g.H.NodeHash.digest row l.fn.count
      → ((i : ℕ) → i < l.digest-index → get_or l.digests i [] ≡ row (l.fn.count + i))
      → l.peaks.items ≡ peaks_of g.H.NodeHash.digest row l.count;
}
