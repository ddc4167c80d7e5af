use Rattle.std.proofs.Common.{◌≡◌, ℕ, ◌+◌, List, length}
use Rattle.arrayvec.specs.ArrayVec.{array_vec_len}
use Rattle.bt_tree.specs.Blocks.{block_count}
use Rattle.bt_tree.specs.Peaks.{peak_count}
use Rattle.bt_tree.specs.RootBuilder.{IsBlocksOf, file_peaks}
use Rattle.bt_tree.proofs.root_builder.push_blocks.Given as goal

abbrev pub invariant-eights : goal.invariant-eights
invariant-eights g l = record {
  count : l.count + block_count (length l.rest) ≡ l.fn.count + block_count (length l.run);
  size : array_vec_len l.peaks ≡ peak_count 26 l.count;
  peaks : (file : List ℕ) (first : ℕ) → l.fn.peaks.items ≡ file_peaks g.H.NodeHash.digest file first l.fn.count
      → IsBlocksOf file (first + l.fn.count) l.run
      → IsBlocksOf file (first + l.count) l.rest × (l.peaks.items ≡ file_peaks g.H.NodeHash.digest file first l.count);
}

abbrev pub decreases-eights : goal.decreases-eights
decreases-eights g l = length l.rest
