-- Private step: what the read of one block comes to.
use Rattle.std.specs.Prelude.{ℕ, List, take}
use Rattle.bt_tree.specs.Blocks.{block_length}
use Rattle.bt_sparse.specs.SparseTree.{Facts}
use Rattle.bt_store.specs.BlockReads.{BlockRead, given, failed, IsRight}
use Rattle.bt_store.specs.declared.review.Verdict.{Verdict}
use Rattle.bt_store.specs.declared.review.Verdict.TheVariants.{Right, Wrong, Fault}

-- the read, whose bytes `out` begins with, and the verdict
pub data ComesTo (dig : List ℕ → List ℕ) (k : Facts) (i : ℕ) (out : List ℕ)
    : BlockRead → Verdict → Type 0 where
  right : IsRight dig k i (take (block_length k.file_length i) out)
      → ComesTo dig k i out (given i (take (block_length k.file_length i) out)) Right
  wrong : (bytes : List ℕ) → ¬ IsRight dig k i bytes → ComesTo dig k i out (given i bytes) Wrong
  fault : ComesTo dig k i out (failed i) Fault
