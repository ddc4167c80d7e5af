-- Blocks that are recorded, and wait to be read. No public contract cites them.
use Rattle.std.specs.Prelude.{ℕ, ◌-◌, min, is_some, List, filter}
use Rattle.std.specs.List.{range_with_len}
use Rattle.bt_sparse.specs.SparseTree.{Facts, value_at}
use Rattle.bt_engine_start.specs.declared.runs.MarkRun.{MarkRun}

-- of a run, those that lie in a file of this many blocks, and whose leaves are known
abbrev pub known_in_run : (List ℕ → List ℕ) → Facts → (blocks : ℕ) → MarkRun → List ℕ
known_in_run dig k blocks run = filter (λ i. is_some (value_at dig k 0 i))
    (range_with_len run.first (min (run.end - run.first) (blocks - run.first)))
