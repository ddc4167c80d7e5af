-- Runs of a file, told by several parts, and what they come to together.
use Rattle.std.specs.Prelude.{◌≡◌, ◌≢◌, ⊤, ℕ, ◌-◌, Bool, List, [], ◌∷◌, sum_by}
use Rattle.std.specs.List.{All, count_by, list_any, range_with_len}
use Rattle.bt_check.specs.declared.data_file.Finding.{Finding}
use Rattle.bt_parts.specs.Run.{IsWithin, is_fault, is_longer}
use Rattle.bt_parts.specs.declared.run.Run.{Run}

-- In a file of `blocks` blocks each run begins where the one before it ends: the first at block `at`, and the last ends
-- before block `reached`. So none of the blocks from `at` on to there is left out, or counted twice.
pub data IsChain (blocks : ℕ) : (at : ℕ) → List Run → (reached : ℕ) → Type 0 where
  none : (at : ℕ) → IsChain blocks at [] at
  more : (at : ℕ) (run : Run) (rest : List Run) (reached : ℕ) → run.from ≡ at → IsWithin blocks run
      → IsChain blocks run.to rest reached → IsChain blocks at (run ∷ rest) reached

-- the first of these runs, where there is one, is none of the file's
abbrev pub BeginsElsewhere : ℕ → List Run → Type 0
BeginsElsewhere file [] = ⊤
BeginsElsewhere file (run ∷ rest) = run.file ≢ file

-- how many blocks are right, by some runs
abbrev pub marked_in : List Run → ℕ
marked_in runs = sum_by (λ run. run.marked) runs

-- The runs, of which there is one at least, are those of all blocks of a file, and the finding is what they come to.
pub record IsJoined (file blocks : ℕ) (runs : List Run) (finding : Finding) : Type 0 where
  pub some : runs ≢ []
  pub own : All (λ run. run.file ≡ file) runs
  pub whole : IsChain blocks 0 runs blocks
  pub blocks_are : finding.blocks ≡ blocks
  pub marked : finding.marked ≡ marked_in runs
  pub longer : finding.longer ≡ list_any (λ run. is_longer run.met) runs
  pub faulty : finding.faulty ≡ list_any (λ run. is_fault run.met) runs

-- A run says how many of its blocks pass a test.
abbrev pub IsCountOf : (ℕ → Bool) → Run → Type 0
IsCountOf is_right run = run.marked ≡ count_by is_right (range_with_len run.from (run.to - run.from))

-- Where each part counted the blocks that pass one test, the sum over all runs is the count over all blocks
-- from the first on to the last, as those of a whole file.
abbrev pub SumsAreWhole : Type 0
SumsAreWhole = (is_right : ℕ → Bool) (blocks at reached : ℕ) (runs : List Run)
    → IsChain blocks at runs reached → All (IsCountOf is_right) runs
    → marked_in runs ≡ count_by is_right (range_with_len at (reached - at))
