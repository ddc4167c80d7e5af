-- Private steps: which blocks a review reads, and what comes of each read.
use Rattle.std.specs.Prelude.{◌≡◌, ℕ, zero, suc, ◌+◌, Bool, true, false, ◌&&◌, is_some, if◌then◌else◌, List, filter, slice_set, slice_index_or, Option}
use Rattle.std.specs.List.{range_with_len}
use Rattle.bt_sparse.specs.SparseTree.{Facts, value_at}
use Rattle.bt_store.specs.BlockReads.{BlockRead, is_leaf, right_count, wrong_count, fault_count}
use Rattle.bt_store.specs.Review.{is_waiting_at, is_marked_at}
use Rattle.bt_store.specs.declared.block_states.BlockState.{BlockState}
use Rattle.bt_store.specs.declared.block_states.BlockState.TheVariants.{Missing, Marked}
use Rattle.bt_store.specs.declared.batches.BlockFound.{BlockFound}
use Rattle.bt_store.specs.declared.batches.BlockFound.TheVariants.{Whole, Short, Failed}
use Rattle.bt_store.specs.declared.review.Review.{Review}
use Rattle.bt_store.specs.declared.review.Review.TheVariants.{Waiting as OfWaiting, Marked as OfMarked}
use Rattle.bt_store.specs.declared.review.Verdict.{Verdict}
use Rattle.bt_store.specs.declared.review.Verdict.TheVariants.{Right, Wrong, Fault}
use Rattle.bt_store.specs.declared.review.Tally.{Tally}

abbrev pub forgives : Review → Bool
forgives OfWaiting = false
forgives OfMarked = true

abbrev pub is_chosen : (List ℕ → List ℕ) → Facts → Review → List BlockState → ℕ → Bool
is_chosen dig k OfWaiting states i = is_waiting_at states i && is_some (value_at dig k 0 i)
is_chosen dig k OfMarked states i = is_marked_at states i

-- of this many blocks from one on, those that are read
abbrev pub chosen_blocks : (List ℕ → List ℕ) → Facts → Review → List BlockState → (from count : ℕ) → List ℕ
chosen_blocks dig k review states from count =
    filter (is_chosen dig k review states) (range_with_len from count)

abbrev pub verdict_of : Option (List ℕ) → BlockFound → Verdict
verdict_of leaf (Whole digest) = if is_leaf leaf digest then Right else Wrong
verdict_of leaf Short = Wrong
verdict_of leaf Failed = Fault

abbrev pub after_verdict : (forgiving : Bool) → ℕ → Verdict → List BlockState → List BlockState
after_verdict forgiving i Right states = slice_set states i Marked
after_verdict forgiving i Wrong states = slice_set states i Missing
after_verdict forgiving i Fault states = if forgiving then states else slice_set states i Missing

-- what the read of block `first + j` came to
abbrev pub verdict_at : (List ℕ → List ℕ) → Facts → ℕ → List BlockFound → ℕ → Verdict
verdict_at dig k first blocks_found j =
    verdict_of (value_at dig k 0 (first + j)) (slice_index_or blocks_found j Failed)

-- the states after this many reads, from block `first` on
unfoldable pub judged_found : (List ℕ → List ℕ) → Facts → Bool → ℕ → List BlockFound → ℕ → List BlockState
    → List BlockState
judged_found dig k forgiving first blocks_found zero states = states
judged_found dig k forgiving first blocks_found (suc j) states =
    after_verdict forgiving (first + j) (verdict_at dig k first blocks_found j)
    (judged_found dig k forgiving first blocks_found j states)

abbrev pub no_reads : Tally
no_reads = record { right = 0; wrong = 0; faults = 0 }

abbrev pub added : Verdict → Tally → Tally
added Right tally = record tally { right = tally.right + 1 }
added Wrong tally = record tally { wrong = tally.wrong + 1 }
added Fault tally = record tally { faults = tally.faults + 1 }

-- how many of this many reads came to each verdict
unfoldable pub tally_of : (List ℕ → List ℕ) → Facts → ℕ → List BlockFound → ℕ → Tally
tally_of dig k first blocks_found zero = no_reads
tally_of dig k first blocks_found (suc j) =
    added (verdict_at dig k first blocks_found j) (tally_of dig k first blocks_found j)

abbrev pub tally_sum : Tally → ℕ
tally_sum tally = tally.right + tally.wrong + tally.faults

-- this many reads gave right bytes, wrong ones, and none
pub record IsTallyOf (dig : List ℕ → List ℕ) (k : Facts) (reads : List BlockRead) (tally : Tally)
    : Type 0 where
  pub right : tally.right ≡ right_count dig k reads
  pub wrong : tally.wrong ≡ wrong_count dig k reads
  pub faults : tally.faults ≡ fault_count reads
