-- Private steps: small groups that lie next to each other are adopted by what the reads of all their blocks
-- found.
use Rattle.std.specs.Prelude.{◌≡◌, ℕ, ◌+◌, ◌%◌, ◌^◌, ◌<◌, ◌≤◌, ◌⊎◌, List, Option, None, IfSome, length, map, slice_index_or}
use Rattle.bt_tree.specs.Blocks.{block_at}
use Rattle.bt_disk.specs.Conduct.{Conduct}
use Rattle.bt_disk.specs.Calls.{HasCalls}
use Rattle.bt_sparse.specs.SparseTree.{Facts, blocks_of}
use Rattle.bt_sparse.specs.Anchor.{IsAnchor}
use Rattle.bt_store.specs.BlockReads.{call_of}
use Rattle.bt_store.specs.BatchesSteps.{batch_reads, found_of}
use Rattle.bt_store.specs.Adoption.{Adopts, IsUnknownGroup}
use Rattle.bt_store.specs.SmallGroups.{AdoptsInTurn, StopsAmong}
use Rattle.bt_store.specs.declared.adoption.Adopted.{Adopted}
use Rattle.bt_store.specs.declared.batches.BlockFound.{BlockFound}
use Rattle.bt_store.specs.declared.batches.BlockFound.TheVariants.{Failed}
use Rattle.bt_store.specs.declared.block_states.BlockState.{BlockState}
use Rattle.bt_store.specs.declared.small_groups.AdoptedGroups.{AdoptedGroups}

-- This many blocks from one on, at most eight, are those of whole groups: the nearest held node above each lies
-- in this layer, and covers two blocks or four.
pub record IsBatch (k : Facts) (from anchor count : ℕ) : Type 0 where
  pub few : count ≤ 8
  pub inside : from + count ≤ blocks_of k
  pub small : (anchor ≡ 1) ⊎ (anchor ≡ 2)
  pub nearest : (j : ℕ) → j < count → IsAnchor k (from + j) anchor
  pub starts : 0 < count → from % 2 ^ anchor ≡ 0
  pub ends : (from + count ≡ blocks_of k) ⊎ ((from + count) % 2 ^ anchor ≡ 0)

-- this was found of as many blocks, by reads that gave these counts of bytes, each into its part of a buffer
pub record AreRead (dig : List ℕ → List ℕ) (n first : ℕ) (blocks_found : List BlockFound) (count : ℕ)
    (counts : List (Option ℕ)) (buffer : List ℕ) : Type 0 where
  pub within : (j : ℕ) → j < count
      → IfSome (slice_index_or counts j None) (λ given. given ≤ length (block_at buffer j))
  pub found : (j : ℕ) → j < count → slice_index_or blocks_found j Failed
      ≡ found_of dig n (first + j) (slice_index_or counts j None) (block_at buffer j)

-- some reads found this
abbrev pub ReadSomehow : (List ℕ → List ℕ) → (n first : ℕ) → List BlockFound → ℕ → Type 0
ReadSomehow dig n first blocks_found count =
    (counts : List (Option ℕ)) × (buffer : List ℕ) × AreRead dig n first blocks_found count counts buffer

-- the reads were made, and no other call failed or changed an honest device
pub record IsBatchRead {D : Type 0} (conduct : Conduct D)
    (dig : List ℕ → List ℕ) (n first : ℕ) (blocks_found : List BlockFound) (count : ℕ) (old new : D)
    : Type 0 where
  pub counts : List (Option ℕ)
  pub buffer : List ℕ
  pub are : AreRead dig n first blocks_found count counts buffer
  pub calls : HasCalls conduct
      old (map (call_of n) (batch_reads first counts buffer count)) new

-- what becomes of one group, whichever reads found this of its blocks, and whichever of them is adopted
abbrev pub AdoptsFound : (List ℕ → List ℕ) → (n : ℕ) → Facts → (anchor first count : ℕ) → List BlockState
    → List BlockFound → Adopted → Facts → List BlockState → Type 0
AdoptsFound dig n k anchor first count old blocks_found adopted grown new =
    (from : ℕ) (counts : List (Option ℕ)) (buffer : List ℕ) → IsUnknownGroup k from anchor first count
    → AreRead dig n first blocks_found count counts buffer
    → Adopts dig k from old (batch_reads first counts buffer count) adopted grown new

-- and of groups that lie next to each other
abbrev pub AdoptsBatch : (List ℕ → List ℕ) → (n : ℕ) → Facts → (from count : ℕ) → List BlockState
    → List BlockFound → AdoptedGroups → Facts → List BlockState → Type 0
AdoptsBatch dig n k from count old blocks_found adopted grown new =
    (counts : List (Option ℕ)) (buffer : List ℕ) → AreRead dig n from blocks_found count counts buffer
    → AdoptsInTurn dig k from old (batch_reads from counts buffer count) adopted grown new

-- and where memory is refused
abbrev pub StopsBatch : (List ℕ → List ℕ) → (n : ℕ) → Facts → (from count : ℕ) → List BlockState
    → List BlockFound → Facts → List BlockState → Type 0
StopsBatch dig n k from count old blocks_found grown new =
    (counts : List (Option ℕ)) (buffer : List ℕ) → AreRead dig n from blocks_found count counts buffer
    → StopsAmong dig k from old (batch_reads from counts buffer count) grown new
