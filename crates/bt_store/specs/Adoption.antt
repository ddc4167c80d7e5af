-- What a device has already is taken in, group by group.
use Rattle.std.specs.Prelude.{◌≡◌, ◌≢◌, ℕ, zero, suc, ◌+◌, ◌-◌, ◌*◌, ◌/◌, ◌^◌, ◌<◌, ◌≤◌, ◌⊎◌, ◌==◌, min, Bool, true, false, if◌then◌else◌, List, [], ◌++◌, map, length, replicate, slice_set, IsSome, None}
use Rattle.std.specs.List.{count_by, range_with_len}
use Rattle.bt_tree.specs.Blocks.{block_length}
use Rattle.bt_tree.specs.Tree.{padding_digest}
use Rattle.bt_disk.specs.Conduct.{Conduct}
use Rattle.bt_disk.specs.Calls.{HasCalls}
use Rattle.bt_sparse.specs.SparseTree.{Facts, blocks_of, value_at}
use Rattle.bt_sparse.specs.Anchor.{IsAnchor}
use Rattle.bt_sparse.specs.Acceptance.{Accepts, IsRefused}
use Rattle.bt_sparse.specs.declared.claim.Claim.{Claim}
use Rattle.bt_sparse.specs.declared.claim.ProofError.{ProofError}
use Rattle.bt_sparse.specs.declared.claim.ProofError.TheVariants.{OutOfMemory}
use Rattle.bt_store.specs.FileStore.{StoreView}
use Rattle.bt_store.specs.BlockReads.{BlockRead, given, failed, block_of, call_of, judged, right_count, fault_count}
use Rattle.bt_store.specs.declared.block_states.BlockState.{BlockState}
use Rattle.bt_store.specs.declared.block_states.BlockState.TheVariants.{Marked}
use Rattle.bt_store.specs.declared.adoption.Adopted.{Adopted}

-- how many blocks from one on have known leaves: as many as lie next to each other, but at most eight
pub record IsKnownGroup (dig : List ℕ → List ℕ) (k : Facts) (from count : ℕ) : Type 0 where
  pub some : 0 < count
  pub few : count ≤ 8
  pub inside : from + count ≤ blocks_of k
  pub known : (j : ℕ) → j < count → IsSome (value_at dig k 0 (from + j))
  pub longest : (count ≡ 8) ⊎ ((from + count ≡ blocks_of k) ⊎ (value_at dig k 0 (from + count) ≡ None))

-- all blocks below the nearest held node above a block whose leaf is unknown
pub record IsUnknownGroup (k : Facts) (from anchor first count : ℕ) : Type 0 where
  pub inside : from < blocks_of k
  pub nearest : IsAnchor k from anchor
  pub above : 0 < anchor
  pub starts : first ≡ from / 2 ^ anchor * 2 ^ anchor
  pub counts : count ≡ min (2 ^ anchor) (blocks_of k - first)

-- the read gave the whole block, in a file of this many bytes
abbrev pub is_whole : ℕ → BlockRead → Bool
is_whole n (given i bytes) = length bytes == block_length n i
is_whole n (failed i) = false

-- the digest that is claimed of a block: its own where it was given whole, else that of the padding
abbrev pub claimed_digest : (List ℕ → List ℕ) → ℕ → BlockRead → List ℕ
claimed_digest dig n (given i bytes) =
    if length bytes == block_length n i then dig bytes else padding_digest dig 0
claimed_digest dig n (failed i) = padding_digest dig 0

-- the claim of leaves that lie next to each other
abbrev pub leaf_claim : (first : ℕ) → List (List ℕ) → Claim
leaf_claim first leaves = record { base = 0; index = first; run = leaves; uncles = [] }

-- what reads of blocks below a node of layer `anchor` claim: their digests, from the leaf `first` on, and
-- padding
abbrev pub claim_of_reads : (List ℕ → List ℕ) → ℕ → (anchor first : ℕ) → List BlockRead → Claim
claim_of_reads dig n anchor first reads = leaf_claim first
    (map (claimed_digest dig n) reads ++ replicate (2 ^ anchor - length reads) (padding_digest dig 0))

-- this many blocks from the first on are marked
unfoldable pub marked_group : (first count : ℕ) → List BlockState → List BlockState
marked_group first zero states = states
marked_group first (suc count) states = slice_set (marked_group first count states) (first + count) Marked

-- the reads are those of the group's blocks, each of which was given whole
pub record AreWhole (n first count : ℕ) (reads : List BlockRead) : Type 0 where
  pub blocks : map block_of reads ≡ range_with_len first count
  pub whole : count_by (is_whole n) reads ≡ count

-- The reads, the answer, and the tree and the states after it. Known leaves decide block by block. Where
-- they are unknown the blocks are claimed together: if the tree accepts that they are marked, else nothing
-- changes, nor does it where a read failed or was short.
pub data Adopts (dig : List ℕ → List ℕ) (k : Facts) (from : ℕ) (states : List BlockState)
    : List BlockRead → Adopted → Facts → List BlockState → Type 0 where
  none : from ≡ blocks_of k
      → Adopts dig k from states [] (record { next = from; anchor = 0; marked = 0; faults = 0 }) k states
  known : (count : ℕ) (reads : List BlockRead) → IsKnownGroup dig k from count
      → map block_of reads ≡ range_with_len from count
      → Adopts dig k from states reads
      (record {
        next = from + count;
        anchor = 0;
        marked = right_count dig k reads;
        faults = fault_count reads;
      })
      k (judged dig k true reads states)
  accepted : (anchor first count : ℕ) (reads : List BlockRead) (grown : Facts)
      → IsUnknownGroup k from anchor first count → AreWhole k.file_length first count reads
      → Accepts dig k (claim_of_reads dig k.file_length anchor first reads) grown
      → Adopts dig k from states reads
      (record { next = first + count; anchor = anchor; marked = count; faults = 0 })
      grown (marked_group first count states)
  refused : (anchor first count : ℕ) (reads : List BlockRead) (error : ProofError)
      → IsUnknownGroup k from anchor first count → AreWhole k.file_length first count reads
      → IsRefused dig k (claim_of_reads dig k.file_length anchor first reads) error → error ≢ OutOfMemory
      → Adopts dig k from states reads
      (record { next = first + count; anchor = anchor; marked = 0; faults = 0 }) k states
  short : (anchor first count : ℕ) (reads : List BlockRead) → IsUnknownGroup k from anchor first count
      → map block_of reads ≡ range_with_len first count → fault_count reads ≡ 0
      → count_by (is_whole k.file_length) reads < count
      → Adopts dig k from states reads
      (record { next = first + count; anchor = anchor; marked = 0; faults = 0 }) k states
  unread : (anchor first count : ℕ) (reads : List BlockRead) → IsUnknownGroup k from anchor first count
      → map block_of reads ≡ range_with_len first count → 0 < fault_count reads
      → Adopts dig k from states reads
      (record { next = first + count; anchor = 0; marked = 0; faults = fault_count reads }) k states

-- these reads were made, no other call failed or changed an honest device, and the rest is what `Adopts` says
pub record IsAdopted {D : Type 0} (conduct : Conduct D)
    (dig : List ℕ → List ℕ) (k : Facts) (from : ℕ) (old : StoreView D) (reads : List BlockRead)
    (adopted : Adopted) (grown : Facts) (new : StoreView D) : Type 0 where
  pub calls : HasCalls conduct old.disk (map (call_of old.file_length) reads) new.disk
  pub adopts : Adopts dig k from old.states reads adopted grown new.states
  pub same_file : new.file_length ≡ old.file_length

-- memory was refused, which only blocks below a held node take: they were read or they were not, no other
-- call failed or changed an honest device, and nothing else changed
pub record StopsAdopting {D : Type 0} (conduct : Conduct D)
    (dig : List ℕ → List ℕ) (k : Facts) (from : ℕ) (old : StoreView D) (reads : List BlockRead)
    (new : StoreView D) : Type 0 where
  pub calls : HasCalls conduct old.disk (map (call_of old.file_length) reads) new.disk
  pub anchor : ℕ
  pub first : ℕ
  pub count : ℕ
  pub group : IsUnknownGroup k from anchor first count
  pub in_order : (reads ≡ []) ⊎ (map block_of reads ≡ range_with_len first count)
  pub others : new ≡ record old { disk = new.disk }
