-- Private steps: the digests of a group, as its blocks are read.
use Rattle.std.specs.Prelude.{◌≡◌, ℕ, zero, suc, ◌+◌, ◌-◌, List, ◌++◌, map, replicate, slice_set, slice_index_or}
use Rattle.std.specs.List.{count_by, range_with_len}
use Rattle.bt_tree.specs.Tree.{padding_digest}
use Rattle.bt_disk.specs.Conduct.{Conduct}
use Rattle.bt_disk.specs.Calls.{HasCalls}
use Rattle.bt_store.specs.BlockReads.{BlockRead, block_of, call_of, fault_count}
use Rattle.bt_store.specs.Adoption.{is_whole, claimed_digest}
use Rattle.bt_store.specs.declared.batches.BlockFound.{BlockFound}
use Rattle.bt_store.specs.declared.batches.BlockFound.TheVariants.{Whole, Short, Failed}
use Rattle.bt_store.specs.declared.groups.ReadTally.{ReadTally}

-- the digests with that of a whole block put at a place
abbrev pub noted : ℕ → BlockFound → List (List ℕ) → List (List ℕ)
noted i (Whole digest) digests = slice_set digests i digest
noted i Short digests = digests
noted i Failed digests = digests

-- the digests, in which those of the first j blocks found stand, where these are whole, from place `at` on
unfoldable pub noted_found : ℕ → List BlockFound → ℕ → List (List ℕ) → List (List ℕ)
noted_found at blocks_found zero digests = digests
noted_found at blocks_found (suc j) digests =
    noted (at + j) (slice_index_or blocks_found j Failed) (noted_found at blocks_found j digests)

abbrev pub counted : BlockFound → ReadTally → ReadTally
counted (Whole digest) tally = record tally { whole = tally.whole + 1 }
counted Short tally = tally
counted Failed tally = record tally { faults = tally.faults + 1 }

unfoldable pub counted_found : List BlockFound → ℕ → ReadTally → ReadTally
counted_found blocks_found zero tally = tally
counted_found blocks_found (suc j) tally =
    counted (slice_index_or blocks_found j Failed) (counted_found blocks_found j tally)

-- the reads are those of this many blocks from the first on; the list has their digests, and padding after
-- them; and this many were given whole, and failed
pub record AreGroupReads (dig : List ℕ → List ℕ) (n first count width : ℕ) (reads : List BlockRead)
    (tally : ReadTally) (digests : List (List ℕ)) : Type 0 where
  pub in_order : map block_of reads ≡ range_with_len first count
  pub claims : digests ≡ map (claimed_digest dig n) reads ++ replicate (width - count) (padding_digest dig 0)
  pub whole : tally.whole ≡ count_by (is_whole n) reads
  pub failed : tally.faults ≡ fault_count reads

-- these reads were made, and no other call failed or changed an honest device
pub record IsGroupRead {D : Type 0} (conduct : Conduct D)
    (dig : List ℕ → List ℕ) (n first count width : ℕ) (old : D) (reads : List BlockRead) (tally : ReadTally)
    (new : D) (digests : List (List ℕ)) : Type 0 where
  pub calls : HasCalls conduct old (map (call_of n) reads) new
  pub are : AreGroupReads dig n first count width reads tally digests
