-- Groups that are adopted one after the other.
use Rattle.std.specs.Prelude.{◌≡◌, ℕ, ◌+◌, ◌<◌, List, [], ◌++◌, map}
use Rattle.std.specs.List.{range_with_len}
use Rattle.bt_disk.specs.Conduct.{Conduct}
use Rattle.bt_disk.specs.Calls.{HasCalls}
use Rattle.bt_sparse.specs.SparseTree.{Facts, blocks_of}
use Rattle.bt_store.specs.FileStore.{StoreView}
use Rattle.bt_store.specs.BlockReads.{BlockRead, block_of, call_of}
use Rattle.bt_store.specs.Adoption.{Adopts, IsUnknownGroup}
use Rattle.bt_store.specs.declared.block_states.BlockState.{BlockState}
use Rattle.bt_store.specs.declared.adoption.Adopted.{Adopted}
use Rattle.bt_store.specs.declared.small_groups.AdoptedGroups.{AdoptedGroups}

-- the sums with one more group
abbrev pub with_group : AdoptedGroups → Adopted → AdoptedGroups
with_group before one = record {
  next = one.next;
  marked = before.marked + one.marked;
  faults = before.faults + one.faults;
}

-- Each group is adopted as `Adopts` says: the first one is that of block `from`, and each further one that of
-- the block after the group before it. The reads are those of all groups, in order, and the sums are theirs.
pub data AdoptsInTurn (dig : List ℕ → List ℕ) (k : Facts) (from : ℕ) (states : List BlockState)
    : List BlockRead → AdoptedGroups → Facts → List BlockState → Type 0 where
  none : AdoptsInTurn dig k from states [] (record { next = from; marked = 0; faults = 0 }) k states
  more : (reads last : List BlockRead) (before : AdoptedGroups) (one : Adopted) (mid grown : Facts)
      (between after : List BlockState)
      → AdoptsInTurn dig k from states reads before mid between → before.next < blocks_of mid
      → Adopts dig mid before.next between last one grown after
      → AdoptsInTurn dig k from states (reads ++ last) (with_group before one) grown after

-- these reads were made, no other call failed or changed an honest device, and the groups were adopted
pub record AreAdopted {D : Type 0} (conduct : Conduct D)
    (dig : List ℕ → List ℕ) (k : Facts) (from : ℕ) (old : StoreView D) (reads : List BlockRead)
    (adopted : AdoptedGroups) (grown : Facts) (new : StoreView D) : Type 0 where
  pub calls : HasCalls conduct old.disk (map (call_of old.file_length) reads) new.disk
  pub adopts : AdoptsInTurn dig k from old.states reads adopted grown new.states
  pub same_file : new.file_length ≡ old.file_length

-- Memory was refused at a group below a held node. The groups before it were adopted, by the first of the
-- reads; the others are of this group's blocks and of those after them, as far as they were read, and changed
-- nothing.
pub record StopsAmong (dig : List ℕ → List ℕ) (k : Facts) (from : ℕ) (old : List BlockState)
    (reads : List BlockRead) (grown : Facts) (new : List BlockState) : Type 0 where
  pub before : List BlockRead
  pub others : List BlockRead
  pub all : reads ≡ before ++ others
  pub adopted : AdoptedGroups
  pub adopts : AdoptsInTurn dig k from old before adopted grown new
  pub anchor : ℕ
  pub first : ℕ
  pub count : ℕ
  pub group : IsUnknownGroup grown adopted.next anchor first count
  pub size : ℕ
  pub in_order : map block_of others ≡ range_with_len first size

-- these reads were made, no other call failed or changed an honest device, and memory was refused at a group
pub record StopsInTurn {D : Type 0} (conduct : Conduct D)
    (dig : List ℕ → List ℕ) (k : Facts) (from : ℕ) (old : StoreView D) (reads : List BlockRead)
    (grown : Facts) (new : StoreView D) : Type 0 where
  pub calls : HasCalls conduct old.disk (map (call_of old.file_length) reads) new.disk
  pub stops : StopsAmong dig k from old.states reads grown new.states
  pub same_file : new.file_length ≡ old.file_length
