-- Private steps: a group is claimed by what its reads gave.
use Rattle.std.specs.Prelude.{ℕ, ◌^◌, List}
use Rattle.bt_sparse.specs.SparseTree.{Facts}
use Rattle.bt_store.specs.BlockReads.{BlockRead}
use Rattle.bt_store.specs.Adoption.{Adopts, IsUnknownGroup}
use Rattle.bt_store.specs.GroupsSteps.{AreGroupReads}
use Rattle.bt_store.specs.declared.adoption.Adopted.{Adopted}
use Rattle.bt_store.specs.declared.block_states.BlockState.{BlockState}
use Rattle.bt_store.specs.declared.groups.ReadTally.{ReadTally}

-- Whichever reads made these digests and counts of a group's blocks, and whichever of its blocks is adopted:
-- this is what becomes of the group, in a file of n bytes.
abbrev pub AdoptsGroup : (List ℕ → List ℕ) → (n : ℕ) → Facts → (anchor first count : ℕ) → List BlockState
    → List (List ℕ) → ReadTally → Adopted → Facts → List BlockState → Type 0
AdoptsGroup dig n k anchor first count old digests tally adopted grown new =
    (from : ℕ) (reads : List BlockRead) → IsUnknownGroup k from anchor first count
    → AreGroupReads dig n first count (2 ^ anchor) reads tally digests
    → Adopts dig k from old reads adopted grown new
