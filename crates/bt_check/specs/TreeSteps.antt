-- Trees that are kept for later files of the same root and length.
use Rattle.std.specs.Prelude.{◌≡◌, ℕ, ◌+◌, ◌-◌, ◌<◌, ◌≤◌, ◌⊎◌, true, false, List, [], ◌∷◌, length, Option, None, Some, slice_get}
use Rattle.std.specs.List.{filter}
use Rattle.std.specs.Ordering.{nat_cmp, ordering_then}
use Rattle.std.specs.Cmp.Lexicographic.{slice_cmp}
use Rattle.std.specs.BTreeMap.{BTreeMap, get}
use Rattle.std.specs.declared.cmp.Ordering.{Ordering}
use Rattle.bt_disk.specs.Conduct.{Conduct}
use Rattle.bt_meta.specs.Files.{File}
use Rattle.bt_sparse.specs.SparseTree.{Facts}
use Rattle.bt_check.specs.Check.{CheckedFile, IsFileFinding, are_twins, is_twin, layer_before, leaves_before}
use Rattle.bt_check.specs.CheckSteps.{HoldsLeaves}
use Rattle.bt_check.specs.declared.data_file.Finding.{Finding}
use Rattle.bt_check.specs.declared.trees.SharedTrees.{SharedTrees}

-- what names a tree
abbrev pub Key : Type 0
Key = List ℕ × ℕ

abbrev pub tree_key : File → Key
tree_key file = (file.root, file.length)

abbrev pub key_cmp : Key → Key → Ordering
key_cmp x y = ordering_then (slice_cmp nat_cmp x.0 y.0) (nat_cmp x.1 y.1)

abbrev pub Kept : Type 0
Kept = BTreeMap Key Facts

abbrev pub tree_in : Kept → File → Option Facts
tree_in kept file = get key_cmp kept (tree_key file)

-- what is kept of a file that has a block, after some files were checked: none of its twins was; or there is
-- the tree, with the leaves that they told
pub record HasTree (layer : ℕ) (before : List CheckedFile) (file : File) (kept : Kept) : Type 0 where
  pub none : 0 < file.length → tree_in kept file ≡ None → filter (is_twin file) before ≡ []
  pub tree : (k : Facts) → 0 < file.length → tree_in kept file ≡ Some k
      → HoldsLeaves file.length (layer_before layer before file) (leaves_before layer before file) k

-- the tree of a file that has a block, with what is known of it
abbrev pub TakesTree : ℕ → File → Kept → Facts → Type 0
TakesTree layer file kept k = (before : List CheckedFile) → HasTree layer before file kept → 0 < file.length
    → HoldsLeaves file.length (layer_before layer before file) (leaves_before layer before file) k

-- the other trees are kept
abbrev pub LeavesKept : File → Kept → Kept → Type 0
LeavesKept file old new = (other : File) → are_twins file other ≡ false
    → tree_in new other ≡ tree_in old other

-- a file was checked, and what is kept of any file is so after it too
abbrev pub ChecksFile : {D : Type 0} → Conduct D → ℕ → File → Option D → Kept → Finding → Kept → Type 0
ChecksFile conduct layer file disk old finding new =
    (before : List CheckedFile) → HasTree layer before file old
    → (after : List CheckedFile) × IsFileFinding conduct layer before file finding disk after
    × ((other : File) → HasTree layer before other old → HasTree layer after other new)

-- Trees after some files were checked, before the others: each file that is left has what is kept of it, and
-- is not after the last of its root and length.
pub record KeepsTrees (layer : ℕ) (before : List CheckedFile) (left : List File) (trees : SharedTrees)
    : Type 0 where
  pub count : trees.left ≡ length left
  pub has : (i : ℕ) (file : File) → slice_get left i ≡ Some file → HasTree layer before file trees.kept
  pub last : (i : ℕ) (file : File) → slice_get left i ≡ Some file
      → (behind : ℕ) × (behind + i < length left) × (get key_cmp trees.last (tree_key file) ≡ Some behind)

-- the next file was checked, and the trees are kept for those after it
abbrev pub ChecksNext
    : {D : Type 0} → Conduct D → ℕ → File → Option D → SharedTrees → Finding → SharedTrees → Type 0
ChecksNext conduct layer file disk old finding new =
    (before : List CheckedFile) (rest : List File) → KeepsTrees layer before (file ∷ rest) old
    → (after : List CheckedFile) × IsFileFinding conduct layer before file finding disk after
    × KeepsTrees layer after rest new

-- the same trees where one file less is left
abbrev pub one_less : SharedTrees → SharedTrees
one_less trees = record { kept = trees.kept; last = trees.last; left = trees.left - 1 }

-- no file that is left has the root and length of a file
abbrev pub IsLast : SharedTrees → File → Type 0
IsLast trees file = (behind : ℕ) → get key_cmp trees.last (tree_key file) ≡ Some behind → trees.left ≤ behind

-- where no file that is left has the root and length of a file, its tree may be let go
abbrev pub LetsGo : File → SharedTrees → SharedTrees → Type 0
LetsGo file old new = (new.left ≡ old.left) × (new.last ≡ old.last) × ((other : File)
    → (tree_in new.kept other ≡ tree_in old.kept other) ⊎ ((are_twins file other ≡ true) × IsLast old file))
