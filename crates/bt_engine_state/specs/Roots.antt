-- Which tree and which files a root has.
use Rattle.std.specs.Prelude.{◌≡◌, ◌↔◌, ℕ, ◌+◌, ◌<◌, ◌≤◌, List, length, Option, Some, IsSome, slice_get}
use Rattle.std.specs.Ordering.{nat_cmp}
use Rattle.std.specs.Cmp.Lexicographic.{slice_cmp}
use Rattle.std.specs.BTreeMap.{BTreeMap, get}
use Rattle.bt_meta.specs.Files.{File}
use Rattle.bt_engine_state.specs.declared.slot.Slot.{Slot}
use Rattle.bt_engine_state.specs.declared.roots.Roots.{Roots}

abbrev pub Numbers : Type 0
Numbers = BTreeMap (List ℕ) ℕ

abbrev pub number_of : Numbers → List ℕ → Option ℕ
number_of numbers root = get (slice_cmp nat_cmp) numbers root

-- the number of each of the roots is its place among them, and no other root has a number
abbrev pub AreNumbered : List (List ℕ) → Numbers → Type 0
AreNumbered roots numbers =
    (t : ℕ) (root : List ℕ) → (number_of numbers root ≡ Some t) ↔ (slice_get roots t ≡ Some root)

-- of the numbers below a count the first, from one on, of which this is so; where it is of none, the count
pub record IsFirstFrom (P : ℕ → Type 0) (count from first : ℕ) : Type 0 where
  pub inside : from ≤ first
  pub limit : first ≤ count
  pub has : first < count → P first
  pub is_first : (j : ℕ) → from ≤ j → P j → first ≤ j

-- ---- the files of a root

-- the file has a byte and this root
pub record IsOfRoot (files : List File) (root : List ℕ) (number : ℕ) : Type 0 where
  pub file : File
  pub listed : slice_get files number ≡ Some file
  pub some : 0 < file.length
  pub same_root : file.root ≡ root

-- for each file that has a byte the next one of its root, or the count of files where there is none
pub record AreNextFiles (files : List File) (nexts : List ℕ) : Type 0 where
  pub size : length nexts ≡ length files
  pub each : (i next : ℕ) (file : File) → slice_get files i ≡ Some file → 0 < file.length
      → slice_get nexts i ≡ Some next → IsFirstFrom (IsOfRoot files file.root) (length files) (i + 1) next

-- ---- the slots of a tree

-- the slot has a store, of this tree
pub record IsOfTree {D H : Type 0} (slots : List (Slot D H)) (tree number : ℕ) : Type 0 where
  pub slot : Slot D H
  pub here : slice_get slots number ≡ Some slot
  pub of_tree : slot.tree ≡ tree
  pub some : IsSome slot.store

-- all slots of the tree are found from its first file on, from each to the next
pub record LeadThrough {D H : Type 0} (slots : List (Slot D H)) (roots : Roots) (tree : ℕ) : Type 0 where
  pub begins : tree < length roots.first_files.items
  pub size : length roots.next_files.items ≡ length slots
  pub first : (first : ℕ) → slice_get roots.first_files.items tree ≡ Some first
      → IsFirstFrom (IsOfTree slots tree) (length slots) 0 first
  pub next : (i next : ℕ) → IsOfTree slots tree i → slice_get roots.next_files.items i ≡ Some next
      → IsFirstFrom (IsOfTree slots tree) (length slots) (i + 1) next
