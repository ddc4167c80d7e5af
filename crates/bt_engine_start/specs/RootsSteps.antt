-- The trees of a torrent, and the slots of its files, before devices are handed out. No public contract cites
-- them.
use Rattle.std.specs.Prelude.{◌≡◌, ◌≢◌, ℕ, ◌<◌, List, length, map, Some, None, IsSome, slice_get, unwrap_or}
use Rattle.std.specs.List.{AllPairs}
use Rattle.bt_meta.specs.Files.{File}
use Rattle.bt_meta.specs.Torrent.{Metainfo}
use Rattle.bt_sparse.specs.SparseTree.{Facts}
use Rattle.bt_machine.specs.Start.{IsTorrentTree}
use Rattle.bt_engine_state.specs.Roots.{Numbers, number_of, AreNumbered, IsFirstFrom, IsOfRoot}
use Rattle.bt_engine_state.specs.Ties.{EachIsFirst, root_and_length_of}
use Rattle.bt_engine_state.specs.declared.slot.Slot.{Slot}

-- the roots and lengths of the files of these numbers
abbrev pub roots_and_lengths : List File → List ℕ → List (List ℕ × ℕ)
roots_and_lengths files firsts = map (root_and_length_of files) firsts

abbrev pub roots_of : List File → List ℕ → List (List ℕ)
roots_of files firsts = map (λ number. (root_and_length_of files number).0) firsts

-- first files of their roots; each root has its number by its place among these, and no other root has a
-- number, but those of all files before one have
pub record AreByRoot (files : List File) (from : ℕ) (firsts : List ℕ) (numbers : Numbers) : Type 0 where
  pub each : EachIsFirst files firsts
  pub numbered : AreNumbered (roots_of files firsts) numbers
  pub before : (j : ℕ) (file : File) → j < from → slice_get files j ≡ Some file → 0 < file.length
      → IsSome (number_of numbers file.root)

-- of the files from one on, the first of each root is its number; a root that none has, has no number
abbrev pub AreFirstsFrom : List File → (from : ℕ) → Numbers → Type 0
AreFirstsFrom files from numbers = (root : List ℕ) → IsFirstFrom (IsOfRoot files root) (length files) from
    (unwrap_or (number_of numbers root) (length files))

-- each element stands where it stood
abbrev pub Extends : {X : Type 0} → List X → List X → Type 0
Extends {X} old new = (t : ℕ) (x : X) → slice_get old t ≡ Some x → slice_get new t ≡ Some x

-- a file that has a byte has its root and length there
abbrev pub HasTreeAt : File → List (List ℕ × ℕ) → ℕ → Type 0
HasTreeAt file trees t = 0 < file.length → slice_get trees t ≡ Some (file.root, file.length)

-- one tree for each root, as the torrent has it
pub record AreTorrentTrees (dig : List ℕ → List ℕ) (torrent : Metainfo) (trees : List Facts)
    : Type 0 where
  pub roots : AllPairs (λ j k. j.root ≢ k.root) trees
  pub each : (t : ℕ) (k : Facts) → slice_get trees t ≡ Some k → IsTorrentTree dig torrent k

-- it has the file's tree, and no device
pub record IsBareSlot {D H : Type 0} (file : File) (trees : List (List ℕ × ℕ)) (slot : Slot D H)
    : Type 0 where
  pub bare : slot.store ≡ None
  pub has_tree : HasTreeAt file trees slot.tree

-- these are slots of the first of the files
abbrev pub AreBareSlotsSoFar : {D H : Type 0} → List File → List (List ℕ × ℕ) → List (Slot D H) → Type 0
AreBareSlotsSoFar {D} {H} files trees slots = (i : ℕ) (file : File) (slot : Slot D H)
    → slice_get files i ≡ Some file → slice_get slots i ≡ Some slot → IsBareSlot file trees slot

pub record AreBareSlots {D H : Type 0} (files : List File) (trees : List (List ℕ × ℕ))
    (slots : List (Slot D H)) : Type 0 where
  pub count : length slots ≡ length files
  pub each : AreBareSlotsSoFar files trees slots
