-- The trees that a torrent has of some of its files. No public contract cites them.
use Rattle.std.specs.Prelude.{◌≡◌, ℕ, List, length, Some, slice_get}
use Rattle.bt_meta.specs.Files.{File}
use Rattle.bt_meta.specs.Torrent.{Metainfo}
use Rattle.bt_sparse.specs.SparseTree.{Facts}
use Rattle.bt_machine.specs.Start.{IsTreeFrom}

-- the tree of the file of this number
pub record IsTreeOf (dig : List ℕ → List ℕ) (torrent : Metainfo) (number : ℕ) (k : Facts) : Type 0 where
  pub file : File
  pub listed : slice_get torrent.files number ≡ Some file
  pub says : IsTreeFrom dig torrent file k

-- the trees of the first files of these numbers
abbrev pub AreTreesSoFar : (List ℕ → List ℕ) → Metainfo → List ℕ → List Facts → Type 0
AreTreesSoFar dig torrent numbers trees = (t number : ℕ) (k : Facts) → slice_get numbers t ≡ Some number
    → slice_get trees t ≡ Some k → IsTreeOf dig torrent number k

-- the trees of all of them, in their order
pub record AreTreesOf (dig : List ℕ → List ℕ) (torrent : Metainfo) (numbers : List ℕ) (trees : List Facts)
    : Type 0 where
  pub count : length trees ≡ length numbers
  pub each : AreTreesSoFar dig torrent numbers trees
