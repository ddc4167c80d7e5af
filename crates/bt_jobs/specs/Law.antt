-- What the parts of a check tell together.
use Rattle.std.specs.Prelude.{◌≡◌, ◌≢◌, ℕ, ◌+◌, ◌<◌, ◌==◌, List, [], ◌∷◌, Some, slice_get}
use Rattle.std.specs.List.{filter, flat_map}
use Rattle.bt_tree.specs.Blocks.{block_count}
use Rattle.bt_meta.specs.Files.{File}
use Rattle.bt_meta.specs.Torrent.{Metainfo}
use Rattle.bt_parts.specs.Join.{IsChain}
use Rattle.bt_parts.specs.declared.cut.Part.{Part}
use Rattle.bt_parts.specs.declared.run.Run.{Run}
use Rattle.bt_jobs.specs.Part.{IsPartReport}

-- the runs of the file of this number
abbrev pub runs_of : ℕ → List Run → List Run
runs_of number runs = filter (λ run. run.file == number) runs

-- These are reports of the parts of a check in `count` parts: one of each from part `index` on to the last.
pub data AreReports (dir : List ℕ) (torrent : Metainfo) (count : ℕ)
    : (index : ℕ) → List (List Run) → Type 0 where
  none : AreReports dir torrent count count []
  more : (index : ℕ) (part : Part) (runs : List Run) (rest : List (List Run)) → part.index ≡ index
      → part.count ≡ count → IsPartReport dir torrent part runs
      → AreReports dir torrent count (index + 1) rest
      → AreReports dir torrent count index (runs ∷ rest)

-- What all parts tell of a file, part by part, are runs of all its blocks, each block once; and there is one
-- at least. So whoever puts them into this order can join them.
abbrev pub PartsAreWhole : Type 0
PartsAreWhole = (dir : List ℕ) (torrent : Metainfo) (count : ℕ) (reports : List (List Run)) → 0 < count
    → AreReports dir torrent count 0 reports
    → (number : ℕ) (file : File) → slice_get torrent.files number ≡ Some file
    → IsChain (block_count file.length) 0 (flat_map (runs_of number) reports) (block_count file.length)
    × (flat_map (runs_of number) reports ≢ [])
