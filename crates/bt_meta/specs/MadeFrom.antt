-- A torrent that is made from files (BEP 52, "file tree", `pieces root`). A file is the list of its bytes.
use Rattle.std.specs.Prelude.{◌≡◌, ℕ, ◌<◌, List, length, map}
use Rattle.std.specs.List.{AllZip}
use Rattle.std.specs.List.Sorted.{IsPermutation}
use Rattle.sha2.specs.Sha256.{sha256}
use Rattle.bt_tree.specs.Tree.{file_root}
use Rattle.bt_meta.specs.Torrent.{Metainfo}
use Rattle.bt_meta.specs.GivenFiles.{Given}

-- the length and the root describe the file: they are its own, but an empty file may be given any root
pub record Describe (said_length : ℕ) (said_root file : List ℕ) : Type 0 where
  pub size : said_length ≡ length file
  pub root : 0 < length file → said_root ≡ file_root sha256 file

-- the torrent is made from these files: each of its files, in tree order, is described by its length and root
abbrev pub IsMadeFrom : Metainfo → List (List ℕ) → Type 0
IsMadeFrom torrent files = AllZip (λ entry file. Describe entry.length entry.root file) torrent.files files

-- ---- files with their paths, in any order

pub record NamedFile : Type 0 where
  pub path : List (List ℕ)
  pub bytes : List ℕ

-- what `make` is given of the file
pub record IsGivenOf (file : NamedFile) (given : Given) : Type 0 where
  pub path : given.path ≡ file.path
  pub described : Describe given.length given.root file.bytes

-- the torrent has the paths of these files, and in their order it is made from the files
pub record IsMadeFromNamed (torrent : Metainfo) (files : List NamedFile) : Type 0 where
  pub ordered : List NamedFile
  pub same : IsPermutation files ordered
  pub paths : map (λ f. f.path) torrent.files ≡ map (λ f. f.path) ordered
  pub made : IsMadeFrom torrent (map (λ f. f.bytes) ordered)
