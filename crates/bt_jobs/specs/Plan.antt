-- What a part has of each file of a torrent. All bytes of the files are counted through, in the order of the
-- files: one without a byte counts as one byte, and files of one root and length lie at one place, so that a
-- part has the same of each of them.
use Rattle.std.specs.Prelude.{◌≡◌, ℕ, ◌+◌, ◌↔◌, if◌then◌else◌, IsTrue, Bool, List, [], ◌∷◌, ◌++◌, max}
use Rattle.std.specs.List.{AllZip, list_any}
use Rattle.bt_tree.specs.Blocks.{block_count}
use Rattle.bt_meta.specs.Files.{File}
use Rattle.bt_check.specs.Check.{are_twins}
use Rattle.bt_parts.specs.Division.{IsFirstIn, cut_at, edge_of}
use Rattle.bt_parts.specs.Unit.{unit_of}
use Rattle.bt_parts.specs.declared.cut.Cut.{Cut}
use Rattle.bt_parts.specs.declared.cut.Part.{Part}
use Rattle.bt_parts.specs.declared.cut.Share.{Share}

-- one of some files has the root and the length of a file
abbrev pub has_twin : List File → File → Bool
has_twin files file = list_any (λ other. are_twins other file) files

-- how many bytes are counted of some files that come after others
abbrev pub counted_behind : (before files : List File) → ℕ
counted_behind before [] = 0
counted_behind before (file ∷ files) =
    (if has_twin before file then 0 else max 1 file.length) + counted_behind (before ++ file ∷ []) files

-- and of all files
abbrev pub total_of : List File → ℕ
total_of files = counted_behind [] files

-- the files before the first that has the root and the length of a file
abbrev pub files_before : File → List File → List File
files_before file [] = []
files_before file (other ∷ files) = if are_twins other file then [] else other ∷ files_before file files

-- where a file lies: after the bytes that are counted of these
abbrev pub place_of : List File → File → ℕ
place_of files file = total_of (files_before file files)

-- A file of a torrent, whose pieces have 2 ^ layer blocks, is cut so.
pub record IsCutOf (layer : ℕ) (files : List File) (file : File) (cut : Cut) : Type 0 where
  pub place : cut.place ≡ place_of files file
  pub blocks : cut.blocks ≡ block_count file.length
  pub unit : cut.unit ≡ unit_of layer file

-- the part has this share of a file, where `total` bytes are counted in all
pub record IsShareOf (total : ℕ) (part : Part) (cut : Cut) (share : Share) : Type 0 where
  pub from : share.from ≡ cut_at cut (edge_of total part.count part.index)
  pub to : share.to ≡ cut_at cut (edge_of total part.count (part.index + 1))
  pub first : IsTrue share.is_first ↔ IsFirstIn total part.count part.index cut

-- These are the shares that a part has of a torrent's files.
pub record AreShares (layer : ℕ) (part : Part) (files : List File) (shares : List Share) : Type 0 where
  pub cuts : List Cut
  pub are_cut : AllZip (IsCutOf layer files) files cuts
  pub each : AllZip (IsShareOf (total_of files) part) cuts shares
