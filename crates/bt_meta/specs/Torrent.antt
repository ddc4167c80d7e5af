-- The torrent that bytes spell (BEP 52, "metainfo files").
use Rattle.std.specs.Prelude.{◌≡◌, ℕ, ◌<◌, ◌≤◌, List, [], ◌++◌, length, take, get_or, codes, sum_by, map, unwrap_or, None, ◌≢◌, replicate, true}
use Rattle.std.specs.List.{AllPairs, All}
use Rattle.std.specs.Ordering.{nat_cmp}
use Rattle.std.specs.Cmp.Lexicographic.{slice_cmp}
use Rattle.std.specs.declared.cmp.Ordering.TheVariants.{Less}
use Rattle.sha2.specs.Sha256.{sha256}
use Rattle.bt_bencode.specs.Value.{Data}
use Rattle.bt_bencode.specs.Spelling.{spelling_of}
use Rattle.bt_bencode.specs.Doc.{IsCanonical}
use Rattle.bt_tree.specs.Limits.{max_file_length}
use Rattle.bt_meta.specs.Fields.{string_at, no_dictionary}
use Rattle.bt_meta.specs.Files.{File, file_of, files_of, piece_count}
use Rattle.bt_meta.specs.Faults.{first_fault, first_info_fault, info_of, layers_of, piece_length_of, tree_of, is_path}
use Rattle.bt_tree.specs.TreeShape.{IsPieceLength}
use Rattle.bt_meta.specs.Layers.{has_layer_size, has_root}
use Rattle.bt_meta.specs.Limits.{max_text_length, max_piece_count, max_file_count}
use Rattle.bt_meta.specs.declared.torrent.FileEntry.{FileEntry}

pub record Metainfo : Type 0 where
  pub name : List ℕ
  pub piece_length : ℕ
  pub infohash : List ℕ
  pub files : List File

-- a torrent of these parts
abbrev pub metainfo_with : List ℕ → ℕ → List ℕ → List FileEntry → Metainfo
metainfo_with name piece_length infohash files = record {
  name = name;
  piece_length = piece_length;
  infohash = infohash;
  files = map file_of files;
}

-- what an info dictionary and these layers say
unfoldable pub metainfo_of : Data → Data → Metainfo
metainfo_of info layers = record {
  name = unwrap_or (string_at info (codes "name")) [];
  piece_length = piece_length_of info;
  infohash = sha256 (spelling_of info);
  files = files_of (piece_length_of info) layers (tree_of info);
}

-- the bytes spell the torrent: they are the canonical spelling of a value that has no fault, and it says this
pub record IsTorrent (bytes : List ℕ) (torrent : Metainfo) : Type 0 where
  pub value : Data
  pub small : length bytes ≤ max_text_length
  pub canonical : IsCanonical value
  pub spelled : spelling_of value ≡ bytes
  pub faultless : first_fault value ≡ None
  pub described : torrent ≡ metainfo_of (info_of value) (layers_of value)

-- the bytes spell the torrent of an info dictionary alone, which says nothing of layers
pub record IsInfo (bytes : List ℕ) (torrent : Metainfo) : Type 0 where
  pub value : Data
  pub small : length bytes ≤ max_text_length
  pub canonical : IsCanonical value
  pub spelled : spelling_of value ≡ bytes
  pub faultless : first_info_fault value ≡ None
  pub described : torrent ≡ metainfo_of value no_dictionary

-- how many pieces the files have together
abbrev pub total_pieces : Metainfo → ℕ
total_pieces torrent = sum_by (λ f. piece_count torrent.piece_length f.length) torrent.files

-- the files take the pieces one after the other, and are not too many
pub record IsLaidOut (piece_length : ℕ) (files : List File) : Type 0 where
  pub few : length files ≤ max_file_count
  pub in_turn : (k : ℕ) (d : File) → k < length files
      → (get_or files k d).first_piece ≡ sum_by (λ f. piece_count piece_length f.length) (take k files)

-- each file's path stands before those of the later files, as lists of byte strings
abbrev pub HaveAscendingPaths : List File → Type 0
HaveAscendingPaths files = AllPairs (λ f g. slice_cmp (slice_cmp nat_cmp) f.path g.path ≡ Less) files

-- ---- what every torrent keeps to

-- neither path is, or begins, the other
abbrev pub IsApart : List (List ℕ) → List (List ℕ) → Type 0
IsApart path other = (rest : List (List ℕ)) → (other ≢ path ++ rest) × (path ≢ other ++ rest)

-- no file's path is, or begins, that of another
abbrev pub HaveApartPaths : List File → Type 0
HaveApartPaths files = AllPairs (λ f g. IsApart f.path g.path) files

-- files that are not empty and have one root have one length
abbrev pub HaveOneLengthPerRoot : List File → Type 0
HaveOneLengthPerRoot files = AllPairs (λ f g.
    f.length ≢ 0 → g.length ≢ 0 → f.root ≡ g.root → f.length ≡ g.length) files

-- a file that is not too long, with lawful elements in its path, and with a root of 32 bytes, zeros where it
-- is empty; one with a layer is longer than a piece, and the layer has a digest for each of its pieces and
-- folds to the root
pub record IsLawfulFile (piece_length : ℕ) (file : File) : Type 0 where
  pub path : is_path file.path ≡ true
  pub short : file.length ≤ max_file_length
  pub rooted : length file.root ≡ 32
  pub zeros : file.length ≡ 0 → file.root ≡ replicate 32 0
  pub long : file.layer ≢ [] → piece_length < file.length
  pub sized : file.layer ≢ [] → has_layer_size piece_length file.length file.layer ≡ true
  pub folds : file.layer ≢ [] → has_root piece_length file.length file.root file.layer ≡ true

-- a lawful piece length, and one lawful file or more: together they have not too many pieces, they take them
-- one after the other, they stand in the order of their paths, and no two exclude each other
pub record IsLawful (piece_length : ℕ) (files : List File) : Type 0 where
  pub piece : IsPieceLength piece_length
  pub some : 0 < length files
  pub each : All (IsLawfulFile piece_length) files
  pub few_pieces : sum_by (λ f. piece_count piece_length f.length) files ≤ max_piece_count
  pub laid_out : IsLaidOut piece_length files
  pub ascending : HaveAscendingPaths files
  pub apart : HaveApartPaths files
  pub one_length : HaveOneLengthPerRoot files
