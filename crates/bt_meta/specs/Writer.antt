-- The torrent that is made of files (BEP 52, "metainfo files"), and why none is made.
use Rattle.std.specs.Prelude.{◌≡◌, ℕ, ◌≤◌, ◌==◌, List, [], ◌∷◌, length, sum_by, replicate, None, nat_lt, unwrap_or, if◌then◌else◌, ◌<◌, Bool, true, false, ◌||◌, Some}
use Rattle.std.specs.List.{list_any}
use Rattle.bt_bencode.specs.Value.{Entries}
use Rattle.bt_bencode.specs.Spelling.{spelling_of}
use Rattle.bt_meta.specs.TreeEntries.{with_earlier}
use Rattle.bt_meta.specs.Files.{File, piece_count}
use Rattle.bt_meta.specs.Torrent.{Metainfo, IsTorrent}
use Rattle.sha2.specs.Sha256.{sha256}
use Rattle.bt_meta.specs.GivenFiles.{Given, IsInTreeOrder, HaveTreePaths, begins}
use Rattle.bt_meta.specs.Faults.{is_piece_length}
use Rattle.bt_meta.specs.WriterRefusals.{refusal_of_files}
use Rattle.bt_meta.specs.declared.writer.MakeError.{MakeError}
use Rattle.bt_meta.specs.declared.writer.MakeError.TheVariants.{BadPath, Count, OutOfMemory}
use Rattle.bt_meta.specs.Encode.{first_layer, AreLayersOf, info_made, value_made}
use Rattle.bt_meta.specs.Limits.{max_text_length}

-- ---- what is made

-- a file as the torrent has it: none of an empty file's root, and of the files of one root each has the layer
-- of the first
abbrev pub file_made : ℕ → List Given → List Given → Given → File
file_made piece_length files before f = record {
  path = f.path;
  length = f.length;
  root = if f.length == 0 then replicate 32 0 else f.root;
  first_piece = sum_by (λ g. piece_count piece_length g.length) before;
  layer = if nat_lt piece_length f.length then unwrap_or (first_layer piece_length files f.root) [] else [];
}

-- the torrent of files in tree order
unfoldable pub torrent_made : List ℕ → ℕ → List Given → Metainfo
torrent_made name piece_length files = record {
  name = name;
  piece_length = piece_length;
  infohash = sha256 (spelling_of (info_made name piece_length files));
  files = with_earlier (file_made piece_length files) [] files;
}

-- the bytes are the spelling of a torrent of the files in tree order
pub record IsMade (name : List ℕ) (piece_length : ℕ) (files : List Given) (bytes : List ℕ) : Type 0 where
  pub faultless : refusal_of_files piece_length files ≡ None
  pub ordered : List Given
  pub in_order : IsInTreeOrder files ordered
  pub tree_paths : HaveTreePaths ordered
  pub layers : Entries
  pub layered : AreLayersOf piece_length ordered layers
  pub spelled : bytes ≡ spelling_of (value_made name piece_length ordered layers)
  pub torrent : IsTorrent bytes (torrent_made name piece_length ordered)
  pub small : length bytes ≤ max_text_length

-- the digest is the infohash of the torrent that the bytes spell
abbrev pub IsInfohashOf : List ℕ → List ℕ → Type 0
IsInfohashOf bytes digest = (torrent : Metainfo) → IsTorrent bytes torrent → digest ≡ torrent.infohash

-- ---- why nothing is made

-- one of the paths begins the other, or is the other: no tree has both files
abbrev pub is_overlap : Given → Given → Bool
is_overlap f g = begins f.path g.path || begins g.path f.path

-- the paths of two of the files overlap
abbrev pub have_overlap : List Given → Bool
have_overlap [] = false
have_overlap (f ∷ files) = list_any (is_overlap f) files || have_overlap files

-- the text of a torrent of the files in tree order has more than max_text_length bytes
pub record IsTooLong (name : List ℕ) (piece_length : ℕ) (files : List Given) : Type 0 where
  pub ordered : List Given
  pub in_order : IsInTreeOrder files ordered
  pub layers : Entries
  pub layered : AreLayersOf piece_length ordered layers
  pub long : max_text_length < length (spelling_of (value_made name piece_length ordered layers))

-- the first cause for which no torrent is made; or out of memory, where the piece length is lawful and there
-- is a file
pub data IsNotMade (name : List ℕ) (piece_length : ℕ) (files : List Given) : MakeError → Type 0 where
  no_memory : is_piece_length piece_length ≡ true → 0 < length files
      → IsNotMade name piece_length files OutOfMemory
  unlawful : (e : MakeError)
      → refusal_of_files piece_length files ≡ Some e → IsNotMade name piece_length files e
  overlap : refusal_of_files piece_length files ≡ None → have_overlap files ≡ true
      → IsNotMade name piece_length files BadPath
  too_long : refusal_of_files piece_length files ≡ None → have_overlap files ≡ false
      → IsTooLong name piece_length files
      → IsNotMade name piece_length files Count
