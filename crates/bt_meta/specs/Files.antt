-- The files of a file tree (BEP 52).
use Rattle.std.specs.Prelude.{ℕ, Bool, not, ◌&&◌, ◌==◌, List, [], filter, map, sum_by, replicate, codes, unwrap_or, nat_eq, nat_lt, if◌then◌else◌}
use Rattle.std.specs.List.{list_any}
use Rattle.std.specs.Int.{div_ceil}
use Rattle.std.specs.Cmp.Lexicographic.{pointwise}
use Rattle.bt_bencode.specs.Value.{Data}
use Rattle.bt_meta.specs.Fields.{natural_at, string_at, dictionary_at, has_key, no_dictionary}
use Rattle.bt_meta.specs.TreeEntries.{TreeEntry, tree_entries_below, with_earlier}
use Rattle.bt_meta.specs.declared.torrent.FileEntry.{FileEntry}

-- a dictionary with the empty key describes a file
abbrev pub is_file : TreeEntry → Bool
is_file p = has_key p.value []

-- what the empty key holds
abbrev pub properties_of : TreeEntry → Data
properties_of p = unwrap_or (dictionary_at p.value []) no_dictionary

unfoldable pub length_in : Data → ℕ
length_in properties = unwrap_or (natural_at properties (codes "length")) 0

-- zeros for an empty file, whose `pieces root` is ignored
unfoldable pub root_in : Data → List ℕ
root_in properties =
    if length_in properties == 0 then replicate 32 0
    else unwrap_or (string_at properties (codes "pieces root")) []

abbrev pub length_of : TreeEntry → ℕ
length_of p = length_in (properties_of p)

abbrev pub root_of : TreeEntry → List ℕ
root_of p = root_in (properties_of p)

-- a file begins at a piece's boundary, and its last piece may be shorter
abbrev pub piece_count : ℕ → ℕ → ℕ
piece_count piece_length length = div_ceil length piece_length

-- ---- root conflict: files that are not empty have one root and two lengths

-- what files are compared by
pub record Content : Type 0 where
  pub length : ℕ
  pub root : List ℕ

-- a file of m bytes with the other root has bytes, and it has this root and another length than n
abbrev pub is_conflict : List ℕ → ℕ → List ℕ → ℕ → Bool
is_conflict root n other m = not (m == 0) && pointwise nat_eq other root && not (m == n)

-- one of these files that is not empty has this root and another length
abbrev pub has_other_length : List Content → List ℕ → ℕ → Bool
has_other_length files root n = list_any (λ f. is_conflict root n f.root f.length) files

-- the file is not empty, and one of the earlier files that is not empty has its root and another length
abbrev pub has_root_conflict : List Content → Content → Bool
has_root_conflict before f = not (f.length == 0) && has_other_length before f.root f.length

abbrev pub content_of : TreeEntry → Content
content_of p = record { length = length_of p; root = root_of p }

-- what the entries that are files are compared by
abbrev pub contents_of : List TreeEntry → List Content
contents_of entries = map content_of (filter is_file entries)

-- ---- the files of a tree

-- how many pieces the entries that are files have together
abbrev pub pieces_of : ℕ → List TreeEntry → ℕ
pieces_of piece_length entries = sum_by (λ p. piece_count piece_length (length_of p)) (filter is_file entries)

-- a file of a torrent
pub record File : Type 0 where
  pub path : List (List ℕ)
  pub length : ℕ
  pub root : List ℕ
  pub first_piece : ℕ
  pub layer : List ℕ

-- what is kept of a file
abbrev pub file_of : FileEntry → File
file_of e = record {
  path = e.path;
  length = e.length;
  root = e.root;
  first_piece = e.first_piece;
  layer = e.layer.items;
}

-- the string of `piece layers` at the root, for a file of more bytes than a piece
abbrev pub layer_for : ℕ → Data → ℕ → List ℕ → List ℕ
layer_for piece_length layers bytes root =
    if nat_lt piece_length bytes then unwrap_or (string_at layers root) [] else []

-- that for an entry
abbrev pub layer_at : ℕ → Data → TreeEntry → List ℕ
layer_at piece_length layers p = layer_for piece_length layers (length_of p) (root_of p)

-- an entry as a file; its first piece is the one after those of the files before
abbrev pub file_at : ℕ → Data → List TreeEntry → TreeEntry → File
file_at piece_length layers before p = record {
  path = p.path;
  length = length_of p;
  root = root_of p;
  first_piece = pieces_of piece_length before;
  layer = layer_at piece_length layers p;
}

-- the files of a tree, in tree order, with their layers
unfoldable pub files_of : ℕ → Data → Data → List File
files_of piece_length layers tree =
    with_earlier (file_at piece_length layers) [] (filter is_file (tree_entries_below [] tree))
