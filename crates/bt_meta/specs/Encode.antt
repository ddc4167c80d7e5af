-- The value of a torrent of files (BEP 52, "metainfo files").
use Rattle.std.specs.Prelude.{◌≡◌, ℕ, pos, ◌&&◌, ◌==◌, List, [], ◌∷◌, codes, Option, nat_eq, nat_lt, unwrap_or, if◌then◌else◌}
use Rattle.std.specs.List.{fold, find}
use Rattle.std.specs.Option.{option_map}
use Rattle.std.specs.Ordering.{nat_cmp, match_ordering}
use Rattle.bt_bencode.specs.Dictionary.{first_value_of}
use Rattle.bt_meta.specs.Fields.{entries_in, no_dictionary}
use Rattle.std.specs.Cmp.Lexicographic.{pointwise, slice_cmp}
use Rattle.bt_bencode.specs.Value.{Data, integer, string, dictionary, Entries, no_entries, entry}
use Rattle.bt_bencode.specs.Doc.{EntriesAscend}
use Rattle.bt_meta.specs.GivenFiles.{Given}

-- the dictionary with this value at the key, among the ascending keys of the others
unfoldable pub with_entry : List ℕ → Data → Entries → Entries
with_entry key d no_entries = entry key d no_entries
with_entry key d (entry other e es) =
    match_ordering (slice_cmp nat_cmp key other)
    (entry key d (entry other e es))
    (entry key d es)
    (entry other e (with_entry key d es))

-- what a folder with these entries has in the folder with this name
abbrev pub folder_in : List ℕ → Entries → Entries
folder_in name es = entries_in (unwrap_or (first_value_of es name) no_dictionary)

-- the tree with a file at this path, which its properties describe
unfoldable pub with_file : List (List ℕ) → Data → Entries → Entries
with_file [] properties es = with_entry [] properties es
with_file (name ∷ path) properties es =
    with_entry name (dictionary (with_file path properties (folder_in name es))) es

-- an empty file has no root
abbrev pub properties_made : Given → Data
properties_made f = dictionary (
    entry (codes "length") (integer (pos f.length)) (
    if f.length == 0 then no_entries else entry (codes "pieces root") (string f.root) no_entries))

unfoldable pub tree_made : List Given → Entries
tree_made files = fold (λ es f. with_file f.path (properties_made f) es) no_entries files

abbrev pub info_made : List ℕ → ℕ → List Given → Data
info_made name piece_length files = dictionary (
    entry (codes "file tree") (dictionary (tree_made files)) (
    entry (codes "meta version") (integer (pos 2)) (
    entry (codes "name") (string name) (
    entry (codes "piece length") (integer (pos piece_length)) no_entries))))

-- the layer of the first file longer than a piece that has this root
abbrev pub first_layer : ℕ → List Given → List ℕ → Option (List ℕ)
first_layer piece_length files root =
    option_map (λ f. f.layer) (find (λ f. nat_lt piece_length f.length && pointwise nat_eq f.root root) files)

-- one layer for each root, in ascending order of the roots: that of the first file that has it
pub record AreLayersOf (piece_length : ℕ) (files : List Given) (layers : Entries) : Type 0 where
  pub ascending : EntriesAscend layers
  pub first : (root : List ℕ) →
      first_value_of layers root ≡ option_map string (first_layer piece_length files root)

-- the value of a torrent of files in tree order, with these layers
abbrev pub value_made : List ℕ → ℕ → List Given → Entries → Data
value_made name piece_length files layers = dictionary (
    entry (codes "info") (info_made name piece_length files) (
    entry (codes "piece layers") (dictionary layers) no_entries))
