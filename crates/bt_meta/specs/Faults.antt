-- Which faults a torrent has, in the order in which they are looked for: those of BEP 52 ("metainfo files"), and
-- those of this project, which are marked ours.
use Rattle.std.specs.Prelude.{ℕ, ℤ, Bool, false, not, ◌&&◌, ◌||◌, ◌==◌, List, [], ◌∷◌, ◌++◌, length, map, filter, codes, Option, None, Some, is_some, is_none, unwrap_or, nat_eq, nat_lt, nat_le, if◌then◌else◌}
use Rattle.std.specs.Option.{option_map_or}
use Rattle.std.specs.List.{list_any, last_or, list_all}
use Rattle.std.specs.Int.{is_power_of_two}
use Rattle.std.specs.Str.{is_utf8}
use Rattle.std.specs.Cmp.Lexicographic.{pointwise}
use Rattle.bt_bencode.specs.Value.{Data}
use Rattle.bt_bencode.specs.Dictionary.{field_of}
use Rattle.bt_tree.specs.Limits.{max_file_length, min_piece_length, max_piece_length}
use Rattle.bt_meta.specs.Fields.{integer_at, natural_at, string_at, dictionary_at, has_key, as_natural, no_dictionary, is_dictionary, is_single}
use Rattle.bt_meta.specs.TreeEntries.{TreeEntry, tree_entries_below, with_earlier}
use Rattle.bt_meta.specs.Files.{is_file, properties_of, length_in, root_in, length_of, root_of, content_of, contents_of, has_root_conflict, pieces_of, layer_for}
use Rattle.bt_meta.specs.Layers.{has_layer_size, has_root}
use Rattle.bt_meta.specs.declared.error.MetaError.{MetaError}
use Rattle.bt_meta.specs.declared.error.MetaError.TheVariants.{NoInfo, NotV2, Version, Hybrid, NoName, PieceLength, Tree, BadPath, Symlink, FileLength, BadRoot, RootConflict, TooMany, LayerMissing, LayerSize, LayerDiffers}
use Rattle.bt_meta.specs.Limits.{max_path_length, are_too_many}

-- A check answers a fault, or nothing.
abbrev pub Check : Type 0
Check = Option MetaError

abbrev pub fault_if : {E : Type 0} → Bool → E → Option E
fault_if test fault = if test then Some fault else None

-- the fault of the first check that has one
abbrev pub first_of : {E : Type 0} → List (Option E) → Option E
first_of [] = None
first_of (None ∷ checks) = first_of checks
first_of (Some fault ∷ checks) = Some fault

-- ---- the entries of the file tree

-- a folder, which has no empty key, or a file, which has nothing but the empty key (ours), with a dictionary
unfoldable pub is_node : Data → Bool
is_node d = is_dictionary d && (not (has_key d []) || (is_single d && is_some (dictionary_at d [])))

-- the names of a folder itself, and of the one above
abbrev pub is_dots : List ℕ → Bool
is_dots element = pointwise nat_eq element (codes ".") || pointwise nat_eq element (codes "..")

-- the letter `/`
abbrev pub slash : ℕ
slash = 47

-- neither `.` nor `..`, with no `/` and no zero byte (ours: BEP 52 has such names made harmless), and UTF-8
unfoldable pub is_path_element : List ℕ → Bool
is_path_element element =
    not (is_dots element || list_any (λ b. b == slash) element || list_any (λ b. b == 0) element)
    && is_utf8 element

-- not empty, and lawful
abbrev pub is_element : List ℕ → Bool
is_element element = not (length element == 0) && is_path_element element

-- one element or more, each of which may stand in a path
abbrev pub is_path : List (List ℕ) → Bool
is_path path = not (length path == 0) && list_all is_element path

abbrev pub has_lawful_name : TreeEntry → Bool
has_lawful_name p = is_path_element (unwrap_or (last_or None p.path) [])

-- a file has a length, and is not too long (ours)
unfoldable pub has_lawful_length : Data → Bool
has_lawful_length properties =
    option_map_or (λ n. nat_le n max_file_length) (natural_at properties (codes "length")) false

-- one that is not empty has a root of 32 bytes
unfoldable pub has_lawful_root : Data → Bool
has_lawful_root properties = length_in properties == 0 || length (root_in properties) == 32

-- too many elements in the path; or too many files or pieces with this file (ours)
abbrev pub is_too_many : ℕ → List TreeEntry → TreeEntry → Bool
is_too_many piece_length before p =
    let entries = before ++ p ∷ [] in
    nat_lt max_path_length (length p.path)
    || (is_file p && are_too_many (length (filter is_file entries)) (pieces_of piece_length entries))

-- the checks of a file's properties alone; that links are refused is ours
abbrev pub property_checks : Data → List Check
property_checks properties =
    fault_if (has_key properties (codes "symlink path")) Symlink
    ∷ fault_if (not (has_lawful_length properties)) FileLength
    ∷ fault_if (not (has_lawful_root properties)) BadRoot
    ∷ []

-- the checks of a file after earlier entries; the root conflict is ours
abbrev pub file_checks : List TreeEntry → TreeEntry → List Check
file_checks before p =
    property_checks (properties_of p)
    ++ fault_if (has_root_conflict (contents_of before) (content_of p)) RootConflict ∷ []

abbrev pub entry_check : ℕ → List TreeEntry → TreeEntry → Check
entry_check piece_length before p = first_of (
    fault_if (not (is_node p.value)) Tree
    ∷ fault_if (not (has_lawful_name p)) BadPath
    ∷ (if is_file p then first_of (file_checks before p) else None)
    ∷ fault_if (is_too_many piece_length before p) TooMany
    ∷ [])

-- the tree, each of its entries, and then whether there is a file (ours)
unfoldable pub tree_checks : ℕ → Data → List Check
tree_checks piece_length tree =
    fault_if (has_key tree []) Tree
    ∷ with_earlier (entry_check piece_length) [] (tree_entries_below [] tree)
    ++ fault_if (not (list_any is_file (tree_entries_below [] tree))) Tree ∷ []

-- ---- info

abbrev pub version_check : Option ℤ → Check
version_check None = Some NotV2
version_check (Some version) =
    if option_map_or (λ n. n == 2) (as_natural version) false then None else Some (Version version)

-- what stands in the `info` of a v1 torrent (BEP 3); that one of both versions is refused is ours
abbrev pub is_hybrid : Data → Bool
is_hybrid info =
    has_key info (codes "pieces") || has_key info (codes "length") || has_key info (codes "files")

-- a power of two of 16 KiB at least (BEP 52), and of the greatest at most (ours)
abbrev pub is_piece_length : ℕ → Bool
is_piece_length n = is_power_of_two n && nat_le min_piece_length n && nat_le n max_piece_length

unfoldable pub piece_length_of : Data → ℕ
piece_length_of info = unwrap_or (natural_at info (codes "piece length")) 0

unfoldable pub tree_of : Data → Data
tree_of info = unwrap_or (dictionary_at info (codes "file tree")) no_dictionary

unfoldable pub head_checks : Data → List Check
head_checks info =
    version_check (integer_at info (codes "meta version"))
    ∷ fault_if (is_hybrid info) Hybrid
    ∷ fault_if (is_none (string_at info (codes "name"))) NoName
    ∷ fault_if (not (is_piece_length (piece_length_of info))) PieceLength
    ∷ fault_if (is_none (dictionary_at info (codes "file tree"))) Tree
    ∷ []

abbrev pub info_checks : Data → List Check
info_checks info = head_checks info ++ tree_checks (piece_length_of info) (tree_of info)

-- ---- the layers of the files

-- what is looked for in these bytes, as the layer of a file of this many bytes with this root
abbrev pub layer_bytes_checks : ℕ → ℕ → List ℕ → List ℕ → List Check
layer_bytes_checks piece_length bytes root layer =
    fault_if (not (has_layer_size piece_length bytes layer)) LayerSize
    ∷ fault_if (not (has_root piece_length bytes root layer)) LayerDiffers
    ∷ []

-- what is wrong with the layer of a file of this many bytes with this root
abbrev pub layer_check_for : ℕ → Data → ℕ → List ℕ → Check
layer_check_for piece_length layers bytes root =
    if nat_lt piece_length bytes then first_of (
    fault_if (is_none (string_at layers root)) LayerMissing
    ∷ layer_bytes_checks piece_length bytes root (layer_for piece_length layers bytes root)) else None

-- what is wrong with that of an entry
abbrev pub layer_check : ℕ → Data → TreeEntry → Check
layer_check piece_length layers p = layer_check_for piece_length layers (length_of p) (root_of p)

unfoldable pub layer_checks : ℕ → Data → Data → List Check
layer_checks piece_length layers tree =
    map (layer_check piece_length layers) (filter is_file (tree_entries_below [] tree))

-- ---- the whole

unfoldable pub info_of : Data → Data
info_of torrent = unwrap_or (dictionary_at torrent (codes "info")) no_dictionary

-- nothing where there is no such key: it is asked for only where a file needs a layer
unfoldable pub layers_of : Data → Data
layers_of torrent = unwrap_or (field_of torrent (codes "piece layers")) no_dictionary

-- the first fault of a torrent
unfoldable pub first_fault : Data → Check
first_fault torrent =
    let info = info_of torrent in
    first_of (fault_if (is_none (dictionary_at torrent (codes "info"))) NoInfo
    ∷ info_checks info
    ++ layer_checks (piece_length_of info) (layers_of torrent) (tree_of info))

-- the first fault of an info dictionary alone
unfoldable pub first_info_fault : Data → Check
first_info_fault info = first_of (fault_if (not (is_dictionary info)) NoInfo ∷ info_checks info)
