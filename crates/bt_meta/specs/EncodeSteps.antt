-- The steps of making the value of a torrent. No public contract cites them.
use Rattle.std.specs.Prelude.{◌≡◌, ℕ, ◌≤◌, if◌then◌else◌, nat_eq, Bool, true, false, List, [], ◌∷◌}
use Rattle.std.specs.List.{All}
use Rattle.std.specs.Option.{option_map}
use Rattle.std.specs.Ordering.{nat_cmp}
use Rattle.std.specs.Borrow.{Bor}
use Rattle.std.specs.declared.cmp.Ordering.TheVariants.{Greater}
use Rattle.std.specs.Cmp.Lexicographic.{pointwise, slice_cmp}
use Rattle.std.specs.BTreeMap.{BTreeMap, get}
use Rattle.bt_bencode.specs.Dictionary.{first_value_of}
use Rattle.bt_bencode.specs.Doc.{EntriesAscend}
use Rattle.bt_bencode.specs.Value.{Data, string, dictionary, Entries, no_entries, entry}
use Rattle.bt_tree.specs.Limits.{max_file_length}
use Rattle.bt_meta.specs.declared.writer.Made.{Made}
use Rattle.bt_meta.specs.GivenFiles.{Given, given_of}
use Rattle.bt_meta.specs.Encode.{first_layer, AreLayersOf, value_made}

abbrev pub given_at : Bor Made → Given
given_at m = given_of m.now

-- a value of a torrent of the files in tree order
pub record IsValueOf (name : List ℕ) (piece_length : ℕ) (files : List Given) (value : Data) : Type 0 where
  pub layers : Entries
  pub layered : AreLayersOf piece_length files layers
  pub made : value ≡ value_made name piece_length files layers

-- the entries, and the others after them
abbrev pub entries_before : Entries → Entries → Entries
entries_before no_entries others = others
entries_before (entry key d es) others = entry key d (entries_before es others)

-- whether an element is not empty
abbrev pub is_nonempty : List ℕ → Bool
is_nonempty [] = false
is_nonempty (byte ∷ bytes) = true

-- no element is empty
abbrev pub AreNonEmpty : List (List ℕ) → Type 0
AreNonEmpty [] = Unit {0}
AreNonEmpty (name ∷ path) = (is_nonempty name ≡ true) × AreNonEmpty path

-- each key stands before the name, and is not empty
abbrev pub AreBefore : List ℕ → Entries → Type 0
AreBefore name no_entries = Unit {0}
AreBefore name (entry key d es) =
    (slice_cmp nat_cmp name key ≡ Greater) × (is_nonempty key ≡ true) × AreBefore name es

-- an entry opened as the folder of this name: what stays, and what was in it. Any other entry stays as it is
abbrev pub opened_entry : List ℕ → List ℕ → Data → Entries × Entries
opened_entry name key (dictionary es) =
    if pointwise nat_eq key name then (no_entries, es) else (entry key (dictionary es) no_entries, no_entries)
opened_entry name key d = (entry key d no_entries, no_entries)

-- a folder's entries, with the last one opened so
abbrev pub opened : List ℕ → Entries → Entries × Entries
opened name no_entries = (no_entries, no_entries)
opened name (entry key d no_entries) = opened_entry name key d
opened name (entry key d (entry other e es)) =
    let rest = opened name (entry other e es) in
    (entry key d rest.0, rest.1)

-- the path comes after those of a folder's files: its first name comes after theirs, or is that of the
-- last folder, and there the rest of the path does
abbrev pub ComesAfter : List (List ℕ) → Entries → Type 0
ComesAfter [] es = es ≡ no_entries
ComesAfter (name ∷ path) es =
    let parts = opened name es in
    AreBefore name parts.0 × ComesAfter path parts.1

-- the map has the first layer of each root
abbrev pub HasFirstLayers : ℕ → List Given → BTreeMap (List ℕ) (Bor (List ℕ)) → Type 0
HasFirstLayers piece_length files layers = (root : List ℕ) →
    option_map (λ layer. layer.now) (get (slice_cmp nat_cmp) layers root)
    ≡ first_layer piece_length files root

-- the entries are the layers of the map at their roots, in ascending order
pub record AreEntriesOf (layers : BTreeMap (List ℕ) (Bor (List ℕ))) (entries : Entries) : Type 0 where
  pub ascending : EntriesAscend entries
  pub first : (root : List ℕ) → first_value_of entries root
      ≡ option_map string (option_map (λ layer. layer.now) (get (slice_cmp nat_cmp) layers root))

-- no file is too long
abbrev pub AreShortFiles : List (Bor Made) → Type 0
AreShortFiles files = All (λ m. m.now.length ≤ max_file_length) files
