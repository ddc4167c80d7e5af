-- The steps of the walk over a file tree. No public contract cites them.
use Rattle.std.specs.Prelude.{◌≡◌, ℕ, true, false, List, [], ◌∷◌, ◌++◌, map, filter, Option, None, Some}
use Rattle.bt_bencode.specs.Value.{Data, no_entries, entry}
use Rattle.bt_bencode.specs.Value.{data_of}
use Rattle.bt_meta.specs.Fields.{has_key, dictionary_at, no_dictionary}
use Rattle.bt_meta.specs.TreeEntries.{TreeEntry, tree_entries_below, tree_entries_among, with_earlier}
use Rattle.bt_meta.specs.Files.{is_file, properties_of, contents_of, file_of, file_at, pieces_of}
use Rattle.bt_meta.specs.Faults.{Check, first_of, is_node, has_lawful_name, entry_check}
use Rattle.bt_meta.specs.ReaderSteps.{Refuses, AreShort}
use Rattle.bt_meta.specs.declared.error.MetaError.{MetaError}
use Rattle.bt_meta.specs.declared.walk.Walk.{Walk}
use Rattle.bt_meta.specs.declared.walk.Node.{Node}
use Rattle.bt_meta.specs.declared.walk.Node.TheVariants.{Folder, File as file_node}
use Rattle.bt_meta.specs.PropertySteps.{HasLengths}

-- the walk has come past these entries
pub record IsWalkOver (piece_length : ℕ) (entries : List TreeEntry) (walk : Walk) : Type 0 where
  pub files : map file_of walk.files.items
      ≡ with_earlier (file_at piece_length no_dictionary) [] (filter is_file entries)
  pub pieces : walk.pieces ≡ pieces_of piece_length entries
  pub short : AreShort (map file_of walk.files.items)
  pub lengths : HasLengths walk.lengths (contents_of entries)

-- after whichever entries, the walk tells this of all of them and of the first fault of these
pub record Walks (piece_length : ℕ) (entries : List TreeEntry) (old : Walk)
    (P : List TreeEntry → Check → Type 0) : Type 0 where
  pub told : (before : List TreeEntry) → IsWalkOver piece_length before old
      → P (before ++ entries) (first_of (with_earlier (entry_check piece_length) before entries))

-- the walk comes past these entries too, and they have no fault
abbrev pub Passes : ℕ → List TreeEntry → Walk → Walk → Type 0
Passes piece_length entries old new =
    Walks piece_length entries old (λ all fault. IsWalkOver piece_length all new × (fault ≡ None))

-- the walk is refused at the first fault of these entries
abbrev pub Stops : ℕ → List TreeEntry → Walk → MetaError → Type 0
Stops piece_length entries old e = Walks piece_length entries old (λ all fault. Refuses fault e)

-- ---- one entry

-- an entry of a folder with this path, with what lies below it
abbrev pub tree_entries_of : List (List ℕ) → List ℕ → Data → List TreeEntry
tree_entries_of path key d = tree_entries_among path (entry key d no_entries)

-- a folder has no properties; a file has these, and nothing lies below it
abbrev pub HasKind : Data → Node → Type 0
HasKind d Folder = has_key d [] ≡ false
HasKind d (file_node properties) =
    (has_key d [] ≡ true) × (dictionary_at d [] ≡ Some (data_of properties.now))
    × ((path : List (List ℕ)) → tree_entries_below path d ≡ [])

-- this is what the value is as an entry
abbrev pub IsNodeOf : Data → Node → Type 0
IsNodeOf d node = (is_node d ≡ true) × HasKind d node

-- an entry with this path is a file with these properties
pub record IsFileEntry (path : List (List ℕ)) (name : List ℕ) (d : Data) (p : TreeEntry) : Type 0 where
  pub path_is : p.path ≡ path ++ name ∷ []
  pub node : is_node p.value ≡ true
  pub named : has_lawful_name p ≡ true
  pub file : is_file p ≡ true
  pub properties_are : properties_of p ≡ d

-- a fact of each such entry
abbrev pub AtFile : List (List ℕ) → List ℕ → Data → (TreeEntry → Type 0) → Type 0
AtFile path name properties P = (p : TreeEntry) → IsFileEntry path name properties p → P p

-- the walk has come past the entry; but where it is a folder, with this path, not past what lies below
abbrev pub Enters : ℕ → List (List ℕ) → List ℕ → Data → Walk → Walk → Option (List (List ℕ)) → Type 0
Enters piece_length path key d old new None = Passes piece_length (tree_entries_of path key d) old new
Enters piece_length path key d old new (Some inner) =
    let p : TreeEntry = record { path = path ++ key ∷ []; value = d } in
    (inner ≡ p.path) × Passes piece_length (p ∷ []) old new
    × (tree_entries_of path key d ≡ p ∷ tree_entries_below p.path d)

-- the walk is refused at the first fault of the entry
abbrev pub StopsAtEntry : ℕ → List (List ℕ) → List ℕ → Data → Walk → MetaError → Type 0
StopsAtEntry piece_length path key d old e = Stops piece_length (tree_entries_of path key d) old e
