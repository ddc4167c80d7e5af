-- The entries of a file tree (BEP 52, "file tree").
use Rattle.std.specs.Prelude.{ℕ, List, [], ◌∷◌, ◌++◌}
use Rattle.bt_bencode.specs.Value.{Data, integer, string, list, dictionary, Entries, no_entries, entry}

-- an entry, a file or a folder: a key that is not empty, with its value; its path is the keys from the top of
-- the tree down to its own
pub record TreeEntry : Type 0 where
  pub path : List (List ℕ)
  pub value : Data

unfoldable mutual
  -- the entries below a folder with this path, in tree order: each one right before those that lie in it
  pub tree_entries_below : List (List ℕ) → Data → List TreeEntry
  tree_entries_below path (integer z) = []
  tree_entries_below path (string s) = []
  tree_entries_below path (list ds) = []
  tree_entries_below path (dictionary es) = tree_entries_among path es

  pub tree_entries_among : List (List ℕ) → Entries → List TreeEntry
  tree_entries_among path no_entries = []
  tree_entries_among path (entry [] d es) = tree_entries_among path es
  tree_entries_among path (entry (byte ∷ bytes) d es) =
      let inner = path ++ (byte ∷ bytes) ∷ [] in
      (record { path = inner; value = d }) ∷ (tree_entries_below inner d ++ tree_entries_among path es)

-- each element of a list with the ones before it, through a function of the two; the first list is before all
abbrev pub with_earlier : {A B : Type 0} → (List A → A → B) → List A → List A → List B
with_earlier f before [] = []
with_earlier f before (x ∷ xs) = f before x ∷ with_earlier f (before ++ x ∷ []) xs
