-- The entries of one folder: steps of the walk that only private functions cite.
use Rattle.std.specs.Prelude.{◌≡◌, ◌++◌, ℕ, List, [], ◌∷◌, length, map, reverse, String, string_bytes, string_cmp}
use Rattle.std.specs.List.{All}
use Rattle.std.specs.List.Sorted.{IsStrictlySortedBy}
use Rattle.std.specs.Global.{Global}
use Rattle.bt_make.specs.Folder.{path_behind}
use Rattle.bt_make.specs.declared.folder.EntryKind.TheVariants.{File, Folder}
use Rattle.bt_make.specs.declared.folder.FolderEntry.{FolderEntry}
use Rattle.bt_make.specs.declared.folder.Walk.{Walk}

-- entries of a folder that lies at `depth` were put after those that were there, by their names: the greatest
-- first
pub record PutsEntries (depth : ℕ) (old new : List FolderEntry) : Type 0 where
  pub names : List (String Global)
  pub ascending : IsStrictlySortedBy string_cmp names
  pub entries : List FolderEntry
  pub behind : new ≡ old ++ entries
  pub named : map (λ entry. entry.name) entries ≡ reverse names
  pub inside : All (λ entry. entry.depth ≡ depth) entries

-- nothing was found, and the entries of the folder wait
pub record IsBegun (walk : Walk) : Type 0 where
  pub none : walk.entries.items ≡ []
  pub top : walk.path.items ≡ []
  pub put : PutsEntries 0 [] walk.waiting.items

-- the last of the entries that waited was found; where it is a folder, its entries wait in its place
pub record GoesOn (old new : Walk) : Type 0 where
  pub entry : FolderEntry
  pub others : List FolderEntry
  pub taken : old.waiting.items ≡ others ++ entry ∷ []
  pub found : new.entries.items ≡ old.entries.items ++ entry ∷ []
  pub path : map string_bytes new.path.items ≡ path_behind (map string_bytes old.path.items) entry
  pub file : entry.kind ≡ File → new.waiting.items ≡ others
  pub folder : entry.kind ≡ Folder → PutsEntries (length new.path.items) others new.waiting.items
