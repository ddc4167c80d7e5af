-- The names in a folder.
use Rattle.std.specs.Prelude.{ℕ, List, Bool}
use Rattle.std.specs.BTreeSet.{contains_text}
use Rattle.bt_folder.specs.declared.folder_names.FolderNames.{FolderNames}

-- whether the folder has this name, byte for byte
abbrev pub has_name : FolderNames → List ℕ → Bool
has_name folder name = contains_text folder.names name
