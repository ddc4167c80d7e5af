-- The folder that a file lies in.
use Rattle.std.specs.Prelude.{ℕ, List, [], unwrap_or}
use Rattle.std.specs.Path.{path_parent}
use Rattle.bt_folder.specs.FolderSync.{or_dot}

-- the folder that the last name of a path lies in
abbrev pub folder_of : List ℕ → List ℕ
folder_of path = or_dot (unwrap_or (path_parent path) [])
