-- The folder that the last name of a path lies in.
use Rattle.std.specs.Prelude.{ℕ, List, [], Option, None, codes, if◌then◌else◌, is_some}
use Rattle.std.specs.Option.{option_map}
use Rattle.std.specs.Path.{path_file_name, path_parent}

-- a path, where the dot stands for the empty one
abbrev pub or_dot : List ℕ → List ℕ
or_dot [] = codes "."
or_dot path = path

-- the folder that the last name of a path lies in, where it ends in a name: `..`, `.` alone and the root are none
abbrev pub folder_above : List ℕ → Option (List ℕ)
folder_above path = if is_some (path_file_name path) then option_map or_dot (path_parent path) else None
