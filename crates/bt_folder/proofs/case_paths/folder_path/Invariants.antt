use Rattle.std.proofs.Common.{◌≡◌, fold, map, take, string_bytes}
use Rattle.std.specs.Path.{path_buf_bytes, path_join}
use Rattle.bt_folder.proofs.case_paths.folder_path.Given as goal

abbrev pub invariant-loop-element : goal.invariant-loop-element
invariant-loop-element l = path_buf_bytes l.path ≡ fold path_join l.dir (map string_bytes (take l.element-index l.elements))
