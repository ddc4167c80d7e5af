use Rattle.std.proofs.Common.{◌≡◌, map, take, string_bytes}
use Rattle.std.specs.Path.{path_buf_bytes}
use Rattle.bt_check.specs.Paths.{path_below}
use Rattle.bt_check.proofs.paths.found_path.Given as goal

abbrev pub invariant-loop-element : goal.invariant-loop-element
invariant-loop-element l = path_buf_bytes l.path ≡ path_below l.dir (map string_bytes (take l.element-index l.elements))
