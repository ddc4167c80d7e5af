use Rattle.std.proofs.Common.{◌≡◌, take}
use Rattle.std.specs.Path.{path_buf_bytes}
use Rattle.bt_meta.specs.FilePath.{texts}
use Rattle.bt_check.specs.Paths.{path_below}
use Rattle.bt_check.proofs.paths.data_path.Given as goal

abbrev pub invariant-loop-element : goal.invariant-loop-element
invariant-loop-element l = path_buf_bytes l.file ≡ path_below l.dir (texts (take l.element-index l.elements))
