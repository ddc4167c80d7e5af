-- The path's elements so far are copied.
use Rattle.std.proofs.Common.{◌≡◌, map, take, string_bytes}
use Rattle.bt_make.proofs.command.file_with.Given as goal

abbrev pub invariant-loop-element : goal.invariant-loop-element
invariant-loop-element l = map string_bytes l.copy.items ≡ map string_bytes (take l.element-index l.path)
