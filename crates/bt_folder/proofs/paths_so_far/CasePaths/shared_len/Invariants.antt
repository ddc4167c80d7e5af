-- The path and the last one begin with the same elements so far.
use Rattle.std.proofs.Common.{◌≡◌, ◌≤◌, map, take, string_bytes, vec_len}
use Rattle.bt_folder.specs.CasePaths.{texts}
use Rattle.bt_folder.proofs.paths_so_far.CasePaths.shared_len.Given as goal

abbrev pub invariant-loop-place : goal.invariant-loop-place
invariant-loop-place l = record {
  in_path : l.place ≤ vec_len l.self.path;
  same : map string_bytes (take l.place l.self.path.items) ≡ texts (take l.place l.elements);
}
