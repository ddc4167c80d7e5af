-- The data files so far are those of the entries so far, at their paths, with the numbers that the pool gave so far.
use Rattle.std.proofs.Common.{◌≡◌, map, take}
use Rattle.std.specs.List.{flat_map, range_with_len, All}
use Rattle.bt_meta.specs.Files.{file_of}
use Rattle.bt_check.specs.DataFile.{file_at, number_of, IsAtPath}
use Rattle.bt_check.proofs.data_file.open_data_files.Given as goal

abbrev pub invariant-loop-file : goal.invariant-loop-file
invariant-loop-file g l =
    (map file_at l.files.items ≡ map file_of (take l.file-index l.entries))
    × All (IsAtPath l.dir) l.files.items
    × (flat_map (λ d. number_of d.disk) l.files.items ≡ range_with_len 1 l.pool.made)
