-- Why a torrent can't have one file more, by what is known of it before it is read.
use Rattle.std.specs.Prelude.{ℕ, ◌+◌, ◌||◌, Option, None, Some, nat_lt, if◌then◌else◌}
use Rattle.bt_meta.specs.Files.{piece_count}
use Rattle.bt_meta.specs.declared.writer.MakeError.{MakeError}
use Rattle.bt_meta.specs.declared.writer.MakeError.TheVariants.{FileLength, Count}
use Rattle.bt_meta.specs.Limits.{are_too_many, max_path_length}
use Rattle.bt_tree.specs.Limits.{max_file_length}

-- too many bytes; or too many elements in its path, files or pieces with it
abbrev pub count_refusal : ℕ → ℕ → ℕ → ℕ → ℕ → Option MakeError
count_refusal files pieces piece_length elements length =
    if nat_lt max_file_length length then Some FileLength
    else if nat_lt max_path_length elements
    || are_too_many (files + 1) (pieces + piece_count piece_length length)
    then Some Count
    else None
