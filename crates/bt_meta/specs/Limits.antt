-- The limits of a torrent that is read or made here: the profile of this crate, where BEP 52 sets none.
use Rattle.std.specs.Prelude.{ℕ, Bool, ◌^◌, ◌||◌, nat_lt}

-- how many bytes the text of a torrent has at most
abbrev pub max_text_length : ℕ
max_text_length = 2 ^ 27

-- how many pieces its files have together at most
abbrev pub max_piece_count : ℕ
max_piece_count = 2 ^ 21

-- how many files it has at most
abbrev pub max_file_count : ℕ
max_file_count = 65536

-- how many elements a path has at most
abbrev pub max_path_length : ℕ
max_path_length = 64

-- whether there are too many files, or too many pieces
abbrev pub are_too_many : ℕ → ℕ → Bool
are_too_many files pieces = nat_lt max_file_count files || nat_lt max_piece_count pieces
