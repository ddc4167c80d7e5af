-- What is told of a torrent that was written.
use Rattle.std.specs.Prelude.{ℕ, ◌++◌, List, codes}
use Rattle.hex.specs.Hex.{encode_lower}
use Rattle.bt_check.specs.Display.{line_text}

-- the line that tells the infohash of a torrent
abbrev pub infohash_line : List ℕ → List ℕ
infohash_line infohash = line_text (codes "infohash " ++ encode_lower infohash)
