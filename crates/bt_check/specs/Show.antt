-- How a torrent is printed.
use Rattle.std.specs.Prelude.{ℕ, ◌++◌, ◌==◌, if◌then◌else◌, List, [], ◌∷◌, codes, length, map}
use Rattle.std.specs.Fmt.{decimal}
use Rattle.std.specs.List.{flat_map}
use Rattle.hex.specs.Hex.{encode_lower}
use Rattle.bt_meta.specs.Files.{File}
use Rattle.bt_meta.specs.Torrent.{Metainfo, total_pieces}
use Rattle.bt_check.specs.Display.{display_text, line_text}
use Rattle.bt_check.specs.Paths.{path_text}

-- the root of a file; an empty file has none
abbrev pub root_text : File → List ℕ
root_text file = if file.length == 0 then codes "-" else encode_lower file.root

-- the lines on a whole torrent
abbrev pub head_lines : Metainfo → List (List ℕ)
head_lines torrent =
    (codes "name " ++ display_text torrent.name)
    ∷ (codes "infohash " ++ encode_lower torrent.infohash)
    ∷ (codes "piece length " ++ decimal torrent.piece_length)
    ∷ (codes "pieces " ++ decimal (total_pieces torrent))
    ∷ (codes "files " ++ decimal (length torrent.files))
    ∷ []

-- the line on one of its files
abbrev pub entry_line : File → List ℕ
entry_line file =
    decimal file.length ++ codes " " ++ root_text file ++ codes " " ++ display_text (path_text file.path)

-- what is printed of a torrent
unfoldable pub show_text : Metainfo → List ℕ
show_text torrent = flat_map line_text (head_lines torrent ++ map entry_line torrent.files)
