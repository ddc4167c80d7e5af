-- How names and paths are printed, and lines.
use Rattle.std.specs.Prelude.{ℕ, ◌++◌, ◌==◌, ◌&&◌, if◌then◌else◌, Bool, not, List, [], ◌∷◌, codes, nat_eq, nat_le}
use Rattle.std.specs.List.{starts_with, list_all}
use Rattle.std.specs.Str.{is_utf8}
use Rattle.hex.specs.Hex.{encode_lower}

-- neither below U+0020 nor U+007F: in UTF-8 these are characters of one byte
abbrev pub is_visible : ℕ → Bool
is_visible byte = nat_le 32 byte && not (byte == 127)

-- it has no control character, and does not look like hexadecimal
abbrev pub is_readable : List ℕ → Bool
is_readable name = list_all is_visible name && not (starts_with nat_eq name (codes "0x"))

-- text that is printed as it is
abbrev pub is_plain : List ℕ → Bool
is_plain name = is_utf8 name && is_readable name

-- how any other name is printed
abbrev pub hex_text : List ℕ → List ℕ
hex_text name = codes "0x" ++ encode_lower name

-- how a name or a path is printed
unfoldable pub display_text : List ℕ → List ℕ
display_text name = if is_plain name then name else hex_text name

-- a line with its end, one line feed
abbrev pub line_text : List ℕ → List ℕ
line_text line = line ++ 10 ∷ []
