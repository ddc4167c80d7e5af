-- How a text is told on standard error: the characters by which a terminal may do something, or show a line
-- other than it is, are told by their numbers.
use Rattle.std.specs.Prelude.{ℕ, Bool, ◌||◌, ◌==◌, ◌++◌, if◌then◌else◌, false, List, codes, encode_utf8, flat_map}
use Rattle.std.specs.Char.{is_control}
use Rattle.std.specs.Fmt.{digits}
use Rattle.std.specs.Int.{is_in_range}
use Rattle.std.specs.Str.{chars}

-- the end of a line or of a paragraph (Unicode, general categories Zl and Zp)
abbrev pub is_separator : ℕ → Bool
is_separator c = is_in_range 0x2028 0x2029 c

-- a character that sets the direction in which text is read (UAX #9, Bidi_Control)
abbrev pub is_direction : ℕ → Bool
is_direction c =
    c == 0x61c || is_in_range 0x200e 0x200f c || is_in_range 0x202a 0x202e c || is_in_range 0x2066 0x2069 c

-- one of these, or a control character (Unicode, general category Cc)
abbrev pub is_escaped : ℕ → Bool
is_escaped c = is_control c || is_separator c || is_direction c

-- a character as it is told: by its number, in lower-case hexadecimal, or as it is
unfoldable pub escaped_char : ℕ → List ℕ
escaped_char c = if is_escaped c then codes "\\u{" ++ digits 16 false c ++ codes "}" else encode_utf8 c

-- each character of a text
unfoldable pub escaped_text : List ℕ → List ℕ
escaped_text text = flat_map escaped_char (chars text)

-- a character of a text of several lines: the line feed as it is
unfoldable pub char_of_lines : ℕ → List ℕ
char_of_lines c = if c == 0xa then encode_utf8 c else escaped_char c

-- each character of such a text
unfoldable pub escaped_lines_text : List ℕ → List ℕ
escaped_lines_text text = flat_map char_of_lines (chars text)
