-- The value of a dictionary's key (BEP 3, "bencoding").
use Rattle.std.specs.Prelude.{ℕ, List, nat_eq, Option, None, Some, if◌then◌else◌}
use Rattle.std.specs.Cmp.Lexicographic.{pointwise}
use Rattle.bt_bencode.specs.Value.{Data, integer, string, list, dictionary, Entries, no_entries, entry}

-- the value of the first entry with this key
abbrev pub first_value_of : Entries → List ℕ → Option Data
first_value_of no_entries key = None
first_value_of (entry k d es) key = if pointwise nat_eq k key then Some d else first_value_of es key

-- what a dictionary has at the key; nothing where the value is no dictionary
abbrev pub field_of : Data → List ℕ → Option Data
field_of (integer z) key = None
field_of (string s) key = None
field_of (list ds) key = None
field_of (dictionary es) key = first_value_of es key
