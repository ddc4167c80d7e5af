-- What a dictionary holds at a key, by kind (BEP 3, "bencoding").
use Rattle.std.specs.Prelude.{ℕ, ℤ, pos, negsuc, Bool, true, false, List, Option, None, Some, is_some}
use Rattle.std.specs.Option.{option_and_then}
use Rattle.bt_bencode.specs.Value.{Data, integer, string, list, dictionary, Entries, no_entries, entry}
use Rattle.bt_bencode.specs.Dictionary.{field_of}

abbrev pub as_integer : Data → Option ℤ
as_integer (integer z) = Some z
as_integer (string s) = None
as_integer (list ds) = None
as_integer (dictionary es) = None

abbrev pub as_natural : ℤ → Option ℕ
as_natural (pos n) = Some n
as_natural (negsuc n) = None

abbrev pub as_string : Data → Option (List ℕ)
as_string (integer z) = None
as_string (string s) = Some s
as_string (list ds) = None
as_string (dictionary es) = None

abbrev pub as_dictionary : Data → Option Data
as_dictionary (integer z) = None
as_dictionary (string s) = None
as_dictionary (list ds) = None
as_dictionary (dictionary es) = Some (dictionary es)

-- the integer at the key
unfoldable pub integer_at : Data → List ℕ → Option ℤ
integer_at d key = option_and_then as_integer (field_of d key)

-- the integer at the key, if it is not negative
abbrev pub natural_at : Data → List ℕ → Option ℕ
natural_at d key = option_and_then as_natural (integer_at d key)

-- the string at the key
unfoldable pub string_at : Data → List ℕ → Option (List ℕ)
string_at d key = option_and_then as_string (field_of d key)

-- the value at the key, which is a dictionary
unfoldable pub dictionary_at : Data → List ℕ → Option Data
dictionary_at d key = option_and_then as_dictionary (field_of d key)

-- whether the dictionary has the key
unfoldable pub has_key : Data → List ℕ → Bool
has_key d key = is_some (field_of d key)

abbrev pub no_dictionary : Data
no_dictionary = dictionary no_entries

-- the entries of a dictionary; none of another value
abbrev pub entries_in : Data → Entries
entries_in (integer z) = no_entries
entries_in (string s) = no_entries
entries_in (list ds) = no_entries
entries_in (dictionary es) = es

-- whether it is a dictionary
abbrev pub is_dictionary : Data → Bool
is_dictionary (integer z) = false
is_dictionary (string s) = false
is_dictionary (list ds) = false
is_dictionary (dictionary es) = true

-- whether it is a dictionary of one entry
abbrev pub is_single : Data → Bool
is_single (integer z) = false
is_single (string s) = false
is_single (list ds) = false
is_single (dictionary no_entries) = false
is_single (dictionary (entry key d no_entries)) = true
is_single (dictionary (entry key d (entry other e es))) = false
