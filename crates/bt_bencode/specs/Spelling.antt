-- The one spelling of a value (BEP 3, "bencoding"). Numbers are spelled as the library spells them, which is
-- of those with at most 64 digits; each number of a value that memory holds has fewer.
use Rattle.std.specs.Prelude.{ℕ, List, [], ◌∷◌, ◌++◌, length}
use Rattle.std.specs.Fmt.{decimal, signed_decimal}
use Rattle.bt_bencode.specs.Letters.{letter_i, letter_l, letter_d, letter_e, colon}
use Rattle.bt_bencode.specs.Value.{Data, integer, string, list, dictionary}
use Rattle.bt_bencode.specs.Value.{Items, no_items, item, Entries, no_entries, entry}

-- the length in base ten, a colon, and the bytes
abbrev pub string_spelling : List ℕ → List ℕ
string_spelling s = decimal (length s) ++ colon ∷ s

unfoldable mutual
  pub spelling_of : Data → List ℕ
  spelling_of (integer z) = letter_i ∷ (signed_decimal z ++ letter_e ∷ [])
  spelling_of (string s) = string_spelling s
  spelling_of (list ds) = letter_l ∷ (items_spelling ds ++ letter_e ∷ [])
  spelling_of (dictionary es) = letter_d ∷ (entries_spelling es ++ letter_e ∷ [])

  pub items_spelling : Items → List ℕ
  items_spelling no_items = []
  items_spelling (item d ds) = spelling_of d ++ items_spelling ds

  pub entries_spelling : Entries → List ℕ
  entries_spelling no_entries = []
  entries_spelling (entry key d es) = string_spelling key ++ spelling_of d ++ entries_spelling es
