-- Which values are canonical: ascending keys are of BEP 3 ("bencoding"); that no two are equal, and the limits,
-- are of this project.
use Rattle.std.specs.Prelude.{◌≡◌, ℕ, ◌+◌, ◌≤◌, List, max, Option, None, Some, IfSome, FitsSigned}
use Rattle.std.specs.Int.{w64}
use Rattle.std.specs.Ordering.{nat_cmp}
use Rattle.std.specs.Cmp.Lexicographic.{slice_cmp}
use Rattle.std.specs.declared.cmp.Ordering.TheVariants.{Less}
use Rattle.bt_bencode.specs.declared.reader.TheConstants.{MAX_NESTING}
use Rattle.bt_bencode.specs.Value.{Data, integer, string, list, dictionary}
use Rattle.bt_bencode.specs.Value.{Items, no_items, item, Entries, no_entries, entry}

unfoldable mutual
  -- how deep lists and dictionaries lie in one another
  pub nesting_of : Data → ℕ
  nesting_of (integer z) = 0
  nesting_of (string s) = 0
  nesting_of (list ds) = 1 + items_nesting ds
  nesting_of (dictionary es) = 1 + entries_nesting es

  pub items_nesting : Items → ℕ
  items_nesting no_items = 0
  items_nesting (item d ds) = max (nesting_of d) (items_nesting ds)

  pub entries_nesting : Entries → ℕ
  entries_nesting no_entries = 0
  entries_nesting (entry key d es) = max (nesting_of d) (entries_nesting es)

-- key stands before other in the order of raw bytes
abbrev pub IsBefore : List ℕ → List ℕ → Type 0
IsBefore key other = slice_cmp nat_cmp key other ≡ Less

abbrev pub first_key_of : Entries → Option (List ℕ)
first_key_of no_entries = None
first_key_of (entry key d es) = Some key

unfoldable mutual
  -- at every level, each key stands before the next one
  pub HasAscendingKeys : Data → Type 0
  HasAscendingKeys (integer z) = Unit {0}
  HasAscendingKeys (string s) = Unit {0}
  HasAscendingKeys (list ds) = ItemsHaveAscendingKeys ds
  HasAscendingKeys (dictionary es) = EntriesAscend es

  pub ItemsHaveAscendingKeys : Items → Type 0
  ItemsHaveAscendingKeys no_items = Unit {0}
  ItemsHaveAscendingKeys (item d ds) = HasAscendingKeys d × ItemsHaveAscendingKeys ds

  pub EntriesAscend : Entries → Type 0
  EntriesAscend no_entries = Unit {0}
  EntriesAscend (entry key d es) =
      IfSome (first_key_of es) (IsBefore key) × HasAscendingKeys d × EntriesAscend es

unfoldable mutual
  -- at every level, each integer has 64 bits
  pub HasSmallIntegers : Data → Type 0
  HasSmallIntegers (integer z) = FitsSigned w64 z
  HasSmallIntegers (string s) = Unit {0}
  HasSmallIntegers (list ds) = ItemsHaveSmallIntegers ds
  HasSmallIntegers (dictionary es) = EntriesHaveSmallIntegers es

  pub ItemsHaveSmallIntegers : Items → Type 0
  ItemsHaveSmallIntegers no_items = Unit {0}
  ItemsHaveSmallIntegers (item d ds) = HasSmallIntegers d × ItemsHaveSmallIntegers ds

  pub EntriesHaveSmallIntegers : Entries → Type 0
  EntriesHaveSmallIntegers no_entries = Unit {0}
  EntriesHaveSmallIntegers (entry key d es) = HasSmallIntegers d × EntriesHaveSmallIntegers es

-- canonical, and of nesting at most n
pub record IsCanonicalWithin (n : ℕ) (d : Data) : Type 0 where
  pub nesting : nesting_of d ≤ n
  pub keys : HasAscendingKeys d
  pub integers : HasSmallIntegers d

abbrev pub IsCanonical : Data → Type 0
IsCanonical = IsCanonicalWithin MAX_NESTING
