-- The laws of spellings (BEP 3, "bencoding"), and of which fault of some bytes is the first.
use Rattle.std.specs.Prelude.{◌≡◌, ◌≢◌, ℕ, ◌^◌, ◌<◌, List, [], ◌++◌, length, FitsSigned}
use Rattle.std.specs.Int.{w64}
use Rattle.bt_bencode.specs.Value.{Data, integer, string, list, dictionary}
use Rattle.bt_bencode.specs.Value.{Items, no_items, item, Entries, no_entries, entry}
use Rattle.bt_bencode.specs.Spelling.{spelling_of}
use Rattle.bt_bencode.specs.Doc.{IsCanonical}
use Rattle.bt_bencode.specs.Error.{Fault}
use Rattle.bt_bencode.specs.Reader.{IsFirstFault}

-- a length that memory has
abbrev pub FitsMemory : List ℕ → Type 0
FitsMemory bytes = length bytes < 2 ^ 64

unfoldable mutual
  -- what a `Value` can hold: at every level, each integer has 64 bits, and each string and key fits memory;
  -- the whole spelling may be longer
  pub IsRepresentable : Data → Type 0
  IsRepresentable (integer z) = FitsSigned w64 z
  IsRepresentable (string s) = FitsMemory s
  IsRepresentable (list ds) = ItemsAreRepresentable ds
  IsRepresentable (dictionary es) = EntriesAreRepresentable es

  pub ItemsAreRepresentable : Items → Type 0
  ItemsAreRepresentable no_items = Unit {0}
  ItemsAreRepresentable (item d ds) = IsRepresentable d × ItemsAreRepresentable ds

  pub EntriesAreRepresentable : Entries → Type 0
  EntriesAreRepresentable no_entries = Unit {0}
  EntriesAreRepresentable (entry key d es) = FitsMemory key × IsRepresentable d × EntriesAreRepresentable es

-- no spelling is a proper prefix of another, of values that a `Value` can hold
abbrev pub NoProperPrefix : Type 0
NoProperPrefix = (d e : Data) (rest : List ℕ) → IsRepresentable d → IsRepresentable e
    → spelling_of d ++ rest ≡ spelling_of e → rest ≡ []

-- two of them that one text begins with are one
abbrev pub BeginsOnce : Type 0
BeginsOnce = (d e : Data) (rest more : List ℕ) → IsRepresentable d → IsRepresentable e
    → spelling_of d ++ rest ≡ spelling_of e ++ more → d ≡ e

-- two first faults of the same bytes are one, at one offset
abbrev pub FirstFaultIsOne : Type 0
FirstFaultIsOne = (bytes : List ℕ) (f g : Fault) (n m : ℕ) → FitsMemory bytes
    → IsFirstFault bytes f n → IsFirstFault bytes g m → (f ≡ g) × (n ≡ m)

-- bytes that have a first fault spell no canonical value
abbrev pub FirstFaultRefuses : Type 0
FirstFaultRefuses = (bytes : List ℕ) (f : Fault) (n : ℕ) → FitsMemory bytes
    → IsFirstFault bytes f n → (d : Data) → IsCanonical d → spelling_of d ≢ bytes
