-- A spelling that fits memory is that of a value that a `Value` can hold.
use Rattle.bt_bencode.proofs.Base.{ℕ, ◌^◌, ◌<◌, ◌≤◌, List, [], ◌∷◌, length, arith, length-append, decimal, Data, integer, string, list, dictionary, Items, no_items, item, Entries, no_entries, entry, string_spelling, items_spelling, entries_spelling}
use Rattle.bt_bencode.specs.Spelling.{spelling_of}
use Rattle.bt_bencode.specs.Doc.{HasSmallIntegers, ItemsHaveSmallIntegers, EntriesHaveSmallIntegers}
use Rattle.bt_bencode.specs.Law.{IsRepresentable, ItemsAreRepresentable, EntriesAreRepresentable}

pub string_is_longer : (s : List ℕ) → length s ≤ length (string_spelling s)
string_is_longer s = omega (arith, length-append (decimal (length s)) (58 ∷ s))

mutual
  unfolding spelling_of HasSmallIntegers IsRepresentable

  pub representable : (d : Data) → HasSmallIntegers d → length (spelling_of d) < 2 ^ 64 → IsRepresentable d
  representable (integer z) fits short = fits
  representable (string s) fits short = omega (arith, string_is_longer s)
  representable (list ds) fits short = items_representable ds fits (omega (arith, length-append (items_spelling ds) (101 ∷ [])))
  representable (dictionary es) fits short = entries_representable es fits (omega (arith, length-append (entries_spelling es) (101 ∷ [])))

  pub items_representable : (ds : Items) → ItemsHaveSmallIntegers ds → length (items_spelling ds) < 2 ^ 64 → ItemsAreRepresentable ds
  items_representable no_items fits short = tt
  items_representable (item d ds) fits short =
      let parts = simp length-append at short in
      (representable d fits.0 (omega (arith, parts)), items_representable ds fits.1 (omega (arith, parts)))

  pub entries_representable : (es : Entries) → EntriesHaveSmallIntegers es → length (entries_spelling es) < 2 ^ 64 → EntriesAreRepresentable es
  entries_representable no_entries fits short = tt
  entries_representable (entry key d es) fits short =
      let parts = simp length-append at short in (
        omega (arith, parts, simp length-append at (string_is_longer key)),
        representable d fits.0 (omega (arith, parts)),
        entries_representable es fits.1 (omega (arith, parts)),
      )
