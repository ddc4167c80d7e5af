-- What a log says: its text, in one format or begun in the one and gone on in the other.
use Rattle.std.specs.Prelude.{◌≡◌, ◌≢◌, ℕ, ◌+◌, ◌≤◌, List, [], ◌∷◌, ◌++◌, length, take, drop, codes, All, ⊤}
use Rattle.bt_resume.specs.Limits.{header_length, max_log_length}
use Rattle.bt_resume.specs.Hint.{hints_spelling, hint_spelling, IsHint, BeginsNoHint}
use Rattle.bt_resume.specs.declared.hint.Format.{Format}
use Rattle.bt_resume.specs.declared.hint.Format.TheVariants.{One, Two}
use Rattle.bt_resume.specs.declared.hint.Hint.{Hint}

-- A log of format 1; one of format 2; or one that was begun in format 1 and goes on in format 2.
pub data LogText : Type 0 where
  of_one : (hints : List Hint) → LogText
  of_two : (hints : List Hint) → LogText
  renewed : (olds news : List Hint) → LogText

-- all its hints, in order
abbrev pub hints_in : LogText → List Hint
hints_in (of_one hints) = hints
hints_in (of_two hints) = hints
hints_in (renewed olds news) = olds ++ news

-- the format of its header
abbrev pub header_format : LogText → Format
header_format (of_one hints) = One
header_format (of_two hints) = Two
header_format (renewed olds news) = One

-- the format of its end
abbrev pub format_of : LogText → Format
format_of (of_one hints) = One
format_of (of_two hints) = Two
format_of (renewed olds news) = Two

-- the format's number, as users are told it
abbrev pub format_number : Format → ℕ
format_number One = 1
format_number Two = 2

-- the first bytes: the format's name, and the torrent's infohash
abbrev pub format_name : Format → List ℕ
format_name One = codes "btseed-1"
format_name Two = codes "btseed-2"

abbrev pub header : Format → (infohash : List ℕ) → List ℕ
header format infohash = format_name format ++ infohash

-- the byte "2", after which a log of format 1 goes on in format 2
abbrev pub renewing_byte : ℕ
renewing_byte = 50

-- what lies after the header
abbrev pub body_spelling : LogText → List ℕ
body_spelling (of_one hints) = hints_spelling One hints
body_spelling (of_two hints) = hints_spelling Two hints
body_spelling (renewed olds news) = hints_spelling One olds ++ renewing_byte ∷ hints_spelling Two news

-- the log with this text and nothing after it, and how long it is

abbrev pub text_spelling : (infohash : List ℕ) → LogText → List ℕ
text_spelling infohash text = header (header_format text) infohash ++ body_spelling text

abbrev pub text_length : LogText → ℕ
text_length text = header_length + length (body_spelling text)

-- a log may hold these hints
abbrev pub IsText : LogText → Type 0
IsText (of_one hints) = All (IsHint One) hints
IsText (of_two hints) = All (IsHint Two) hints
IsText (renewed olds news) = All (IsHint One) olds × All (IsHint Two) news

-- Nothing is read from these bytes in a format: no hint, and no byte after which the log goes on in the other.
abbrev pub EndsIn : Format → List ℕ → Type 0
EndsIn One rest = BeginsNoHint One rest × (take 1 rest ≢ renewing_byte ∷ [])
EndsIn Two rest = BeginsNoHint Two rest

-- What is read of the bytes after a header: the longest text whose spelling begins them.
pub record IsBody (bytes : List ℕ) (text : LogText) : Type 0 where
  pub lawful : IsText text
  pub rest : List ℕ
  pub spelled : bytes ≡ body_spelling text ++ rest
  pub longest : EndsIn (format_of text) rest

-- bytes that are a log of this torrent, with this text
pub record IsLog (infohash bytes : List ℕ) (text : LogText) : Type 0 where
  pub within : length bytes ≤ max_log_length
  pub header_is : take header_length bytes ≡ header (header_format text) infohash
  pub body_is : IsBody (drop header_length bytes) text

-- bytes that begin with a header of this torrent's log, whatever follows
abbrev pub HasHeader : (infohash bytes : List ℕ) → Type 0
HasHeader infohash bytes = (format : Format) × (take header_length bytes ≡ header format infohash)

-- bytes of another kind, or of another torrent
abbrev pub IsOther : (infohash bytes : List ℕ) → Type 0
IsOther infohash bytes = (format : Format) → take header_length bytes ≢ header format infohash

-- ---- texts that go on

-- The text begins after a header of this format.
abbrev pub BeginsIn : Format → LogText → Type 0
BeginsIn One (of_one hints) = ⊤
BeginsIn One (renewed olds news) = ⊤
BeginsIn Two (of_two hints) = ⊤
BeginsIn One (of_two hints) = ⊥
BeginsIn Two (of_one hints) = ⊥
BeginsIn Two (renewed olds news) = ⊥

-- a log of this format without a hint
abbrev pub empty_text : Format → LogText
empty_text One = of_one []
empty_text Two = of_two []

-- the text, and after it another, which begins in the format of its end
abbrev pub joined_text : LogText → LogText → LogText
joined_text (of_one hints) (of_one more) = of_one (hints ++ more)
joined_text (of_one hints) (renewed olds news) = renewed (hints ++ olds) news
joined_text (of_two hints) (of_two more) = of_two (hints ++ more)
joined_text (renewed olds news) (of_two more) = renewed olds (news ++ more)
joined_text text other = text

-- the one text goes on as the other
abbrev pub GoesOn : LogText → LogText → Type 0
GoesOn text all = (more : LogText) × BeginsIn (format_of text) more × (all ≡ joined_text text more)

-- ---- one more hint

-- what is written: in a log that ends in format 1, the byte first
abbrev pub appended_bytes : Format → Hint → List ℕ
appended_bytes One hint = renewing_byte ∷ hint_spelling Two hint
appended_bytes Two hint = hint_spelling Two hint

abbrev pub with_hint : LogText → Hint → LogText
with_hint (of_one hints) hint = renewed hints (hint ∷ [])
with_hint (of_two hints) hint = of_two (hints ++ hint ∷ [])
with_hint (renewed olds news) hint = renewed olds (news ++ hint ∷ [])

abbrev pub with_hints : LogText → List Hint → LogText
with_hints text [] = text
with_hints text (hint ∷ hints) = with_hints (with_hint text hint) hints
