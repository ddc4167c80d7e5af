-- What is read at the front of bytes.
use Rattle.std.specs.Prelude.{◌≡◌, ◌≢◌, ℕ, List, [], ◌∷◌, length, take, drop, All, ◌⊎◌}
use Rattle.bt_resume.specs.Hint.{hint_spelling, hints_spelling, IsHint, BeginsNoHint}
use Rattle.bt_resume.specs.LogText.{LogText, hints_in, format_of, renewing_byte, body_spelling, IsText, EndsIn, BeginsIn}
use Rattle.bt_resume.specs.OneSpelling.{AreSpelled}
use Rattle.bt_resume.specs.declared.hint.Format.{Format}
use Rattle.bt_resume.specs.declared.hint.Format.TheVariants.{One, Two}
use Rattle.bt_resume.specs.declared.hint.Hint.{Hint}

-- the hint begins the bytes, with this many of them
pub record IsFirst (format : Format) (bytes : List ℕ) (hint : Hint) (len : ℕ) : Type 0 where
  pub is_hint : IsHint format hint
  pub size : len ≡ length (hint_spelling format hint)
  pub spelled : take len bytes ≡ hint_spelling format hint

-- the hints that begin the bytes, as many as there are, and how many bytes spell them
pub record AreFirst (format : Format) (bytes : List ℕ) (hints : List Hint) (used : ℕ) : Type 0 where
  pub lawful : All (IsHint format) hints
  pub size : used ≡ length (hints_spelling format hints)
  pub spelled : take used bytes ≡ hints_spelling format hints
  pub longest : BeginsNoHint format (drop used bytes)

-- the text that begins the bytes, where the log is in a format, and how many bytes spell it
pub record IsTaken (format : Format) (bytes : List ℕ) (text : LogText) (used : ℕ) : Type 0 where
  pub begins : BeginsIn format text
  pub lawful : IsText text
  pub size : used ≡ length (body_spelling text)
  pub spelled : take used bytes ≡ body_spelling text
  pub longest : EndsIn (format_of text) (drop used bytes)

-- the bytes spell this text, which ends in this format and has this many hints
pub record IsCounted (format : Format) (bytes : List ℕ) (text : LogText) (end : Format) (count : ℕ)
    : Type 0 where
  pub spelled : AreSpelled format bytes text
  pub end_is : end ≡ format_of text
  pub count_is : count ≡ length (hints_in text)

-- the byte stands here, after which a log of format 1 goes on in format 2
abbrev pub IsRenewed : Format → List ℕ → Type 0
IsRenewed One bytes = take 1 bytes ≡ renewing_byte ∷ []
IsRenewed Two bytes = ⊥

-- the bytes after that byte, where it stands, and the format in which they begin
abbrev pub IsBehindRenewal : Format → List ℕ → Format → List ℕ → Type 0
IsBehindRenewal One bytes format rest =
    (IsRenewed One bytes × (format ≡ Two) × (rest ≡ drop 1 bytes))
    ⊎ ((take 1 bytes ≢ renewing_byte ∷ []) × (format ≡ One) × (rest ≡ bytes))
IsBehindRenewal Two bytes format rest = (format ≡ Two) × (rest ≡ bytes)
