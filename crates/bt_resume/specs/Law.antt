-- What logs that were spelled are read as, and what a crash leaves of a log.
use Rattle.std.specs.Prelude.{◌≡◌, ℕ, ◌≤◌, List, ◌++◌, length, take, Result, Ok, MatchResult, ⊤}
use Rattle.bt_tree.specs.Limits.{digest_length}
use Rattle.bt_disk.specs.Conduct.{Conduct}
use Rattle.bt_disk.specs.History.{History, moment_of, LeftSince}
use Rattle.bt_disk.specs.declared.disk.DeviceFault.{DeviceFault}
use Rattle.bt_resume.specs.Limits.{max_log_length}
use Rattle.bt_resume.specs.Hint.{hint_spelling, IsHint}
use Rattle.bt_resume.specs.LogText.{LogText, hints_in, format_of, body_spelling, text_spelling, text_length, IsText, EndsIn, IsBody, IsLog, HasHeader, BeginsIn, GoesOn, with_hint}
use Rattle.bt_resume.specs.ResumeLog.{LogView, Reads, Opens, IsAttached, IsReloaded, IsAppended, IsFlushed}
use Rattle.bt_resume.specs.declared.hint.Format.{Format}
use Rattle.bt_resume.specs.declared.hint.Format.TheVariants.{Two}
use Rattle.bt_resume.specs.declared.hint.Hint.{Hint}
use Rattle.bt_resume.specs.declared.error.LogError.{LogError}
use Rattle.bt_resume.specs.declared.error.LogError.TheVariants.{OtherTorrent, TooLong, Device, OutOfMemory}
use Rattle.bt_resume.specs.declared.error.AppendError.{AppendError}

-- in each format, bytes begin with the spelling of one hint at most
abbrev pub SpellsOneHint : Type 0
SpellsOneHint = (format : Format) (a b : Hint) (x y : List ℕ) → IsHint format a → IsHint format b
    → hint_spelling format a ++ x ≡ hint_spelling format b ++ y → (a ≡ b) × (x ≡ y)

-- a text that was spelled is read back, whatever lies after it from which nothing is read
abbrev pub AreReadBack : Type 0
AreReadBack = (text : LogText) (rest : List ℕ) → IsText text → EndsIn (format_of text) rest
    → IsBody (body_spelling text ++ rest) text

-- bytes are a torrent's log with one text
abbrev pub HasOneReading : Type 0
HasOneReading = (infohash bytes : List ℕ) (a b : LogText) → IsLog infohash bytes a → IsLog infohash bytes b
    → a ≡ b

-- after a header, whatever lies after a text that was spelled, it is read first
abbrev pub AreReadFirst : Type 0
AreReadFirst = (format : Format) (text all : LogText) (rest : List ℕ)
    → BeginsIn format text → BeginsIn format all → IsText text → IsBody (body_spelling text ++ rest) all
    → GoesOn text all

-- the one list begins the other
abbrev pub Begin : List Hint → List Hint → Type 0
Begin hints all = (more : List Hint) × (all ≡ hints ++ more)

-- where a text goes on, its hints come first, in their order
abbrev pub HintsComeFirst : Type 0
HintsComeFirst = (text all : LogText) → GoesOn text all → Begin (hints_in text) (hints_in all)

-- bytes that begin with this text, and are not too many
pub record KeepsText (infohash : List ℕ) (text : LogText) (bytes : List ℕ) : Type 0 where
  pub within : length bytes ≤ max_log_length
  pub begins : take (text_length text) bytes ≡ text_spelling infohash text

-- whatever a crash at moment t or later has left begins with this text
abbrev pub IsTextKeptSince : History → ℕ → List ℕ → LogText → Type 0
IsTextKeptSince h t infohash text = (image : List ℕ) → LeftSince h t image → KeepsText infohash text image

-- what begins so is opened as a log of the torrent, and its text goes on from this one
abbrev pub KeptLogsOpen : Type 0
KeptLogsOpen = (infohash bytes : List ℕ) (text : LogText) → length infohash ≡ digest_length
    → IsText text → KeepsText infohash text bytes
    → HasHeader infohash bytes × ((all : LogText) → IsLog infohash bytes all → GoesOn text all)

-- and what is a log of the torrent whose text goes on from this one, begins so
abbrev pub OpenLogsKeep : Type 0
OpenLogsKeep = (infohash bytes : List ℕ) (text all : LogText) → length infohash ≡ digest_length
    → IsLog infohash bytes all → GoesOn text all → KeepsText infohash text bytes

-- the refusal does not lie in what the device's bytes are
abbrev pub IsNotOfBytes : LogError → Type 0
IsNotOfBytes OtherTorrent = ⊥
IsNotOfBytes TooLong = ⊥
IsNotOfBytes Device = ⊤
IsNotOfBytes OutOfMemory = ⊤

-- the bytes begin with this text, which ends here in this format
pub record HoldsTo (infohash bytes : List ℕ) (end : ℕ) (format : Format) (text : LogText) : Type 0 where
  pub lawful : IsText text
  pub end_is : end ≡ text_length text
  pub format_is : format ≡ format_of text
  pub spelled : take end bytes ≡ text_spelling infohash text

module _ {D : Type 0} (conduct : Conduct D) where
  -- An honest device whose bytes begin with a text is read, and is opened, as one whose text goes on from it:
  -- it is refused only where a call or memory failed.

  abbrev pub KeptDevicesAreRead : Type 0
  KeptDevicesAreRead = (infohash : List ℕ) (old new : D) (result : Result LogText LogError) (text : LogText)
      → length infohash ≡ digest_length → IsText text → conduct.honest old
      → KeepsText infohash text (conduct.history old).now.bytes → Reads conduct infohash old result new
      → MatchResult result (GoesOn text) IsNotOfBytes

  abbrev pub KeptDevicesOpen : Type 0
  KeptDevicesOpen = (infohash : List ℕ) (old new : D) (result : Result LogText LogError) (text : LogText)
      → length infohash ≡ digest_length → IsText text → conduct.honest old
      → KeepsText infohash text (conduct.history old).now.bytes → Opens conduct infohash old result new
      → MatchResult result (GoesOn text) IsNotOfBytes

  -- The device of a log holds this text where the next hint is due, and the kept one, which goes on as it,
  -- where it is due once what was appended is forgotten.
  pub record Holds (log : LogView D) (kept text : LogText) : Type 0 where
    pub torrent : length log.infohash ≡ digest_length
    pub within : length (conduct.history log.disk).now.bytes ≤ max_log_length
    pub begins : GoesOn kept text
    pub kept_is : HoldsTo log.infohash (conduct.history log.disk).now.bytes log.kept_end log.kept_format kept
    pub text_is : HoldsTo log.infohash (conduct.history log.disk).now.bytes log.end log.format text

  -- What every image since a moment begins with, every image goes on to begin with, through each call of a
  -- log on an honest device, and at each moment within it.

  abbrev pub AttachKeeps : Type 0
  AttachKeeps = (infohash torrent : List ℕ) (old new : D) (result : Result LogText LogError) (t : ℕ)
      (text : LogText) → length infohash ≡ digest_length → conduct.honest old
      → Opens conduct torrent old result new
      → IsTextKeptSince (conduct.history old) t infohash text
      → IsTextKeptSince (conduct.history new) t infohash text

  abbrev pub ReloadKeeps : Type 0
  ReloadKeeps = (old new : LogView D) (result : Result ⊤ LogError) (t : ℕ) (text : LogText)
      → length old.infohash ≡ digest_length → conduct.honest old.disk
      → IsReloaded conduct old result new
      → IsTextKeptSince (conduct.history old.disk) t old.infohash text
      → IsTextKeptSince (conduct.history new.disk) t old.infohash text

  abbrev pub AppendKeeps : Type 0
  AppendKeeps = (hint : Hint) (old new : LogView D) (result : Result ⊤ AppendError) (t : ℕ) (text : LogText)
      → length old.infohash ≡ digest_length → conduct.honest old.disk
      → IsAppended conduct hint old result new → text_length text ≤ old.end
      → IsTextKeptSince (conduct.history old.disk) t old.infohash text
      → IsTextKeptSince (conduct.history new.disk) t old.infohash text

  abbrev pub FlushKeeps : Type 0
  FlushKeeps = (old new : LogView D) (result : Result ⊤ DeviceFault) (t : ℕ) (text : LogText)
      → length old.infohash ≡ digest_length → conduct.honest old.disk → IsFlushed conduct old result new
      → IsTextKeptSince (conduct.history old.disk) t old.infohash text
      → IsTextKeptSince (conduct.history new.disk) t old.infohash text

  -- Which text the device of a log holds, after each call on an honest device.

  abbrev pub AttachHolds : Type 0
  AttachHolds = (infohash : List ℕ) (old : D) (log : LogView D)
      → length infohash ≡ digest_length → conduct.honest old → IsAttached conduct infohash old log
      → (text : LogText) × (log.hints ≡ hints_in text) × Holds log text text

  -- what is read goes on from the text that was held, whatever lies after it
  abbrev pub ReloadHolds : Type 0
  ReloadHolds = (old new : LogView D) (result : Result ⊤ LogError) (kept text : LogText)
      → conduct.honest old.disk → IsReloaded conduct old result new → Holds old kept text
      → MatchResult result
      (λ _. (read : LogText) × (new.hints ≡ hints_in read) × Holds new read read × GoesOn text read)
      (λ cause. Holds new kept text × IsNotOfBytes cause)

  abbrev pub AppendHolds : Type 0
  AppendHolds = (hint : Hint) (old new : LogView D) (result : Result ⊤ AppendError) (kept text : LogText)
      → conduct.honest old.disk → IsHint Two hint → IsAppended conduct hint old result new
      → Holds old kept text
      → MatchResult result (λ _. Holds new kept (with_hint text hint)) (λ _. Holds new kept kept)

  -- and from a flush that succeeded on, whatever a crash leaves begins with it
  abbrev pub FlushHolds : Type 0
  FlushHolds = (old new : LogView D) (result : Result ⊤ DeviceFault) (kept text : LogText)
      → conduct.honest old.disk
      → IsFlushed conduct old result new → Holds old kept text
      → MatchResult result
      (λ _. Holds new text text
      × IsTextKeptSince (conduct.history new.disk) (moment_of (conduct.history new.disk)) new.infohash text)
      (λ _. Holds new kept kept)

  -- The text that a log keeps goes on from this one, and so does whatever a crash at moment t or later has
  -- left.
  pub record KeepsFirst (t : ℕ) (text : LogText) (log : LogView D) : Type 0 where
    pub kept : LogText
    pub all : LogText
    pub holds : Holds log kept all
    pub begins : GoesOn text kept
    pub since : IsTextKeptSince (conduct.history log.disk) t log.infohash text

  -- Such a text stands, in the log and in each image, through each call on an honest device, whatever it
  -- answers.

  abbrev pub AttachStands : Type 0
  AttachStands = (infohash : List ℕ) (old : D) (log : LogView D) (t : ℕ) (text : LogText)
      → length infohash ≡ digest_length → IsText text → conduct.honest old
      → IsTextKeptSince (conduct.history old) t infohash text → IsAttached conduct infohash old log
      → KeepsFirst t text log

  abbrev pub ReloadStands : Type 0
  ReloadStands = (old new : LogView D) (result : Result ⊤ LogError) (t : ℕ) (text : LogText)
      → conduct.honest old.disk → IsReloaded conduct old result new → KeepsFirst t text old
      → KeepsFirst t text new

  abbrev pub AppendStands : Type 0
  AppendStands = (hint : Hint) (old new : LogView D) (result : Result ⊤ AppendError) (t : ℕ) (text : LogText)
      → conduct.honest old.disk → IsHint Two hint → IsAppended conduct hint old result new
      → KeepsFirst t text old → KeepsFirst t text new

  abbrev pub FlushStands : Type 0
  FlushStands = (old new : LogView D) (result : Result ⊤ DeviceFault) (t : ℕ) (text : LogText)
      → conduct.honest old.disk → IsFlushed conduct old result new → KeepsFirst t text old
      → KeepsFirst t text new

  -- and from a flush that succeeded on, all that was held is such a text
  abbrev pub FlushedStand : Type 0
  FlushedStand = (old new : LogView D) (value : ⊤) (kept text : LogText) → conduct.honest old.disk
      → IsFlushed conduct old {E = DeviceFault} (Ok value) new → Holds old kept text
      → KeepsFirst (moment_of (conduct.history new.disk)) text new
