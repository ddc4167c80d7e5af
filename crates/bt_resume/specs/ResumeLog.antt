-- A log on a device. Its formats are this project's own.
use Rattle.std.specs.Prelude.{◌≡◌, ◌≢◌, ℕ, ◌+◌, ◌<◌, ◌≤◌, List, [], ◌∷◌, length, Result, Ok, Err}
use Rattle.bt_disk.specs.Conduct.{Conduct}
use Rattle.bt_disk.specs.Calls.{length_fault, read_fault, bytes_written, write_fault, sync_made, sync_fault, HasCalls}
use Rattle.bt_resume.specs.Limits.{header_length, max_log_length}
use Rattle.bt_resume.specs.LogText.{LogText, of_two, hints_in, format_of, header, text_length, IsText, IsLog, HasHeader, IsOther, appended_bytes}
use Rattle.bt_resume.specs.declared.hint.Format.{Format}
use Rattle.bt_resume.specs.declared.hint.Format.TheVariants.{Two}
use Rattle.bt_resume.specs.declared.hint.Hint.{Hint}
use Rattle.bt_resume.specs.declared.error.LogError.{LogError}
use Rattle.bt_resume.specs.declared.error.LogError.TheVariants.{OtherTorrent, TooLong, Device, OutOfMemory}
use Rattle.bt_resume.specs.declared.error.AppendError.{AppendError}
use Rattle.bt_resume.specs.declared.error.AppendError.TheVariants.{Full, Device as AppendDevice}

-- What contracts see of a log: its device and torrent; the hints that were last read from it; where the next
-- hint is written, and the format there; and both once what was appended is forgotten.
pub record LogView (D : Type 0) : Type 0 where
  pub disk : D
  pub infohash : List ℕ
  pub hints : List Hint
  pub end : ℕ
  pub format : Format
  pub kept_end : ℕ
  pub kept_format : Format

-- the log as it was read
abbrev pub read_log : {D : Type 0} → D → (infohash : List ℕ) → LogText → LogView D
read_log disk infohash text = record {
  disk = disk;
  infohash = infohash;
  hints = hints_in text;
  end = text_length text;
  format = format_of text;
  kept_end = text_length text;
  kept_format = format_of text;
}

-- what was appended since the last good flush or reading is forgotten
abbrev pub forgotten : {D : Type 0} → LogView D → D → LogView D
forgotten log disk = record log { disk = disk; end = log.kept_end; format = log.kept_format }

-- where a hint would end that is appended
abbrev pub end_with : {D : Type 0} → LogView D → Hint → ℕ
end_with log hint = log.end + length (appended_bytes log.format hint)

module _ {D : Type 0} (conduct : Conduct D) where
  -- what is said of an honest device's bytes
  abbrev pub OfBytes : D → (List ℕ → Type 0) → Type 0
  OfBytes disk P = conduct.honest disk → P (conduct.history disk).now.bytes

  -- A log was read, or why it was not. But for the one read that failed no call failed, and no call changed
  -- an honest device. Of a device that is too long only the header is read, so only that read of it may have
  -- failed.
  pub data Reads (infohash : List ℕ) (old : D) : Result LogText LogError → D → Type 0 where
    read : (text : LogText) (new : D) → HasCalls conduct old [] new → IsText text
        → text_length text ≤ max_log_length → OfBytes old (λ bytes. IsLog infohash bytes text)
        → Reads infohash old (Ok text) new
    other_torrent : (new : D) → HasCalls conduct old [] new → OfBytes old (IsOther infohash)
        → Reads infohash old (Err OtherTorrent) new
    too_long : (new : D) → HasCalls conduct old [] new
        → OfBytes old (λ bytes. HasHeader infohash bytes × (max_log_length < length bytes))
        → Reads infohash old (Err TooLong) new
    no_memory : (new : D) → HasCalls conduct old [] new
        → OfBytes old (λ bytes. HasHeader infohash bytes × (length bytes ≤ max_log_length))
        → Reads infohash old (Err OutOfMemory) new
    no_length : (new : D) → HasCalls conduct old (length_fault ∷ []) new
        → Reads infohash old (Err Device) new
    no_header : (new : D) → HasCalls conduct old (read_fault 0 header_length ∷ []) new
        → Reads infohash old (Err Device) new
    unread : (new : D) (at wanted : ℕ) → HasCalls conduct old (read_fault at wanted ∷ []) new
        → OfBytes old (λ bytes. HasHeader infohash bytes × (length bytes ≤ max_log_length))
        → Reads infohash old (Err Device) new

  -- A log was opened, or why it was not: an empty device is given a header of format 2, and any other is
  -- read.
  pub data Opens (infohash : List ℕ) (old : D) : Result LogText LogError → D → Type 0 where
    opened : (result : Result LogText LogError) (new : D) → OfBytes old (λ bytes. bytes ≢ [])
        → Reads infohash old result new → Opens infohash old result new
    unmeasured : (new : D) → HasCalls conduct old (length_fault ∷ []) new
        → Opens infohash old (Err Device) new
    made : (new : D) → OfBytes old (λ bytes. bytes ≡ [])
        → HasCalls conduct old (bytes_written 0 (header Two infohash) ∷ sync_made ∷ []) new
        → Opens infohash old (Ok (of_two [])) new
    unwritten : (new : D) → OfBytes old (λ bytes. bytes ≡ [])
        → HasCalls conduct old (write_fault 0 (header Two infohash) ∷ []) new
        → Opens infohash old (Err Device) new
    unsynced : (new : D) → OfBytes old (λ bytes. bytes ≡ [])
        → HasCalls conduct old (bytes_written 0 (header Two infohash) ∷ sync_fault ∷ []) new
        → Opens infohash old (Err Device) new

  -- a log that was opened on a device
  pub record IsAttached (infohash : List ℕ) (old : D) (log : LogView D) : Type 0 where
    pub text : LogText
    pub opens : Opens infohash old (Ok text) log.disk
    pub log_is : log ≡ read_log log.disk infohash text

  -- a log that was read again: a refusal leaves all but the device as it was
  abbrev pub IsReloaded : LogView D → {T : Type 0} → Result T LogError → LogView D → Type 0
  IsReloaded old (Ok _) new = (text : LogText) × Reads old.infohash old.disk (Ok text) new.disk
      × (new ≡ read_log new.disk old.infohash text)
  IsReloaded old (Err cause) new =
      Reads old.infohash old.disk (Err cause) new.disk × (new ≡ record old { disk = new.disk })

  -- A hint was written where the next one is due, and the log then ends in format 2. After a refusal what was
  -- appended before is forgotten.
  abbrev pub IsAppended : Hint → LogView D → {T : Type 0} → Result T AppendError → LogView D → Type 0
  IsAppended hint old (Ok _) new =
      (end_with old hint ≤ max_log_length)
      × HasCalls conduct old.disk (bytes_written old.end (appended_bytes old.format hint) ∷ [])
      new.disk
      × (new ≡ record old { disk = new.disk; end = end_with old hint; format = Two })
  IsAppended hint old (Err AppendDevice) new =
      (end_with old hint ≤ max_log_length)
      × HasCalls conduct old.disk (write_fault old.end (appended_bytes old.format hint) ∷ [])
      new.disk
      × (new ≡ forgotten old new.disk)
  IsAppended hint old (Err Full) new =
      (max_log_length < end_with old hint) × (new ≡ forgotten old old.disk)

  -- The device was synced, so that what was appended is kept. After a fault it is forgotten.
  abbrev pub IsFlushed : LogView D → {T E : Type 0} → Result T E → LogView D → Type 0
  IsFlushed old (Ok _) new =
      HasCalls conduct old.disk (sync_made ∷ []) new.disk
      × (new ≡ record old { disk = new.disk; kept_end = old.end; kept_format = old.format })
  IsFlushed old (Err _) new =
      HasCalls conduct old.disk (sync_fault ∷ []) new.disk × (new ≡ forgotten old new.disk)
