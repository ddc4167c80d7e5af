-- Private steps: how a log is read from its device.
use Rattle.std.specs.Prelude.{◌≡◌, ℕ, ◌≤◌, ◌⊎◌, List, [], ◌∷◌, length, take, drop, Result, Ok, Err}
use Rattle.bt_disk.specs.Conduct.{Conduct}
use Rattle.bt_disk.specs.Calls.{read_fault, bytes_written, write_fault, sync_made, sync_fault, HasCalls}
use Rattle.bt_resume.specs.Limits.{header_length, max_log_length}
use Rattle.bt_resume.specs.LogText.{LogText, format_of, header, body_spelling, text_length, IsText, IsBody, IsOther, BeginsIn, joined_text}
use Rattle.bt_resume.specs.Reader.{IsTaken}
use Rattle.bt_resume.specs.ResumeLog.{OfBytes}
use Rattle.bt_resume.specs.declared.hint.Format.{Format}
use Rattle.bt_resume.specs.declared.hint.Format.TheVariants.{Two}
use Rattle.bt_resume.specs.declared.contents.Contents.{Contents}
use Rattle.bt_resume.specs.declared.contents.End.{End}
use Rattle.bt_resume.specs.declared.error.LogError.{LogError}
use Rattle.bt_resume.specs.declared.error.LogError.TheVariants.{OtherTorrent, TooLong, Device, OutOfMemory}

-- the text that was read, or why none was
abbrev pub text_of : Result Contents LogError → Result LogText LogError
text_of (Ok contents) = Ok contents.hints
text_of (Err cause) = Err cause

-- where a log with this text ends, and in which format
abbrev pub end_of : LogText → End
end_of text = record { at = text_length text; format = format_of text }

module _ {D : Type 0} (conduct : Conduct D) where
  -- in which format the header is that of a log of this torrent
  abbrev pub IsHeaderCheck : List ℕ → D → Result Format LogError → D → Type 0
  IsHeaderCheck infohash old (Ok format) new =
      HasCalls conduct old [] new
      × OfBytes conduct old (λ bytes. take header_length bytes ≡ header format infohash)
  IsHeaderCheck infohash old (Err OtherTorrent) new =
      HasCalls conduct old [] new × OfBytes conduct old (IsOther infohash)
  IsHeaderCheck infohash old (Err Device) new =
      HasCalls conduct old (read_fault 0 header_length ∷ []) new
  IsHeaderCheck infohash old (Err TooLong) new = ⊥
  IsHeaderCheck infohash old (Err OutOfMemory) new = ⊥

  -- what is read at the front of a part of the device, where the log is in a format
  pub record IsWindow (at room : ℕ) (old : D) (format : Format) (taken : LogText) (used : ℕ) (new : D)
      : Type 0 where
    pub calls : HasCalls conduct old [] new
    pub begins : BeginsIn format taken
    pub lawful : IsText taken
    pub size : used ≡ length (body_spelling taken)
    pub within : used ≤ room
    pub taken_is :
        OfBytes conduct old (λ bytes. IsTaken format (take room (drop at bytes)) taken used)

  -- a part of the device was read, and what it has put after what was read before
  abbrev pub IsWindowRead : (at room : ℕ) → D → LogText → Result ℕ LogError → LogText → D → Type 0
  IsWindowRead at room old before (Ok used) after new = (taken : LogText)
      × IsWindow at room old (format_of before) taken used new × (after ≡ joined_text before taken)
  IsWindowRead at room old before (Err Device) after new =
      HasCalls conduct old (read_fault at room ∷ []) new
  IsWindowRead at room old before (Err OutOfMemory) after new = HasCalls conduct old [] new
  IsWindowRead at room old before (Err OtherTorrent) after new = ⊥
  IsWindowRead at room old before (Err TooLong) after new = ⊥

  -- what lies after a header of a format, and where it ends
  pub record AreContents (format : Format) (old : D) (contents : Contents) (new : D) : Type 0 where
    pub calls : HasCalls conduct old [] new
    pub begins : BeginsIn format contents.hints
    pub lawful : IsText contents.hints
    pub end_is : contents.end ≡ end_of contents.hints
    pub within : text_length contents.hints ≤ max_log_length
    pub text_is :
        OfBytes conduct old (λ bytes. IsBody (drop header_length bytes) contents.hints)

  -- all of it was read
  abbrev pub IsContentsRead : Format → D → Result Contents LogError → D → Type 0
  IsContentsRead format old (Ok contents) new = AreContents format old contents new
  IsContentsRead format old (Err Device) new =
      (at wanted : ℕ) × HasCalls conduct old (read_fault at wanted ∷ []) new
  IsContentsRead format old (Err OutOfMemory) new = HasCalls conduct old [] new
  IsContentsRead format old (Err OtherTorrent) new = ⊥
  IsContentsRead format old (Err TooLong) new = ⊥

  -- an empty device was given its header, of format 2, by a write and a sync
  abbrev pub IsMade : List ℕ → D → {T : Type 0} → Result T LogError → D → Type 0
  IsMade infohash old (Ok _) new =
      HasCalls conduct old (bytes_written 0 (header Two infohash) ∷ sync_made ∷ []) new
  IsMade infohash old (Err Device) new =
      HasCalls conduct old (write_fault 0 (header Two infohash) ∷ []) new
      ⊎ HasCalls conduct old (bytes_written 0 (header Two infohash) ∷ sync_fault ∷ []) new
  IsMade infohash old (Err OtherTorrent) new = ⊥
  IsMade infohash old (Err TooLong) new = ⊥
  IsMade infohash old (Err OutOfMemory) new = ⊥
