-- A log that is read from its device.
use Rattle.std.proofs.Common.{◌≡◌, ℕ, ◌+◌, ◌-◌, ◌^◌, ◌<◌, ◌≤◌, ◌↔◌, inl, inr, min, max, List, [], ◌++◌, length, take, drop, Result, Ok, Err, refl, sym, ap, ◌∙◌, subst, arith}
use Rattle.std.proofs.lemmas.List.{append_assoc, take-take, take_at, drop-drop, take-append-drop, length-append, length-drop, nil_from_length}
use Rattle.std.proofs.lemmas.List.Elements.{All-nil}
use Rattle.bt_disk.specs.Conduct.{Conduct}
use Rattle.bt_disk.specs.History.{History}
use Rattle.bt_disk.specs.Calls.{HasCalls}
use Rattle.bt_disk.proofs.CallLists.{has_then}
use Rattle.bt_resume.specs.declared.hint.Format.{Format}
use Rattle.bt_resume.specs.declared.hint.Format.TheVariants.{One, Two}
use Rattle.bt_resume.specs.declared.contents.Contents.{Contents}
use Rattle.bt_resume.specs.declared.contents.End.{End}
use Rattle.bt_resume.specs.declared.error.LogError.{LogError}
use Rattle.bt_resume.specs.declared.error.LogError.TheVariants.{OtherTorrent, TooLong, Device, OutOfMemory}
use Rattle.bt_resume.specs.Limits.{max_hint_length}
use Rattle.bt_resume.specs.Hint.{hint_spelling, IsHint, BeginsNoHint}
use Rattle.bt_resume.specs.LogText.{LogText, of_two, format_of, header, body_spelling, text_length, IsText, EndsIn, IsBody, IsLog, HasHeader, IsOther, BeginsIn, empty_text, joined_text}
use Rattle.bt_resume.specs.ResumeLog.{OfBytes, Reads, read, other_torrent, too_long, no_memory, no_length, no_header, unread, Opens, opened, made, unwritten, unsynced}
use Rattle.bt_resume.specs.Contents.{text_of, IsHeaderCheck, IsWindow, AreContents, IsContentsRead, IsMade}
use Rattle.bt_resume.specs.OneSpelling.{nothing_begins}
use Rattle.bt_resume.proofs.Texts.{are_joined, begins_as, begins_empty, header_of}
use Rattle.bt_resume.proofs.Takings.{hint_is_short}

-- ---- windows

-- a part of the bytes that begins with no hint, and would hold one, tells that they begin with none
no_hint_tells : (f : Format) (bytes : List ℕ) (room : ℕ) → min max_hint_length (length bytes) ≤ room → BeginsNoHint f (take room bytes) → BeginsNoHint f bytes
no_hint_tells f bytes room enough none hint rest is e =
    let spelling : List ℕ = hint_spelling f hint in
    let n : ℕ = length spelling in
    let short : n ≤ max_hint_length = hint_is_short f hint is in
    let inside : n ≤ length bytes = omega (arith, ap length e, length-append spelling rest) in
    let within : n ≤ room = omega arith in
    let front : take n (take room bytes) ≡ spelling = take-take n room bytes within ∙ ap (λ xs. take n xs) e ∙ take_at spelling rest n refl in
    none hint (drop n (take room bytes)) is (sym (take-append-drop n (take room bytes)) ∙ ap (λ xs. xs ++ drop n (take room bytes)) front)

-- and so of all that is read in a format
pub window_tells : (f : Format) (bytes : List ℕ) (room : ℕ) → 0 < room → min max_hint_length (length bytes) ≤ room → EndsIn f (take room bytes) → EndsIn f bytes
window_tells One bytes room some enough none =
    (no_hint_tells One bytes room enough none.0, λ e. none.1 (take-take 1 room bytes (omega (arith, some)) ∙ e))
window_tells Two bytes room some enough none = no_hint_tells Two bytes room enough none

-- nothing is read of no bytes
pub nothing_read : (f : Format) (bytes : List ℕ) → length bytes ≡ 0 → EndsIn f bytes
nothing_read One bytes empty = (nothing_begins One bytes empty, λ e. absurd (omega (arith, ap length e, empty, short)))
  where
    short : length (take 1 bytes) ≡ 0
    short = ap (λ xs. length (take 1 xs)) (nil_from_length bytes empty)
nothing_read Two bytes empty = nothing_begins Two bytes empty

-- more after what is read
spelled_more : (bytes : List ℕ) (text taken : LogText) (end used room : ℕ) → BeginsIn (format_of text) taken
    → drop 40 bytes ≡ body_spelling text ++ drop end bytes → used ≤ room → take used (take room (drop end bytes)) ≡ body_spelling taken
    → drop 40 bytes ≡ body_spelling (joined_text text taken) ++ drop (end + used) bytes
spelled_more bytes text taken end used room begins before within spelled =
    let here : take used (drop end bytes) ≡ body_spelling taken = sym (take-take used room (drop end bytes) within) ∙ spelled in
    let cut : drop end bytes ≡ body_spelling taken ++ drop (end + used) bytes =
    sym (take-append-drop used (drop end bytes)) ∙ ap (λ xs. xs ++ drop used (drop end bytes)) here ∙ ap (λ xs. body_spelling taken ++ xs) (drop-drop used end bytes) in
    before ∙ ap (λ xs. body_spelling text ++ xs) cut ∙ sym (append_assoc (body_spelling text) (body_spelling taken) (drop (end + used) bytes))
    ∙ ap (λ xs. xs ++ drop (end + used) bytes) (sym (are_joined text taken begins).body)

lawful_empty : (f : Format) → IsText (empty_text f)
lawful_empty One = All-nil (IsHint One)
lawful_empty Two = All-nil (IsHint Two)

empty_body : (f : Format) → body_spelling (empty_text f) ≡ []
empty_body One = refl
empty_body Two = refl

module _ {D : Type 0} (conduct : Conduct D) where
  -- a call that succeeded and changed nothing leaves no trace
  pub has_nothing : (old new : D) → conduct.faults new ≡ conduct.faults old → conduct.honest old ↔ conduct.honest new → (conduct.honest old → conduct.history new ≡ conduct.history old)
      → HasCalls conduct old [] new
  has_nothing old new counted as_honest same = record { counted = counted; as_honest = as_honest; answered = same }

  -- what is said of the bytes then was true of them before
  pub of_same : (P : List ℕ → Type 0) (old new : D) → HasCalls conduct old [] new → OfBytes conduct new P
      → OfBytes conduct old P
  of_same P old new calls of h = subst P (ap (λ (s : History). s.now.bytes) (calls.answered h)) (of (calls.as_honest.0 h))

  -- what was read so far after a header of a format, from a device of this many bytes
  pub record HasRead (format : Format) (len : ℕ) (old : D) (text : LogText) (end : ℕ) (new : D) : Type 0 where
    pub calls : HasCalls conduct old [] new
    pub begins : BeginsIn format text
    pub lawful : IsText text
    pub end_is : end ≡ text_length text
    pub within : end ≤ max 40 len
    pub spelled : OfBytes conduct old (λ bytes. drop 40 bytes ≡ body_spelling text ++ drop end bytes)

  pub read_none : (format : Format) (len : ℕ) (old : D) → HasRead format len old (empty_text format) 40 old
  read_none format len old = record {
    calls = has_nothing old old refl (λ h. h, λ h. h) (λ h. refl);
    begins = begins_empty format;
    lawful = lawful_empty format;
    end_is = omega (arith, ap length (empty_body format));
    within = omega arith;
    spelled = λ h. ap (λ xs. xs ++ drop 40 (conduct.history old).now.bytes) (sym (empty_body format));
  }

  pub window_more : (format : Format) (len : ℕ) (old mid new : D) (text taken : LogText) (end room used : ℕ) → HasRead format len old text end mid
      → IsWindow conduct end room mid (format_of text) taken used new → end + room ≤ len
      → HasRead format len old (joined_text text taken) (end + used) new
  window_more format len old mid new text taken end room used before window inside =
      let both = are_joined text taken window.begins in
      record {
        calls = has_then conduct old mid new [] [] before.calls window.calls;
        begins = begins_as format text (joined_text text taken) both.header before.begins;
        lawful = both.lawful before.lawful window.lawful;
        end_is = omega (arith, before.end_is, window.size, ap length both.body, length-append (body_spelling text) (body_spelling taken));
        within = omega (arith, window.within);
        spelled = λ h. spelled_more _ text taken end used room window.begins (before.spelled h) window.within
            (of_same (λ bytes. take used (take room (drop end bytes)) ≡ body_spelling taken) old mid before.calls (λ m. (window.taken_is m).spelled) h);
      }

  -- all is read where nothing is read of what is left
  pub all_read : (format : Format) (len : ℕ) (old new : D) (contents : Contents) (end : ℕ) → HasRead format len old contents.hints end new
      → contents.end ≡ record { at = end; format = format_of contents.hints } → len ≤ 2 ^ 40
      → OfBytes conduct old (λ bytes. EndsIn (format_of contents.hints) (drop end bytes)) → AreContents conduct format old contents new
  all_read format len old new contents end before end_is limit none =
      let at : (e : ℕ) → End = λ e. record { at = e; format = format_of contents.hints } in
      record {
        calls = before.calls;
        begins = before.begins;
        lawful = before.lawful;
        end_is = end_is ∙ ap at before.end_is;
        within = omega (arith, before.end_is, before.within, limit);
        text_is = λ h. record { lawful = before.lawful; rest = _; spelled = before.spelled h; longest = none h };
      }

  pub window_last : (format : Format) (len : ℕ) (old mid new : D) (text taken : LogText) (end room : ℕ) (contents : Contents) → HasRead format len old text end mid
      → IsWindow conduct end room mid (format_of text) taken 0 new → end < len → room ≡ min (len - end) 65536 → len ≤ 2 ^ 40
      → (conduct.honest old → len ≡ length (conduct.history old).now.bytes) → contents.hints ≡ joined_text text taken
      → contents.end ≡ record { at = end; format = format_of contents.hints } → AreContents conduct format old contents new
  window_last format len old mid new text taken end room contents before window inside room_is limit len_is same end_is =
      let nothing : end + 0 ≡ end = omega arith in
      let more : HasRead format len old (joined_text text taken) end new =
      subst (λ e. HasRead format len old (joined_text text taken) e new) nothing (window_more format len old mid new text taken end room 0 before window (omega (arith, room_is))) in
      let read_so_far : HasRead format len old contents.hints end new = rw same more in
      let format_is : format_of contents.hints ≡ format_of taken = ap format_of same ∙ (are_joined text taken window.begins).format in
      all_read format len old new contents end read_so_far end_is limit
      (λ h. rw format_is (window_tells (format_of taken) (drop end (conduct.history old).now.bytes) room (omega (arith, room_is))
      (omega (arith, room_is, len_is h, length-drop end (conduct.history old).now.bytes))
      (of_same (λ bytes. EndsIn (format_of taken) (take room (drop end bytes))) old mid before.calls (λ m. (window.taken_is m).longest) h)))

  pub read_to_end : (format : Format) (len : ℕ) (old new : D) (contents : Contents) (end : ℕ) → HasRead format len old contents.hints end new
      → contents.end ≡ record { at = end; format = format_of contents.hints } → len ≤ end → len ≤ 2 ^ 40
      → (conduct.honest old → len ≡ length (conduct.history old).now.bytes) → AreContents conduct format old contents new
  read_to_end format len old new contents end before end_is past limit len_is =
      all_read format len old new contents end before end_is limit
      (λ h. nothing_read (format_of contents.hints) (drop end (conduct.history old).now.bytes) (omega (arith, len_is h, length-drop end (conduct.history old).now.bytes)))

  -- ---- the whole

  pub reads_later : (infohash : List ℕ) (old mid new : D) (result : Result LogText LogError) → HasCalls conduct old [] mid
      → Reads conduct infohash mid result new → Reads conduct infohash old result new
  reads_later infohash old mid _ _ first (read text new calls lawful within of) =
      read text new (has_then conduct old mid new [] [] first calls) lawful within (of_same (λ bytes. IsLog infohash bytes text) old mid first of)
  reads_later infohash old mid _ _ first (other_torrent new calls of) =
      other_torrent new (has_then conduct old mid new [] [] first calls) (of_same (IsOther infohash) old mid first of)
  reads_later infohash old mid _ _ first (too_long new calls of) =
      too_long new (has_then conduct old mid new [] [] first calls)
      (of_same (λ bytes. HasHeader infohash bytes × (2 ^ 40 < length bytes)) old mid first of)
  reads_later infohash old mid _ _ first (no_memory new calls of) =
      no_memory new (has_then conduct old mid new [] [] first calls)
      (of_same (λ bytes. HasHeader infohash bytes × (length bytes ≤ 2 ^ 40)) old mid first of)
  reads_later infohash old mid _ _ first (no_length new calls) = no_length new (has_then conduct old mid new [] _ first calls)
  reads_later infohash old mid _ _ first (no_header new calls) = no_header new (has_then conduct old mid new [] _ first calls)
  reads_later infohash old mid _ _ first (unread new at wanted calls of) =
      unread new at wanted (has_then conduct old mid new [] _ first calls)
      (of_same (λ bytes. HasHeader infohash bytes × (length bytes ≤ 2 ^ 40)) old mid first of)

  pub reads_unheaded : (infohash : List ℕ) (old new : D) (cause : LogError) → IsHeaderCheck conduct infohash old (Err cause) new
      → Reads conduct infohash old (Err cause) new
  reads_unheaded infohash old new OtherTorrent check = other_torrent new check.0 check.1
  reads_unheaded infohash old new Device check = no_header new check
  reads_unheaded infohash old new TooLong check = absurd check
  reads_unheaded infohash old new OutOfMemory check = absurd check

  -- the device has the header of a format
  abbrev IsHeaded : List ℕ → Format → D → Type 0
  IsHeaded infohash format old = OfBytes conduct old (λ bytes. take 40 bytes ≡ header format infohash)

  pub reads_too_long : (infohash : List ℕ) (format : Format) (old new : D) (len : ℕ) → HasCalls conduct old [] new → IsHeaded infohash format old
      → (conduct.honest old → len ≡ length (conduct.history old).now.bytes) → 2 ^ 40 < len → Reads conduct infohash old (Err TooLong) new
  reads_too_long infohash format old new len calls headed len_is long =
      too_long new calls (λ h. ((format, headed h), omega (arith, long, len_is h)))

  pub reads_contents : (infohash : List ℕ) (format : Format) (old mid new : D) (result : Result Contents LogError) (len : ℕ)
      → HasCalls conduct old [] mid → IsHeaded infohash format old → (conduct.honest old → len ≡ length (conduct.history old).now.bytes) → len ≤ 2 ^ 40
      → IsContentsRead conduct format mid result new → Reads conduct infohash old (text_of result) new
  reads_contents infohash format old mid new (Ok contents) len first headed len_is limit are =
      read contents.hints new (has_then conduct old mid new [] [] first are.calls) are.lawful are.within
      (λ h. record {
        within = omega (arith, limit, len_is h);
        header_is = headed h ∙ ap (λ f. header f infohash) (header_of format contents.hints are.begins);
        body_is = of_same (λ bytes. IsBody (drop 40 bytes) contents.hints) old mid first are.text_is h;
      })
  reads_contents infohash format old mid new (Err Device) len first headed len_is limit unread_is =
      unread new unread_is.0 unread_is.1 (has_then conduct old mid new [] _ first unread_is.2)
      (λ h. ((format, headed h), omega (arith, limit, len_is h)))
  reads_contents infohash format old mid new (Err OutOfMemory) len first headed len_is limit calls =
      no_memory new (has_then conduct old mid new [] [] first calls) (λ h. ((format, headed h), omega (arith, limit, len_is h)))
  reads_contents infohash format old mid new (Err OtherTorrent) len first headed len_is limit none = absurd none
  reads_contents infohash format old mid new (Err TooLong) len first headed len_is limit none = absurd none

  -- ---- a log that is opened

  pub opens_read : (infohash : List ℕ) (old mid new : D) (result : Result LogText LogError) (len : ℕ) → HasCalls conduct old [] mid
      → (conduct.honest old → len ≡ length (conduct.history old).now.bytes) → 0 < len → Reads conduct infohash mid result new
      → Opens conduct infohash old result new
  opens_read infohash old mid new result len first len_is some reads =
      opened result new (λ h e. omega (arith, len_is h, some, ap length e)) (reads_later infohash old mid new result first reads)

  empty : (old : D) (len : ℕ) → (conduct.honest old → len ≡ length (conduct.history old).now.bytes) → len ≡ 0 → OfBytes conduct old (λ bytes. bytes ≡ [])
  empty old len len_is none h = nil_from_length (conduct.history old).now.bytes (omega (arith, len_is h, none))

  pub opens_made : (infohash : List ℕ) (old mid new : D) (text : LogText) (len : ℕ) → HasCalls conduct old [] mid
      → (conduct.honest old → len ≡ length (conduct.history old).now.bytes) → len ≡ 0 → text ≡ of_two [] → IsMade conduct infohash mid {T = ℕ} (Ok 0) new
      → Opens conduct infohash old (Ok text) new
  opens_made infohash old mid new text len first len_is none nothing calls =
      rw nothing (made new (empty old len len_is none) (has_then conduct old mid new [] _ first calls))

  pub opens_unmade : (infohash : List ℕ) (old mid new : D) (cause : LogError) (len : ℕ) → HasCalls conduct old [] mid
      → (conduct.honest old → len ≡ length (conduct.history old).now.bytes) → len ≡ 0 → IsMade conduct infohash mid {T = ℕ} (Err cause) new
      → Opens conduct infohash old (Err cause) new
  opens_unmade infohash old mid new Device len first len_is none (inl calls) =
      unwritten new (empty old len len_is none) (has_then conduct old mid new [] _ first calls)
  opens_unmade infohash old mid new Device len first len_is none (inr calls) =
      unsynced new (empty old len len_is none) (has_then conduct old mid new [] _ first calls)
  opens_unmade infohash old mid new OtherTorrent len first len_is none calls = absurd calls
  opens_unmade infohash old mid new TooLong len first len_is none calls = absurd calls
  opens_unmade infohash old mid new OutOfMemory len first len_is none calls = absurd calls
