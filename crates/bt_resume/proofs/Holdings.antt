-- Which text the device of a log holds.
use Rattle.std.proofs.Common.{◌≡◌, ℕ, ◌+◌, ◌-◌, ◌^◌, ◌≤◌, ◌⊎◌, inl, inr, min, max, List, [], ◌∷◌, ◌++◌, length, take, drop, replicate, Result, Ok, Err, MatchResult, refl, sym, ap, ◌∙◌, subst, arith}
use Rattle.std.specs.Prelude.{⊤}
use Rattle.std.proofs.Math.Seq.{take-add}
use Rattle.std.proofs.lemmas.List.{append_assoc, append-nil, take-take, take_at, length-take, length-drop, length-append, length-replicate}
use Rattle.std.proofs.lemmas.List.Elements.{All-nil}
use Rattle.bt_disk.specs.State.{State, IsImage, written, synced_state}
use Rattle.bt_disk.specs.Conduct.{Conduct}
use Rattle.bt_disk.specs.History.{History, moment_of, LeftBefore, LeftSince, after_write}
use Rattle.bt_disk.specs.Calls.{bytes_written, sync_made, HasCalls, AfterWriteFault}
use Rattle.bt_disk.proofs.Images.{synced_image}
use Rattle.bt_resume.specs.declared.hint.Format.{Format}
use Rattle.bt_resume.specs.declared.hint.Format.TheVariants.{Two}
use Rattle.bt_resume.specs.declared.hint.Hint.{Hint}
use Rattle.bt_resume.specs.declared.error.LogError.{LogError}
use Rattle.bt_resume.specs.declared.error.AppendError.TheVariants.{Full, Device as AppendDevice}
use Rattle.bt_resume.specs.Hint.{IsHint}
use Rattle.bt_resume.specs.LogText.{LogText, of_two, header_format, format_of, header, body_spelling, text_length, IsLog, appended_bytes, with_hint}
use Rattle.bt_resume.specs.ResumeLog.{LogView, read_log, forgotten, Reads, read, other_torrent, too_long, no_memory, no_length, no_header, unread, Opens, opened, unmeasured, made, unwritten, unsynced, IsAttached}
use Rattle.bt_resume.specs.Law.{KeepsText, OpenLogsKeep, IsTextKeptSince, HoldsTo, Holds, AttachHolds, ReloadHolds, AppendHolds, FlushHolds}
use Rattle.bt_resume.proofs.Texts.{log_size, goes_on_same, goes_on_trans, goes_on_is_longer, spelled_first, hint_behind}
use Rattle.bt_resume.proofs.Openings.{kept_devices_are_read}

-- ---- bytes after a call

front_kept : (a b : List ℕ) (n m : ℕ) → n ≤ m → take m b ≡ take m a → take n b ≡ take n a
front_kept a b n m le same = sym (take-take n m b le) ∙ ap (λ xs. take n xs) same ∙ take-take n m a le

front_written : (bytes : List ℕ) (at : ℕ) (more : List ℕ) → at ≤ length bytes → take (at + length more) (written bytes at more) ≡ take at bytes ++ more
front_written bytes at more inside =
    let no_gap : at - length bytes ≡ 0 = omega arith in
    let front : List ℕ = take at bytes ++ more in
    let size : length front ≡ at + length more = omega (arith, length-append (take at bytes) more, length-take at bytes) in
    rw (no_gap, append-nil (take at bytes)) (take_at front _ (at + length more) size)

size_written : (bytes : List ℕ) (at : ℕ) (more : List ℕ) → length (written bytes at more) ≤ max (length bytes) (at + length more)
size_written bytes at more =
    let gap : List ℕ = replicate (at - length bytes) 0 in
    omega (
      arith,
      length-append (take at bytes ++ gap ++ more) (drop (at + length more) bytes),
      length-append (take at bytes ++ gap) more,
      length-append (take at bytes) gap,
      length-replicate {A = ℕ} (at - length bytes) 0,
      length-take at bytes,
      length-drop (at + length more) bytes,
    )

-- after a write: what it left, and how far it went
record IsLeft (old : List ℕ) (at : ℕ) (more new : List ℕ) : Type 0 where
  front : take (at + length more) new ≡ take at old ++ more
  within : length new ≤ max (length old) (at + length more)

after_made : (old new : History) (at : ℕ) (more : List ℕ) → at ≤ length old.now.bytes → new ≡ after_write old at more → IsLeft old.now.bytes at more new.now.bytes
after_made old new at [] inside same = rw same (record {
  front = (let none : at + length {A = ℕ} [] ≡ at = omega arith in ap (λ n. take n old.now.bytes) none) ∙ sym (append-nil (take at old.now.bytes));
  within = omega arith;
})
after_made old new at (byte ∷ more) inside same = rw same (record {
  front = front_written old.now.bytes at (byte ∷ more) inside;
  within = omega (arith, size_written old.now.bytes at (byte ∷ more));
})

-- after a write that failed: the bytes in front of it are as they were
record IsSpared (old : List ℕ) (at count : ℕ) (new : List ℕ) : Type 0 where
  front : take at new ≡ take at old
  within : length new ≤ max (length old) (at + count)

after_torn : (old new : History) (at : ℕ) (more : List ℕ) → at ≤ length old.now.bytes → AfterWriteFault at more old new → IsSpared old.now.bytes at (length more) new.now.bytes
after_torn old new at [] inside same = rw same (record { front = refl; within = omega arith })
after_torn old new at (byte ∷ more) inside (inl same) = rw same (record { front = refl; within = omega arith })
after_torn old new at (byte ∷ more) inside (inr torn) =
    let place : min at (length old.now.bytes) ≡ at = omega arith in
    rw torn.2 (record { front = subst (λ n. take n torn.0.bytes ≡ take n old.now.bytes) place torn.1.before; within = torn.1.no_longer })

-- what holds of every image now, holds of every image since now

none_before : (past : List State) (t : ℕ) (image : List ℕ) → length past ≤ t → LeftBefore past t image → ⊥
none_before [] t image le left = left
none_before (s ∷ past) t image le (inl at) = absurd (omega (arith, at.0))
none_before (s ∷ past) t image le (inr left) = none_before past t image (omega arith) left

from_now : (P : List ℕ → Type 0) (h : History) → ((image : List ℕ) → IsImage h.now image → P image) → (image : List ℕ) → LeftSince h (moment_of h) image → P image
from_now P h now image (inl left) = now image left
from_now P h now image (inr before) = absurd (none_before h.past (length h.past) image (omega arith) before)

-- ---- what is held

held_same : (infohash a b : List ℕ) (end : ℕ) (format : Format) (text : LogText) → take end b ≡ take end a → HoldsTo infohash a end format text
    → HoldsTo infohash b end format text
held_same infohash a b end format text same held =
    record { lawful = held.lawful; end_is = held.end_is; format_is = held.format_is; spelled = same ∙ held.spelled }

-- the end is inside the bytes
held_inside : (infohash bytes : List ℕ) (end : ℕ) (format : Format) (text : LogText) → length infohash ≡ 32 → HoldsTo infohash bytes end format text
    → end ≤ length bytes
held_inside infohash bytes end format text size held =
    omega (arith, ap length held.spelled, log_size infohash text size, held.end_is, length-take end bytes)

held_more : (infohash old new : List ℕ) (end : ℕ) (text : LogText) (hint : Hint) (format : Format) → HoldsTo infohash old end format text → IsHint Two hint
    → IsLeft old end (appended_bytes format hint) new → HoldsTo infohash new (end + length (appended_bytes format hint)) Two (with_hint text hint)
held_more infohash old new end text hint format held is left =
    let longer = hint_behind text hint is in
    let more : List ℕ = appended_bytes format hint in
    let head : List ℕ = header (header_format text) infohash in
    let body : body_spelling (with_hint text hint) ≡ body_spelling text ++ more =
    longer.body ∙ ap (λ f. body_spelling text ++ appended_bytes f hint) (sym held.format_is) in
    record {
      lawful = longer.lawful held.lawful;
      end_is = omega (arith, held.end_is, ap length body, length-append (body_spelling text) more);
      format_is = sym longer.format;
      spelled = left.front ∙ ap (λ xs. xs ++ more) held.spelled ∙ append_assoc head (body_spelling text) more ∙ ap (λ xs. head ++ xs) (sym body)
          ∙ ap (λ f. header f infohash ++ body_spelling (with_hint text hint)) (sym longer.header);
    }

-- a log that is read holds its text
log_held : (infohash bytes : List ℕ) (text : LogText) → IsLog infohash bytes text → HoldsTo infohash bytes (text_length text) (format_of text) text
log_held infohash bytes text log =
    let n : ℕ = length (body_spelling text) in
    let behind : take n (drop 40 bytes) ≡ body_spelling text = ap (λ xs. take n xs) log.body_is.spelled ∙ take_at (body_spelling text) log.body_is.rest n refl in
    record {
      lawful = log.body_is.lawful;
      end_is = refl;
      format_is = refl;
      spelled = take-add 40 n bytes ∙ ap (λ xs. xs ++ take n (drop 40 bytes)) log.header_is ∙ ap (λ xs. header (header_format text) infohash ++ xs) behind;
    }

pub open_logs_keep : OpenLogsKeep
open_logs_keep infohash bytes text all size log begins = record {
  within = log.within;
  begins = spelled_first infohash bytes text all size begins (log_held infohash bytes all log).spelled;
}

module _ {D : Type 0} (conduct : Conduct D) where
  -- the device after a reading that found a text
  abbrev IsFound : List ℕ → D → LogText → Type 0
  IsFound infohash new text =
      (length (conduct.history new).now.bytes ≤ 2 ^ 40) × HoldsTo infohash (conduct.history new).now.bytes (text_length text) (format_of text) text

  reads_found : (infohash : List ℕ) (old new : D) (result : Result LogText LogError) → conduct.honest old → Reads conduct infohash old result new
      → MatchResult result (IsFound infohash new) (λ _. conduct.history new ≡ conduct.history old ⊎ conduct.history new ≡ conduct.history old)
  reads_found infohash old _ _ h (read text new calls is within of) =
      let log : IsLog infohash (conduct.history new).now.bytes text = subst (λ (s : History). IsLog infohash s.now.bytes text) (sym (calls.answered h)) (of h) in
      (log.within, log_held infohash (conduct.history new).now.bytes text log)
  reads_found infohash old _ _ h (too_long new calls of) = inl (calls.answered h)
  reads_found infohash old _ _ h (other_torrent new calls of) = inl (calls.answered h)
  reads_found infohash old _ _ h (no_memory new calls of) = inl (calls.answered h)
  reads_found infohash old _ _ h (no_length new calls) = let a = calls.answered h in inl (a.2 ∙ a.1)
  reads_found infohash old _ _ h (no_header new calls) = let a = calls.answered h in inl (a.2 ∙ a.1)
  reads_found infohash old _ _ h (unread new at wanted calls of) = let a = calls.answered h in inl (a.2 ∙ a.1)

  made_found : (infohash : List ℕ) (old new : D) → length infohash ≡ 32 → conduct.honest old → (conduct.history old).now.bytes ≡ []
      → HasCalls conduct old (bytes_written 0 (header Two infohash) ∷ sync_made ∷ []) new → IsFound infohash new (of_two [])
  made_found infohash old new size h none calls =
      let a = calls.answered h in
      let head_bytes : List ℕ = header Two infohash in
      let left : IsLeft (conduct.history old).now.bytes 0 head_bytes (a.0).now.bytes = after_made (conduct.history old) a.0 0 head_bytes (omega arith) a.1 in
      let synced : (conduct.history new).now.bytes ≡ (a.0).now.bytes = ap (λ (s : History). s.now.bytes) (a.2.2 ∙ a.2.1) in
      let head : 0 + length head_bytes ≡ 40 = omega (arith, size) in (
        omega (arith, ap length synced, left.within, head, ap length none),
        record {
          lawful = All-nil (IsHint Two);
          end_is = refl;
          format_is = refl;
          spelled = ap (λ xs. take 40 xs) synced ∙ ap (λ n. take n (a.0).now.bytes) (sym head) ∙ left.front ∙ sym (append-nil head_bytes);
        },
      )

  opens_found : (infohash : List ℕ) (old new : D) (result : Result LogText LogError) → length infohash ≡ 32 → conduct.honest old
      → Opens conduct infohash old result new → MatchResult result (IsFound infohash new) (λ _. ⊤)
  opens_found infohash old new (Ok text) size h (opened _ _ of reads) = reads_found infohash old new (Ok text) h reads
  opens_found infohash old new (Err cause) size h (opened _ _ of reads) = tt
  opens_found infohash old _ _ size h (unmeasured new calls) = tt
  opens_found infohash old _ _ size h (made new none calls) = made_found infohash old new size h (none h) calls
  opens_found infohash old _ _ size h (unwritten new none calls) = tt
  opens_found infohash old _ _ size h (unsynced new none calls) = tt

  found_holds : (disk : D) (infohash : List ℕ) (text : LogText) → length infohash ≡ 32 → IsFound infohash disk text
      → Holds conduct (read_log disk infohash text) text text
  found_holds disk infohash text size found =
      record { torrent = size; within = found.0; begins = goes_on_same text; kept_is = found.1; text_is = found.1 }

  pub read_holds : (infohash : List ℕ) (old : D) (log : LogView D) → length infohash ≡ 32 → conduct.honest old → (is : IsAttached conduct infohash old log)
      → Holds conduct log is.text is.text
  read_holds infohash old log size h is =
      subst (λ l. Holds conduct l is.text is.text) (sym is.log_is)
      (found_holds log.disk infohash is.text size (opens_found infohash old log.disk (Ok is.text) size h is.opens))

  pub attach_holds : AttachHolds conduct
  attach_holds infohash old log size h is = (is.text, ap (λ (l : LogView D). l.hints) is.log_is, read_holds infohash old log size h is)

  -- the same log on a device with the same bytes
  moved : (log : LogView D) (disk : D) (kept text : LogText) → Holds conduct log kept text → conduct.history disk ≡ conduct.history log.disk
      → Holds conduct (record log { disk = disk }) kept text
  moved log disk kept text holds same =
      record { torrent = holds.torrent; within = rw same holds.within; begins = holds.begins; kept_is = rw same holds.kept_is; text_is = rw same holds.text_is }

  -- what was appended is forgotten
  kept_alone : (log : LogView D) (disk : D) (kept : LogText) → length log.infohash ≡ 32 → length (conduct.history disk).now.bytes ≤ 2 ^ 40
      → HoldsTo log.infohash (conduct.history disk).now.bytes log.kept_end log.kept_format kept → Holds conduct (forgotten log disk) kept kept
  kept_alone log disk kept size within held =
      record { torrent = size; within = within; begins = goes_on_same kept; kept_is = held; text_is = held }

  -- the device of a log begins with the text that it holds
  pub held_keeps : (log : LogView D) (kept text : LogText) → Holds conduct log kept text → KeepsText log.infohash text (conduct.history log.disk).now.bytes
  held_keeps log kept text holds = record { within = holds.within; begins = rw (← holds.text_is.end_is) holds.text_is.spelled }

  -- what is kept ends where the next hint is written, or before
  kept_first : (log : LogView D) (kept text : LogText) → Holds conduct log kept text → log.kept_end ≤ log.end
  kept_first log kept text holds = omega (arith, goes_on_is_longer kept text holds.begins, holds.kept_is.end_is, holds.text_is.end_is)

  pub reload_holds : ReloadHolds conduct
  reload_holds old new (Ok value) kept text h is holds = (
    is.0,
    ap (λ (l : LogView D). l.hints) is.2,
    subst (λ log. Holds conduct log is.0 is.0) (sym is.2)
        (found_holds new.disk old.infohash is.0 holds.torrent (reads_found old.infohash old.disk new.disk (Ok is.0) h is.1)),
    kept_devices_are_read conduct old.infohash old.disk new.disk (Ok is.0) text holds.torrent holds.text_is.lawful h (held_keeps old kept text holds) is.1,
  )
  reload_holds old new (Err cause) kept text h is holds =
      let same : conduct.history new.disk ≡ conduct.history old.disk = elim (reads_found old.infohash old.disk new.disk (Err cause) h is.0) [ inl e ↦ e | inr e ↦ e ] in (
        subst (λ log. Holds conduct log kept text) (sym is.1) (moved old new.disk kept text holds same),
        kept_devices_are_read conduct old.infohash old.disk new.disk (Err cause) text holds.torrent holds.text_is.lawful h (held_keeps old kept text holds) is.0,
      )

  pub append_holds : AppendHolds conduct
  append_holds hint old new (Ok value) kept text h lawful is holds =
      let bytes : List ℕ = (conduct.history old.disk).now.bytes in
      let after : List ℕ = (conduct.history new.disk).now.bytes in
      let more : List ℕ = appended_bytes old.format hint in
      let a = is.1.answered h in
      let inside = held_inside old.infohash bytes old.end old.format text holds.torrent holds.text_is in
      let left : IsLeft bytes old.end more after = after_made (conduct.history old.disk) (conduct.history new.disk) old.end more inside (a.2 ∙ a.1) in
      let size : length (take old.end bytes) ≡ old.end = omega (arith, length-take old.end bytes) in
      let front : take old.end after ≡ take old.end bytes =
      sym (take-take old.end (old.end + length more) after (omega arith)) ∙ ap (λ xs. take old.end xs) left.front ∙ take_at (take old.end bytes) more old.end size in
      subst (λ log. Holds conduct log kept (with_hint text hint)) (sym is.2) (record {
        torrent = holds.torrent;
        within = omega (arith, left.within, holds.within, is.0);
        begins = goes_on_trans kept text (with_hint text hint) holds.begins (hint_behind text hint lawful).goes_on;
        kept_is = held_same old.infohash bytes after old.kept_end old.kept_format kept
            (front_kept bytes after old.kept_end old.end (kept_first old kept text holds) front) holds.kept_is;
        text_is = held_more old.infohash bytes after old.end text hint old.format holds.text_is lawful left;
      })
  append_holds hint old new (Err AppendDevice) kept text h lawful is holds =
      let bytes : List ℕ = (conduct.history old.disk).now.bytes in
      let after : List ℕ = (conduct.history new.disk).now.bytes in
      let more : List ℕ = appended_bytes old.format hint in
      let a = is.1.answered h in
      let inside = held_inside old.infohash bytes old.end old.format text holds.torrent holds.text_is in
      let spared : IsSpared bytes old.end (length more) after =
      after_torn (conduct.history old.disk) (conduct.history new.disk) old.end more inside (subst (AfterWriteFault old.end more (conduct.history old.disk)) (sym a.2) a.1) in
      subst (λ log. Holds conduct log kept kept) (sym is.2)
      (kept_alone old new.disk kept holds.torrent (omega (arith, spared.within, holds.within, is.0))
      (held_same old.infohash bytes after old.kept_end old.kept_format kept
      (front_kept bytes after old.kept_end old.end (kept_first old kept text holds) spared.front) holds.kept_is))
  append_holds hint old new (Err Full) kept text h lawful is holds =
      subst (λ log. Holds conduct log kept kept) (sym is.1) (kept_alone old old.disk kept holds.torrent holds.within holds.kept_is)

  pub flush_holds : FlushHolds conduct
  flush_holds old new (Ok value) kept text h is holds =
      let a = is.0.answered h in
      let synced : (conduct.history new.disk).now ≡ synced_state (conduct.history old.disk).now.bytes = ap (λ (s : History). s.now) (a.2 ∙ a.1) in
      let bytes : (conduct.history new.disk).now.bytes ≡ (conduct.history old.disk).now.bytes = ap (λ (s : State). s.bytes) synced in
      let held : HoldsTo old.infohash (conduct.history new.disk).now.bytes old.end old.format text = rw bytes holds.text_is in
      let held_now : Holds conduct (record old { disk = new.disk; kept_end = old.end; kept_format = old.format }) text text =
      record { torrent = holds.torrent; within = rw bytes holds.within; begins = goes_on_same text; kept_is = held; text_is = held } in
      let keeps = held_keeps old kept text holds in
      let since : IsTextKeptSince (conduct.history new.disk) (moment_of (conduct.history new.disk)) old.infohash text =
      from_now (KeepsText old.infohash text) (conduct.history new.disk)
      (λ image left. subst (KeepsText old.infohash text) (sym (synced_image (conduct.history old.disk).now.bytes image (subst (λ s. IsImage s image) synced left))) keeps) in
      subst (λ (log : LogView D). Holds conduct log text text × IsTextKeptSince (conduct.history new.disk) (moment_of (conduct.history new.disk)) log.infohash text) (sym is.1) (held_now, since)
  flush_holds old new (Err cause) kept text h is holds =
      let a = is.0.answered h in
      let same : conduct.history new.disk ≡ conduct.history old.disk = a.2 ∙ a.1 in
      subst (λ log. Holds conduct log kept kept) (sym is.1)
      (kept_alone old new.disk kept holds.torrent (rw same holds.within) (rw same holds.kept_is))
