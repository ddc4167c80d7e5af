-- What a crash leaves of a log.
use Rattle.std.proofs.Common.{◌≡◌, ℕ, ◌+◌, ◌-◌, ◌^◌, ◌<◌, ◌≤◌, inl, List, [], ◌∷◌, length, take, get_or, All, Some, Result, Ok, Err, sym, ap, ◌∙◌, subst, arith}
use Rattle.std.specs.Prelude.{slice_get}
use Rattle.std.proofs.lemmas.List.{get_or-take, ext_get_or, length-take}
use Rattle.std.proofs.lemmas.List.Elements.{All-nil, All-cons}
use Rattle.std.proofs.lemmas.Option.{get_or_from_slice_get, slice_get-get_or, slice_get_within}
use Rattle.bt_disk.specs.State.{IsImage}
use Rattle.bt_disk.specs.Conduct.{Conduct}
use Rattle.bt_disk.specs.Calls.{Call, length_fault, read_fault, bytes_written, write_fault, sync_made, sync_fault, HasCalls, Spares, EndsWithin}
use Rattle.bt_disk.proofs.Histories.{calls_keep_bytes, calls_keep_lengths}
use Rattle.bt_resume.specs.declared.error.LogError.{LogError}
use Rattle.bt_resume.specs.declared.error.AppendError.TheVariants.{Full, Device as AppendDevice}
use Rattle.bt_resume.specs.LogText.{LogText, text_spelling, text_length, appended_bytes}
use Rattle.bt_resume.specs.ResumeLog.{LogView, Reads, read, other_torrent, too_long, no_memory, no_length, no_header, unread, opened, unmeasured, made, unwritten, unsynced}
use Rattle.bt_resume.specs.Law.{IsTextKeptSince, AttachKeeps, ReloadKeeps, AppendKeeps, FlushKeeps}
use Rattle.bt_resume.proofs.Texts.{log_size}
use Rattle.bt_resume.proofs.Openings.{not_empty}

-- ---- bytes one by one, and all

one_kept : (image spelling : List ℕ) (n i : ℕ) → length spelling ≡ n → take n image ≡ spelling → i < n → slice_get image i ≡ Some (get_or spelling i 0)
one_kept image spelling n i size front lt =
    let inside : i < length image = omega (arith, lt, size, ap length front, length-take n image) in
    slice_get-get_or image i 0 inside ∙ ap Some (sym (get_or-take n image i 0 lt) ∙ ap (λ xs. get_or xs i 0) front)

all_kept : (image spelling : List ℕ) (n : ℕ) → length spelling ≡ n → 0 < n → ((i : ℕ) → i < n → slice_get image i ≡ Some (get_or spelling i 0)) → take n image ≡ spelling
all_kept image spelling n size some each =
    let inside : n - 1 < length image = slice_get_within image (n - 1) _ (each (n - 1) (omega arith)) in
    let long : length (take n image) ≡ n = omega (arith, length-take n image) in
    ext_get_or 0 (take n image) spelling (omega (arith, long, size))
    (λ i lt. let below : i < n = omega (arith, lt, long) in get_or-take n image i 0 below ∙ get_or_from_slice_get image i _ 0 (each i below))

-- a call that leaves the first bytes alone, and does not go too far
record IsBehind (n : ℕ) (call : Call) : Type 0 where
  spares : (i : ℕ) → i < n → Spares i call
  ends : EndsWithin (2 ^ 40) call

module _ {D : Type 0} (conduct : Conduct D) (gives_image : (disk : D) → conduct.honest disk → IsImage (conduct.history disk).now (conduct.history disk).now.bytes) where
  -- calls that leave the log's first bytes alone keep them in every image
  calls_keep : (infohash : List ℕ) (text : LogText) (old new : D) (calls : List Call) (t : ℕ) → length infohash ≡ 32 → conduct.honest old
      → HasCalls conduct old calls new → All (IsBehind (text_length text)) calls
      → IsTextKeptSince (conduct.history old) t infohash text → IsTextKeptSince (conduct.history new) t infohash text
  calls_keep infohash text old new calls t size h told behind since image left =
      let n : ℕ = text_length text in
      let spelling : List ℕ = text_spelling infohash text in
      let long = log_size infohash text size in
      record {
        within = calls_keep_lengths (conduct.history old) (conduct.history new) calls t (2 ^ 40) (gives_image old h) (told.answered h)
            (λ k d lt. (behind k d lt).ends) (λ i l. (since i l).within) image left;
        begins = all_kept image spelling n long (omega arith)
            (λ i lt. calls_keep_bytes (conduct.history old) (conduct.history new) calls t i (get_or spelling i 0) (gives_image old h) (told.answered h)
            (λ k d inside. (behind k d inside).spares i lt) (λ other l. one_kept other spelling n i long (since other l).begins lt) image left);
      }

  one_keeps : (infohash : List ℕ) (text : LogText) (old new : D) (call : Call) (t : ℕ) → length infohash ≡ 32 → conduct.honest old
      → HasCalls conduct old (call ∷ []) new → IsBehind (text_length text) call
      → IsTextKeptSince (conduct.history old) t infohash text → IsTextKeptSince (conduct.history new) t infohash text
  one_keeps infohash text old new call t size h told behind =
      calls_keep infohash text old new (call ∷ []) t size h told (All-cons (IsBehind (text_length text)) call [] behind (All-nil (IsBehind (text_length text))))

  none_keeps : (infohash : List ℕ) (text : LogText) (old new : D) (t : ℕ) → length infohash ≡ 32 → conduct.honest old
      → HasCalls conduct old [] new → IsTextKeptSince (conduct.history old) t infohash text → IsTextKeptSince (conduct.history new) t infohash text
  none_keeps infohash text old new t size h told = calls_keep infohash text old new [] t size h told (All-nil (IsBehind (text_length text)))

  write_behind : (n at : ℕ) (bytes : List ℕ) → n ≤ at → at + length bytes ≤ 2 ^ 40 → IsBehind n (bytes_written at bytes)
  write_behind n at bytes le within = record { spares = λ i lt. inl (omega arith); ends = within }

  torn_behind : (n at : ℕ) (bytes : List ℕ) → n ≤ at → at + length bytes ≤ 2 ^ 40 → IsBehind n (write_fault at bytes)
  torn_behind n at bytes le within = record { spares = λ i lt. inl (omega arith); ends = within }

  reads_keep : (infohash torrent : List ℕ) (old new : D) (result : Result LogText LogError) (t : ℕ) (text : LogText) → length infohash ≡ 32 → conduct.honest old
      → Reads conduct torrent old result new → IsTextKeptSince (conduct.history old) t infohash text → IsTextKeptSince (conduct.history new) t infohash text
  reads_keep infohash torrent old _ _ t text size h (read found new calls lawful within of) = none_keeps infohash text old new t size h calls
  reads_keep infohash torrent old _ _ t text size h (too_long new calls of) = none_keeps infohash text old new t size h calls
  reads_keep infohash torrent old _ _ t text size h (other_torrent new calls of) = none_keeps infohash text old new t size h calls
  reads_keep infohash torrent old _ _ t text size h (no_memory new calls of) = none_keeps infohash text old new t size h calls
  reads_keep infohash torrent old _ _ t text size h (no_length new calls) = one_keeps infohash text old new length_fault t size h calls (record { spares = λ i lt. tt; ends = tt })
  reads_keep infohash torrent old _ _ t text size h (no_header new calls) = one_keeps infohash text old new (read_fault 0 40) t size h calls (record { spares = λ i lt. tt; ends = tt })
  reads_keep infohash torrent old _ _ t text size h (unread new at wanted calls of) =
      one_keeps infohash text old new (read_fault at wanted) t size h calls (record { spares = λ i lt. tt; ends = tt })

  -- where every image begins with a text, the device is not empty
  some_bytes : (infohash : List ℕ) (text : LogText) (old : D) (t : ℕ) → length infohash ≡ 32 → conduct.honest old → (conduct.history old).now.bytes ≡ []
      → IsTextKeptSince (conduct.history old) t infohash text → ⊥
  some_bytes infohash text old t size h none since = not_empty infohash (conduct.history old).now.bytes text size (since _ (inl (gives_image old h))) none

  pub attach_keeps : AttachKeeps conduct
  attach_keeps infohash torrent old new result t text size h (opened _ _ of reads) since = reads_keep infohash torrent old new result t text size h reads since
  attach_keeps infohash torrent old _ _ t text size h (unmeasured new calls) since =
      one_keeps infohash text old new length_fault t size h calls (record { spares = λ i lt. tt; ends = tt }) since
  attach_keeps infohash torrent old _ _ t text size h (made new none calls) since = absurd (some_bytes infohash text old t size h (none h) since)
  attach_keeps infohash torrent old _ _ t text size h (unwritten new none calls) since = absurd (some_bytes infohash text old t size h (none h) since)
  attach_keeps infohash torrent old _ _ t text size h (unsynced new none calls) since = absurd (some_bytes infohash text old t size h (none h) since)

  pub reload_keeps : ReloadKeeps conduct
  reload_keeps old new (Ok value) t text size h is since = reads_keep old.infohash old.infohash old.disk new.disk _ t text size h is.1 since
  reload_keeps old new (Err cause) t text size h is since = reads_keep old.infohash old.infohash old.disk new.disk _ t text size h is.0 since

  pub append_keeps : AppendKeeps conduct
  append_keeps hint old new (Ok value) t text size h is le since =
      one_keeps old.infohash text old.disk new.disk _ t size h is.1 (write_behind (text_length text) old.end (appended_bytes old.format hint) le is.0) since
  append_keeps hint old new (Err AppendDevice) t text size h is le since =
      one_keeps old.infohash text old.disk new.disk _ t size h is.1 (torn_behind (text_length text) old.end (appended_bytes old.format hint) le is.0) since
  append_keeps hint old new (Err Full) t text size h is le since =
      subst (λ (log : LogView D). IsTextKeptSince (conduct.history log.disk) t old.infohash text) (sym is.1) since

  pub flush_keeps : FlushKeeps conduct
  flush_keeps old new (Ok value) t text size h is since = one_keeps old.infohash text old.disk new.disk sync_made t size h is.0 (record { spares = λ i lt. tt; ends = tt }) since
  flush_keeps old new (Err cause) t text size h is since = one_keeps old.infohash text old.disk new.disk sync_fault t size h is.0 (record { spares = λ i lt. tt; ends = tt }) since
