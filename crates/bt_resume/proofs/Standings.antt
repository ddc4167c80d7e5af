-- Texts that stand in a log and in each image of a crash.
use Rattle.std.proofs.Common.{◌≡◌, ℕ, ◌≤◌, inl, Ok, Err, sym, ap, subst, arith}
use Rattle.bt_disk.specs.State.{IsImage}
use Rattle.bt_disk.specs.Conduct.{Conduct}
use Rattle.bt_resume.specs.declared.error.AppendError.TheVariants.{Full, Device as AppendDevice}
use Rattle.bt_resume.specs.LogText.{LogText, text_length, GoesOn, with_hint}
use Rattle.bt_resume.specs.ResumeLog.{LogView}
use Rattle.bt_resume.specs.Law.{IsTextKeptSince, Holds, AttachStands, ReloadStands, AppendStands, FlushStands, FlushedStand}
use Rattle.bt_resume.proofs.Texts.{goes_on_same, goes_on_trans, goes_on_is_longer}
use Rattle.bt_resume.proofs.Openings.{kept_devices_open}
use Rattle.bt_resume.proofs.Holdings.{read_holds, reload_holds, append_holds, flush_holds}
use Rattle.bt_resume.proofs.Crashes.{attach_keeps, reload_keeps, append_keeps, flush_keeps}

module _ {D : Type 0} (conduct : Conduct D) (gives_image : (disk : D) → conduct.honest disk → IsImage (conduct.history disk).now (conduct.history disk).now.bytes) where
  -- the images of a log of the same torrent
  same_log : (old new : LogView D) (t : ℕ) (text : LogText) → new.infohash ≡ old.infohash → IsTextKeptSince (conduct.history new.disk) t old.infohash text
      → IsTextKeptSince (conduct.history new.disk) t new.infohash text
  same_log old new t text same = subst (λ infohash. IsTextKeptSince (conduct.history new.disk) t infohash text) (sym same)

  pub attach_stands : AttachStands conduct
  attach_stands infohash old log t text size lawful h since is =
      let begins : GoesOn text is.text =
      kept_devices_open conduct infohash old log.disk (Ok is.text) text size lawful h (since _ (inl (gives_image old h))) is.opens in
      record {
        kept = is.text;
        all = is.text;
        holds = read_holds conduct infohash old log size h is;
        begins = begins;
        since = subst (λ i. IsTextKeptSince (conduct.history log.disk) t i text) (sym (ap (λ (l : LogView D). l.infohash) is.log_is))
            (attach_keeps conduct gives_image infohash infohash old log.disk (Ok is.text) t text size h is.opens since);
      }

  pub reload_stands : ReloadStands conduct
  reload_stands old new (Ok value) t text h is keeps =
      let held = reload_holds conduct old new (Ok value) keeps.kept keeps.all h is keeps.holds in
      record {
        kept = held.0;
        all = held.0;
        holds = held.2;
        begins = goes_on_trans text keeps.kept held.0 keeps.begins (goes_on_trans keeps.kept keeps.all held.0 keeps.holds.begins held.3);
        since = same_log old new t text (ap (λ (log : LogView D). log.infohash) is.2)
            (reload_keeps conduct gives_image old new (Ok value) t text keeps.holds.torrent h is keeps.since);
      }
  reload_stands old new (Err cause) t text h is keeps = record {
    kept = keeps.kept;
    all = keeps.all;
    holds = (reload_holds conduct old new (Err cause) keeps.kept keeps.all h is keeps.holds).0;
    begins = keeps.begins;
    since = same_log old new t text (ap (λ (log : LogView D). log.infohash) is.1)
        (reload_keeps conduct gives_image old new (Err cause) t text keeps.holds.torrent h is keeps.since);
  }

  -- the text that is kept ends where the next hint is written, or before
  ends_before : (log : LogView D) (kept all text : LogText) → Holds conduct log kept all → GoesOn text kept → text_length text ≤ log.end
  ends_before log kept all text holds begins =
      omega (arith, goes_on_is_longer text kept begins, goes_on_is_longer kept all holds.begins, holds.text_is.end_is)

  pub append_stands : AppendStands conduct
  append_stands hint old new (Ok value) t text h lawful is keeps = record {
    kept = keeps.kept;
    all = with_hint keeps.all hint;
    holds = append_holds conduct hint old new (Ok value) keeps.kept keeps.all h lawful is keeps.holds;
    begins = keeps.begins;
    since = same_log old new t text (ap (λ (log : LogView D). log.infohash) is.2)
        (append_keeps conduct gives_image hint old new (Ok value) t text keeps.holds.torrent h is (ends_before old keeps.kept keeps.all text keeps.holds keeps.begins) keeps.since);
  }
  append_stands hint old new (Err AppendDevice) t text h lawful is keeps = record {
    kept = keeps.kept;
    all = keeps.kept;
    holds = append_holds conduct hint old new (Err AppendDevice) keeps.kept keeps.all h lawful is keeps.holds;
    begins = keeps.begins;
    since = same_log old new t text (ap (λ (log : LogView D). log.infohash) is.2)
        (append_keeps conduct gives_image hint old new (Err AppendDevice) t text keeps.holds.torrent h is (ends_before old keeps.kept keeps.all text keeps.holds keeps.begins) keeps.since);
  }
  append_stands hint old new (Err Full) t text h lawful is keeps = record {
    kept = keeps.kept;
    all = keeps.kept;
    holds = append_holds conduct hint old new (Err Full) keeps.kept keeps.all h lawful is keeps.holds;
    begins = keeps.begins;
    since = same_log old new t text (ap (λ (log : LogView D). log.infohash) is.1)
        (append_keeps conduct gives_image hint old new (Err Full) t text keeps.holds.torrent h is (ends_before old keeps.kept keeps.all text keeps.holds keeps.begins) keeps.since);
  }

  pub flush_stands : FlushStands conduct
  flush_stands old new (Ok value) t text h is keeps = record {
    kept = keeps.all;
    all = keeps.all;
    holds = (flush_holds conduct old new (Ok value) keeps.kept keeps.all h is keeps.holds).0;
    begins = goes_on_trans text keeps.kept keeps.all keeps.begins keeps.holds.begins;
    since = same_log old new t text (ap (λ (log : LogView D). log.infohash) is.1)
        (flush_keeps conduct gives_image old new (Ok value) t text keeps.holds.torrent h is keeps.since);
  }
  flush_stands old new (Err fault) t text h is keeps = record {
    kept = keeps.kept;
    all = keeps.kept;
    holds = flush_holds conduct old new (Err fault) keeps.kept keeps.all h is keeps.holds;
    begins = keeps.begins;
    since = same_log old new t text (ap (λ (log : LogView D). log.infohash) is.1)
        (flush_keeps conduct gives_image old new (Err fault) t text keeps.holds.torrent h is keeps.since);
  }

  pub flushed_stand : FlushedStand conduct
  flushed_stand old new value kept text h is holds =
      let held = flush_holds conduct old new (Ok value) kept text h is holds in
      record { kept = text; all = text; holds = held.0; begins = goes_on_same text; since = held.1 }
