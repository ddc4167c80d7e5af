-- What a log kept at a flush that answered Ok, over the events that follow and in what a stop leaves.
use Rattle.bt_machine.proofs.Base.{◌≡◌, true, flat_map, Some, ap, ◌∙◌, subst, Metainfo}
use Rattle.bt_disk.specs.Conduct.{Conduct}
use Rattle.bt_disk.specs.History.{moment_of}
use Rattle.bt_resume.specs.LogText.{LogText}
use Rattle.bt_resume.specs.ResumeLog.{LogView}
use Rattle.bt_resume.specs.Law.{IsTextKeptSince, KeptDevicesOpen, AttachHolds, ReloadHolds, AppendHolds, FlushHolds, Holds, ReloadStands, AppendStands, FlushStands, FlushedStand}
use Rattle.bt_machine.specs.State.{EngineView}
use Rattle.bt_machine.specs.LogCalls.{AreLogCalls}
use Rattle.bt_machine.specs.Reopening.{RunsPastFlush, FlushedLogsAreKept}
use Rattle.bt_machine.proofs.Machine.{Digest}
use Rattle.bt_machine.proofs.LogCalls.{infohash_stays, HoldsSome, calls_hold, calls_back, calls_stand, logs_are, old_log, IsWritten, written, flush_ok, IsKept, flush_kept}
use Rattle.bt_machine.proofs.Backing.{begins_of, log_of, opened_by, opens_back}
use Rattle.bt_machine.proofs.Recovered.{recovered_state}
use Rattle.bt_machine.proofs.Shape.{shape_kept}
use Rattle.bt_machine.proofs.View.{without_devices}

module _ {D : Type 0} (conduct : Conduct D) where
  -- ---- the calls of the log, before the flush, in it and after it

  module _ (dig : Digest) (torrent : Metainfo) (flushed last : EngineView D) (synced stopped : LogView D)
      (r : RunsPastFlush conduct dig torrent flushed last synced stopped) (h : conduct.honest stopped.disk) where
    pub later_calls : AreLogCalls conduct synced (flat_map (λ c. c.log) r.goes_on.calls) stopped
    later_calls = logs_are conduct flushed.log last.log (flat_map (λ c. c.log) r.goes_on.calls) r.synced_is r.stopped_is r.goes_on.logged

    pub synced_honest : conduct.honest synced.disk
    synced_honest = calls_back conduct synced (flat_map (λ c. c.log) r.goes_on.calls) stopped later_calls h

    pub was : (log : LogView D) × (r.old.log ≡ Some log)
    was = old_log conduct r.old.log flushed.log r.flush.calls.log r.synced_is r.flush.logged

    flush_calls : AreLogCalls conduct was.0 r.flush.calls.log synced
    flush_calls = logs_are conduct r.old.log flushed.log r.flush.calls.log was.1 r.synced_is r.flush.logged

    pub was_honest : conduct.honest was.0.disk
    was_honest = calls_back conduct was.0 r.flush.calls.log synced flush_calls synced_honest

    run_calls : AreLogCalls conduct r.log (flat_map (λ c. c.log) r.run.calls) was.0
    run_calls = logs_are conduct r.first.log r.old.log (flat_map (λ c. c.log) r.run.calls) (log_of conduct dig r.begins) was.1 r.run.logged

    hash : stopped.infohash ≡ torrent.infohash
    hash =
        infohash_stays conduct synced (flat_map (λ c. c.log) r.goes_on.calls) stopped later_calls
        ∙ infohash_stays conduct was.0 r.flush.calls.log synced flush_calls
        ∙ infohash_stays conduct r.log (flat_map (λ c. c.log) r.run.calls) was.0 run_calls
        ∙ infohash_stays conduct r.opened r.before r.log r.called
        ∙ ap (λ (l : LogView D). l.infohash) r.attached.log_is

    -- the engine has a log from its start on
    pub logged_before : r.old.state.logged ≡ true
    logged_before =
        let run = without_devices conduct dig r.first.state r.old.state r.first.disks r.old.disks r.events r.run.calls r.answers r.run.run in
        (shape_kept dig torrent r.first.state r.old.state r.events r.run.calls r.answers (begins_of conduct dig r.begins) run).2
        ∙ (recovered_state dig (opened_by conduct dig r.begins).recovers).0

    pub flush_writes : r.old.state.logged ≡ true → IsWritten conduct r.old.state r.flush.calls flushed.state
    flush_writes is = written conduct r.flush.step.2 (flush_ok conduct r.flush.step.1) is

    module _ (append : AppendHolds conduct) (flush : FlushHolds conduct) (reload_stands : ReloadStands conduct)
        (append_stands : AppendStands conduct) (flush_stands : FlushStands conduct) (flushed_stand : FlushedStand conduct) where
      -- what was held before the flush is kept at it, and whatever a stop leaves begins with that
      pub record IsKeptPast (text : LogText) : Type 0 where
        pub kept : IsKept conduct dig r.old.state flushed.state text synced
        pub since : IsTextKeptSince (conduct.history stopped.disk) (moment_of (conduct.history synced.disk)) torrent.infohash kept.now

      pub kept_past : (kept text : LogText) → r.old.state.logged ≡ true → Holds conduct was.0 kept text → IsKeptPast text
      kept_past kept text is holds =
          let k = flush_kept conduct dig append flush was.0 synced kept text (flush_writes is) flush_calls synced_honest holds in
          let stands = calls_stand conduct reload_stands append_stands flush_stands (moment_of (conduct.history synced.disk)) k.now synced
          (flat_map (λ c. c.log) r.goes_on.calls) stopped h later_calls (k.stands flushed_stand) in
          record {
            kept = k;
            since = subst (λ infohash. IsTextKeptSince (conduct.history stopped.disk) (moment_of (conduct.history synced.disk)) infohash k.now) hash stands.since;
          }

    -- ---- whatever events follow

    -- a log that was opened holds a text, and so it does after whatever calls
    held_before : AttachHolds conduct → ReloadHolds conduct → AppendHolds conduct → FlushHolds conduct → HoldsSome conduct was.0
    held_before attach reload append flush =
        let log_honest = calls_back conduct r.log (flat_map (λ c. c.log) r.run.calls) was.0 run_calls was_honest in
        let opened_honest = calls_back conduct r.opened r.before r.log r.called log_honest in
        let text = attach torrent.infohash r.disk r.opened r.whole (opens_back conduct r.attached.opens opened_honest) r.attached in
        calls_hold conduct reload append flush r.log (flat_map (λ c. c.log) r.run.calls) was.0 was_honest run_calls
        (calls_hold conduct reload append flush r.opened r.before r.log log_honest r.called (text.0, text.0, text.2))

  module _ (dig : Digest) (reload : ReloadHolds conduct) (append : AppendHolds conduct) (flush : FlushHolds conduct)
      (attach : AttachHolds conduct) where
    pub logs_kept : ReloadStands conduct → AppendStands conduct → FlushStands conduct
        → FlushedStand conduct → KeptDevicesOpen conduct → FlushedLogsAreKept conduct dig
    logs_kept reload_stands append_stands flush_stands flushed_stand opens torrent flushed last synced stopped r h =
        let held = held_before dig torrent flushed last synced stopped r h attach reload append flush in
        let past = kept_past dig torrent flushed last synced stopped r h append flush reload_stands append_stands flush_stands flushed_stand
        held.0 held.1 (logged_before dig torrent flushed last synced stopped r h) held.2 in
        record {
          text = past.kept.now;
          holds = past.kept.holds;
          kept = past.since;
          opens = λ left new result stop opening.
              opens torrent.infohash left new result past.kept.now r.whole past.kept.holds.text_is.lawful stop.is_honest
              (past.since (conduct.history left).now.bytes stop.image) opening;
        }
