-- How a start is refused where the log is the torrent's, and for what no log is refused.
use Rattle.std.specs.Prelude.{◌↔◌, IfOk, IfErr}
use Rattle.std.proofs.Common.{◌≡◌, ◌≢◌, ℕ, List, Option, Some, None, Result, Ok, Err, length, refl, sym, ap, ◌∙◌, subst}
use Rattle.bt_disk.specs.Conduct.{Conduct}
use Rattle.bt_meta.specs.Torrent.{Metainfo}
use Rattle.bt_resume.specs.ResumeLog.{LogView, Opens, IsAttached}
use Rattle.bt_resume.specs.declared.error.LogError.{LogError}
use Rattle.bt_machine.specs.declared.error.StartError.TheVariants.{DiskCount, OtherLog, OutOfMemory}
use Rattle.bt_machine.specs.declared.error.StartRefused.{StartRefused}
use Rattle.bt_machine.specs.Opening.{AnswersStart, BeginsOn, starts, other_count, other_log, no_memory}
use Rattle.bt_machine.specs.Lives.{FlushedLogsOpen}
use Rattle.bt_machine.specs.Start.{device_count}
use Rattle.bt_machine.specs.State.{EngineView}
use Rattle.bt_engine.specs.Reopened.{IsReopened, IsBackedByLog}
use Rattle.bt_machine.proofs.Lists.{some_is}
use Rattle.bt_engine.specs.Reopening.{HasReopened, IsNotReopened, IsNotStarted, RefusesNoneFlushed, unstarted}
use Rattle.bt_engine.specs.declared.reopening.ReopenRefused.{ReopenRefused}

module _ {D : Type 0} (conduct : Conduct D) (dig : List ℕ → List ℕ) where
  -- a refused start of an engine with its torrent's log
  pub record IsRefused (torrent : Metainfo) (given : List D) (log : LogView D) (refused : StartRefused D (LogView D)) : Type 0 where
    pub same_torrent : refused.cause ≢ OtherLog
    pub count : (refused.cause ≡ DiskCount) ↔ (length given ≢ device_count torrent.files)
    pub same_disks : refused.disks.items ≡ given
    pub same_log : refused.log ≡ Some log

  pub start_refused : {torrent : Metainfo} {given : List D} {log : LogView D} {answer : _} {refused : StartRefused D (LogView D)} → log.infohash ≡ torrent.infohash
      → AnswersStart conduct dig torrent given (Some log) answer → answer ≡ Err refused → IsRefused torrent given log refused
  start_refused own (starts first placed are begun is) err = absurd cc
  start_refused {torrent} {given} {log} {answer} {refused} own (other_count other back) err =
      let one : back.refused ≡ refused = (let is = back.is in cc) in
      let cause : refused.cause ≡ DiskCount = subst (λ (r : StartRefused D (LogView D)). r.cause ≡ DiskCount) one back.same_cause in
      record {
        same_torrent = λ e. absurd cc;
        count = (λ e. other, λ e. cause);
        same_disks = subst (λ (r : StartRefused D (LogView D)). r.disks.items ≡ given) one back.same_disks;
        same_log = subst (λ (r : StartRefused D (LogView D)). r.log ≡ Some log) one back.same_log;
      }
  start_refused {torrent} {given} {log} own (other_log l so_many some other back) err =
      let one : log ≡ l = cc in absurd (other (ap (λ (x : LogView D). x.infohash) (sym one) ∙ own))
  start_refused {torrent} {given} {log} {answer} {refused} own (no_memory so_many same back) err =
      let one : back.refused ≡ refused = (let is = back.is in cc) in
      let cause : refused.cause ≡ OutOfMemory = subst (λ (r : StartRefused D (LogView D)). r.cause ≡ OutOfMemory) one back.same_cause in
      record {
        same_torrent = λ e. absurd cc;
        count = (λ e. absurd cc, λ other. absurd (other so_many));
        same_disks = subst (λ (r : StartRefused D (LogView D)). r.disks.items ≡ given) one back.same_disks;
        same_log = subst (λ (r : StartRefused D (LogView D)). r.log ≡ Some log) one back.same_log;
      }

  pub refuses_none : FlushedLogsOpen conduct dig → (torrent : Metainfo) (log new : D) (cause : LogError)
      → Opens conduct torrent.infohash log (Err cause) new → RefusesNoneFlushed conduct dig torrent log cause
  refuses_none law torrent log new cause opens flushed since now log_since log_now lives left =
      law torrent flushed since now log_since log_now log new (Err cause) lives left opens

  -- ---- what a start with an opened log comes to

  -- an engine has begun
  has_begun : {torrent : Metainfo} {given : List D} {log : D} {opened : LogView D} {engine : EngineView D} {answer : _} → IsAttached conduct torrent.infohash log opened
      → IsReopened conduct dig torrent given (Some opened) engine → IsBackedByLog conduct dig torrent (Some opened) engine
      → AnswersStart conduct dig torrent given (Some opened) answer
      → answer ≡ Ok engine → HasReopened conduct dig torrent given log engine
  has_begun {torrent} {log = log} {opened = opened} {engine} attached again backed (starts first placed are begun is) ok =
      let one : first ≡ engine = cc in record {
        opened = opened;
        attached = attached;
        placed = placed;
        devices = are;
        begins = subst (λ (e : EngineView D). BeginsOn conduct dig torrent placed (Some opened) e) one begun;
        again = again;
        backed = backed log opened refl attached;
      }
  has_begun attached again backed (other_count other back) ok = let is = back.is in absurd cc
  has_begun attached again backed (other_log l so_many some other back) ok = let is = back.is in absurd cc
  has_begun attached again backed (no_memory so_many own back) ok = let is = back.is in absurd cc

  pub ok_reopened : (torrent : Metainfo) (given : List D) (log : D) (opened : LogView D) → IsAttached conduct torrent.infohash log opened
      → (result : Result (EngineView D) (ReopenRefused D))
      → IfOk result (λ engine. AnswersStart conduct dig torrent given (Some opened) (Ok engine))
      → IfOk result (IsReopened conduct dig torrent given (Some opened))
      → IfOk result (IsBackedByLog conduct dig torrent (Some opened))
      → IfOk result (HasReopened conduct dig torrent given log)
  ok_reopened torrent given log opened attached (Ok engine) begun again backed = has_begun attached again backed begun refl
  ok_reopened torrent given log opened attached (Err refused) begun again backed = tt

  pub err_unstarted : (torrent : Metainfo) (given : List D) (log : D) (opened : LogView D) → IsAttached conduct torrent.infohash log opened
      → (result : Result (EngineView D) (ReopenRefused D)) → IfErr result (IsNotStarted torrent given opened)
      → IfErr result (IsNotReopened conduct dig torrent given log)
  err_unstarted torrent given log opened attached (Ok engine) is = tt
  err_unstarted torrent given log opened attached (Err refused) is = unstarted opened attached is

  -- the log comes back with a refused start
  pub none_back : {torrent : Metainfo} {given : List D} {log : LogView D} {answer : _} {refused : StartRefused D (LogView D)} → log.infohash ≡ torrent.infohash
      → AnswersStart conduct dig torrent given (Some log) answer → answer ≡ Err refused → refused.log ≡ None → ⊥
  none_back own answers err none = let r = start_refused own answers err in let same = r.same_log in absurd (some_none (sym same ∙ none))
    where
      some_none : {l : LogView D} → Some l ≡ None → ⊥
      some_none e = absurd cc

-- its device is that of the log
pub same_disk : {D : Type 0} {log held : LogView D} {given : Option (LogView D)} {disk : D} → given ≡ Some log → given ≡ Some held → disk ≡ held.disk → disk ≡ log.disk
same_disk {D} {log} {held} is had same = same ∙ ap (λ (l : LogView D). l.disk) (some_is (sym had ∙ is))
