-- What a start marks again.
use Rattle.std.specs.Prelude.{OnOk}
use Rattle.std.proofs.Common.{◌≡◌, ℕ, List, length, Option, Some, Result, Ok, Err, subst}
use Rattle.bt_disk.specs.Conduct.{Conduct}
use Rattle.bt_tree.specs.Limits.{digest_length}
use Rattle.bt_meta.specs.Torrent.{Metainfo}
use Rattle.bt_resume.specs.ResumeLog.{LogView}
use Rattle.bt_machine.specs.Opening.{AnswersStart, BeginsOn, starts, other_count, other_log, no_memory}
use Rattle.bt_machine.specs.Backing.{StartIsBacked, HasBacking, GoesByLog, RestartIsBacked}
use Rattle.bt_machine.specs.Lives.{FlushedBlocksAreMarkedAgain}
use Rattle.bt_machine.specs.State.{EngineView}
use Rattle.bt_machine.specs.View.{StepsTo}
use Rattle.bt_machine.specs.declared.event.Event.TheVariants.{Restart}
use Rattle.bt_machine.specs.declared.event.Answer.TheVariants.{Restarted}
use Rattle.bt_machine.specs.declared.error.RestartError.{RestartError}
use Rattle.bt_engine.specs.Reopened.{IsReopened, IsBackedByLog}

module _ {D : Type 0} (conduct : Conduct D) (dig : List ℕ → List ℕ) where
  pub reopened : FlushedBlocksAreMarkedAgain conduct dig → {torrent : Metainfo} {given : List D} {log : Option (LogView D)} {answer : _} (engine : EngineView D)
      → AnswersStart conduct dig torrent given log answer → answer ≡ Ok engine → IsReopened conduct dig torrent given log engine
  reopened law {torrent} {given} {log} engine (starts first placed are begun is) ok =
      let one : first ≡ engine = cc in record {
        placed = placed;
        devices = are;
        marks = λ opened has flushed since now log_since log_now log_left b lives reads left log_is attached none marked.
            law torrent flushed since now placed log_since log_now log_left opened engine b lives reads left log_is attached
            (subst (λ (e : EngineView D). BeginsOn conduct dig torrent placed (Some opened) e) one
            (subst (λ (l : Option (LogView D)). BeginsOn conduct dig torrent placed l first) has begun)) none marked;
      }
  reopened law engine (other_count other back) ok = let is = back.is in absurd cc
  reopened law engine (other_log l so_many some other back) ok = let is = back.is in absurd cc
  reopened law engine (no_memory so_many own back) ok = let is = back.is in absurd cc

  pub backed_by_log : StartIsBacked conduct dig → {torrent : Metainfo} {given : List D} {log : Option (LogView D)} {answer : _} (engine : EngineView D)
      → length torrent.infohash ≡ digest_length
      → AnswersStart conduct dig torrent given log answer → answer ≡ Ok engine → IsBackedByLog conduct dig torrent log engine
  backed_by_log law {torrent} {given} {log} engine whole (starts first placed are begun is) ok =
      let one : first ≡ engine = cc in
      λ disk opened has attached. law torrent placed disk opened engine whole attached
      (subst (λ (e : EngineView D). BeginsOn conduct dig torrent placed (Some opened) e) one
      (subst (λ (l : Option (LogView D)). BeginsOn conduct dig torrent placed l first) has begun))
  backed_by_log law engine whole (other_count other back) ok = let is = back.is in absurd cc
  backed_by_log law engine whole (other_log l so_many some other back) ok = let is = back.is in absurd cc
  backed_by_log law engine whole (no_memory so_many own back) ok = let is = back.is in absurd cc

  -- a log backs the engine after a restart that was accepted
  pub restarted_backed : RestartIsBacked conduct dig → (old new : EngineView D) → GoesByLog old → (result : Result (Unit {0}) RestartError)
      → StepsTo conduct dig old Restart (Restarted result) new → OnOk result (HasBacking conduct dig new)
  restarted_backed law old new goes_by (Ok value) step = law old new goes_by step
  restarted_backed law old new goes_by (Err cause) step = tt
