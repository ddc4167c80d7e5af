-- Events that are no restart lose nothing.
use Rattle.std.specs.Prelude.{flat_map, OnOk}
use Rattle.std.proofs.lemmas.List.Elements.{All-nil, All-push}
use Rattle.std.proofs.Common.{[], ◌≢◌, List, ◌∷◌, ℕ, Result, Ok, Err}
use Rattle.bt_disk.specs.Conduct.{Conduct}
use Rattle.bt_resume.specs.Law.{ReloadStands, AppendStands, FlushStands}
use Rattle.bt_machine.specs.LogCalls.{EventCalls}
use Rattle.bt_machine.specs.State.{EngineView}
use Rattle.bt_machine.specs.Survival.{RunKeepsImages, FlushKeepsBlocks}
use Rattle.bt_machine.specs.Reopening.{FlushKeepsHints}
use Rattle.bt_machine.specs.Unmarks.{RunKeepsMarks}
use Rattle.bt_machine.specs.View.{StepsTo, NoEventsRun, OneMoreEventRuns}
use Rattle.bt_machine.specs.declared.event.Event.TheVariants.{Flush, Restart}
use Rattle.bt_machine.specs.declared.event.Answer.TheVariants.{Flushed}
use Rattle.bt_machine.specs.declared.error.FlushError.{FlushError}
use Rattle.bt_machine.proofs.LogCalls.{calls_stand, logs_are}
use Rattle.bt_engine.specs.Standing.{KeepsBlocks, KeepsHints, RunsStand, StepsStand}

module _ {D : Type 0} (conduct : Conduct D) (dig : List ℕ → List ℕ)
    (keeps_marks : RunKeepsMarks conduct dig) (keeps_images : RunKeepsImages conduct dig)
    (reload : ReloadStands conduct) (append : AppendStands conduct) (flush : FlushStands conduct) where
  pub runs_stand : RunsStand conduct dig
  runs_stand old new events answers none sound runs = record {
    marks = λ b d there honest_now marked.
        keeps_marks old.state new.state events runs.calls answers old.disks new.disks b d none runs.run sound there honest_now marked;
    images = λ file i moment f k bytes d is marked size there honest_now before.
        keeps_images old.state new.state events runs.calls answers old.disks new.disks file i moment f k bytes d none runs.run sound is marked size there honest_now before;
    hints = λ was log moment text had has honest_now first.
        (let calls = flat_map (λ (c : EventCalls). c.log) runs.calls in
        calls_stand conduct reload append flush moment text was calls log honest_now
        (logs_are conduct old.log new.log calls had has runs.logged) first);
  }

  pub steps_stand : NoEventsRun conduct dig → OneMoreEventRuns conduct dig → StepsStand conduct dig
  steps_stand none_run one_more old new event answer other sound step =
      runs_stand old new (event ∷ []) (answer ∷ []) (All-push (λ e. e ≢ Restart) [] event (All-nil (λ e. e ≢ Restart)) other) sound
      (one_more old old new [] [] event answer (none_run old) step)

-- ---- a flush

module _ {D : Type 0} {conduct : Conduct D} {dig : List ℕ → List ℕ} {old new : EngineView D} where
  pub blocks_kept : FlushKeepsBlocks conduct dig → (result : Result (Unit {0}) FlushError)
      → StepsTo conduct dig old Flush (Flushed result) new → OnOk result (KeepsBlocks conduct new)
  blocks_kept law (Ok done) step = λ file i f k d is marked there honest_now.
      law old.state new.state step.calls old.disks new.disks file i f k d step.step step.made is marked there honest_now
  blocks_kept law (Err error) step = tt

  pub hints_kept : FlushKeepsHints conduct dig → (result : Result (Unit {0}) FlushError)
      → StepsTo conduct dig old Flush (Flushed result) new → OnOk result (KeepsHints conduct dig old new)
  hints_kept law (Ok done) step = λ backing log has honest_now. law old new log step backing has honest_now
  hints_kept law (Err error) step = tt
