-- Lists of events of an engine with its devices, put together.
use Rattle.bt_machine.proofs.Base.{[], ℕ, List, ◌∷◌, ◌++◌, Option, Some, None, refl, subst, append-nil}
use Rattle.bt_machine.proofs.Machine.{EngineState, EventCalls, LogCall, HaveLogCalls, RunOn, Event, Answer}
use Rattle.std.proofs.lemmas.List.Concat.{flat_map-append}
use Rattle.bt_resume.specs.ResumeLog.{LogView}
use Rattle.bt_machine.specs.LogCalls.{AreLogCalls}
use Rattle.bt_machine.specs.View.{NoEventsRun, OneMoreEventRuns, RunsCompose, RunsAreRuns}
use Rattle.bt_disk.specs.Conduct.{Conduct}

module _ {D : Type 0} (conduct : Conduct D) (dig : List ℕ → List ℕ) where
  run_then : (old mid new : EngineState) (disks between after : List (Option D)) (events more : List Event) (calls others : List EventCalls)
      (answers further : List Answer) → RunOn conduct dig old disks events calls answers mid between
      → RunOn conduct dig mid between more others further new after
      → RunOn conduct dig old disks (events ++ more) (calls ++ others) (answers ++ further) new after
  run_then old mid new disks between after [] more [] others [] further run then =
      subst (λ s. RunOn conduct dig s disks more others further new after) run.0
      (subst (λ d. RunOn conduct dig mid d more others further new after) run.1 then)
  run_then old mid new disks between after (e ∷ events) more (c ∷ calls) others (a ∷ answers) further run then =
      (run.0, run.1, run.2, run.3, run_then run.0 mid new run.1 between after events more calls others answers further run.4 then)
  run_then old mid new disks between after _ more _ others _ further run then = absurd run

  -- ---- calls of a log

  no_log_calls : (log : Option (LogView D)) → HaveLogCalls conduct log [] log
  no_log_calls None = refl
  no_log_calls (Some log) = refl

  more_log_calls : (old mid new : LogView D) (calls others : List LogCall) → AreLogCalls conduct old calls mid
      → AreLogCalls conduct mid others new → AreLogCalls conduct old (calls ++ others) new
  more_log_calls old mid new [] others made then = subst (λ l. AreLogCalls conduct l others new) made then
  more_log_calls old mid new (call ∷ calls) others made then = (made.0, made.1, more_log_calls made.0 mid new calls others made.2 then)

  log_calls_then : (old mid new : Option (LogView D)) (calls others : List LogCall) → HaveLogCalls conduct old calls mid
      → HaveLogCalls conduct mid others new → HaveLogCalls conduct old (calls ++ others) new
  log_calls_then None None None calls others made then = rw made then
  log_calls_then (Some old) (Some mid) (Some new) calls others made then = more_log_calls old mid new calls others made then
  log_calls_then None (Some mid) new calls others made then = absurd made
  log_calls_then (Some old) None new calls others made then = absurd made
  log_calls_then None None (Some new) calls others made then = absurd then
  log_calls_then (Some old) (Some mid) None calls others made then = absurd then

  -- ---- lists of events

  pub none_run : NoEventsRun conduct dig
  none_run engine = record { calls = []; run = (refl, refl); logged = no_log_calls engine.log }

  pub runs_compose : RunsCompose conduct dig
  runs_compose old mid new events more answers further first then = record {
    calls = first.calls ++ then.calls;
    run = run_then old.state mid.state new.state old.disks mid.disks new.disks events more first.calls then.calls answers further first.run then.run;
    logged = rw (flat_map-append (λ (c : EventCalls). c.log) first.calls then.calls) (log_calls_then old.log mid.log new.log _ _ first.logged then.logged);
  }

  pub one_more_runs : OneMoreEventRuns conduct dig
  one_more_runs old mid new events answers event answer first last =
      runs_compose old mid new events (event ∷ []) answers (answer ∷ []) first (record {
        calls = last.calls ∷ [];
        run = (new.state, new.disks, last.step, last.made, (refl, refl));
        logged = rw (append-nil last.calls.log) last.logged;
      })

  -- a run on devices is a run
  pub without_devices : RunsAreRuns conduct dig
  without_devices old new disks after [] [] [] run = run.0
  without_devices old new disks after (e ∷ es) (c ∷ calls) (a ∷ answers) run =
      (run.0, run.2, without_devices run.0 new run.1 after es calls answers run.4)
  without_devices old new disks after _ _ _ run = absurd run
