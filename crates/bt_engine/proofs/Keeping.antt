-- What holds of the parts of an engine holds after an event.
use Rattle.std.proofs.Common.{[], ◌≡◌, List, ℕ, Option, Some, None, refl, subst, sym}
use Rattle.bt_disk.specs.Conduct.{Conduct}
use Rattle.bt_meta.specs.Torrent.{Metainfo, IsLawful}
use Rattle.bt_machine.specs.declared.event.Event.{Event}
use Rattle.bt_machine.specs.declared.event.Answer.{Answer}
use Rattle.bt_machine.specs.Devices.{DeviceCalls, HaveCalls}
use Rattle.bt_resume.specs.ResumeLog.{LogView}
use Rattle.bt_machine.specs.LogCalls.{LogCall, HaveLogCalls, no_calls, on_devices}
use Rattle.bt_machine.specs.Frames.{StepKeepsSparse}
use Rattle.bt_machine.specs.Law.{StepKeepsRooted}
use Rattle.bt_machine.specs.Orderly.{StepKeepsOrder}
use Rattle.bt_machine.specs.Shape.{IsShaped, StepKeepsShape}
use Rattle.bt_machine.specs.Sound.{StepKeepsSound}
use Rattle.bt_machine.specs.Step.{Step}
use Rattle.bt_machine.specs.View.{StepsTo}
use Rattle.bt_engine_state.specs.Parts.{state_of, disks_of, log_of}
use Rattle.bt_engine_state.specs.Ties.{IsTied}
use Rattle.bt_engine_state.specs.declared.parts.Parts.{Parts}
use Rattle.bt_engine_state.proofs.DeviceCalls.{have_none}
use Rattle.bt_engine.specs.Kept.{view_of, IsKept}

module _ {D H : Type 0} (conduct : Conduct D) (dig : List ℕ → List ℕ)
    (old new : Parts D H) (event : Event) (answer : Answer) where
  abbrev logs_by : Option (LogView D) → List LogCall → Option (LogView D) → Type 0
  logs_by before calls after = HaveLogCalls conduct before calls after

  -- the log was not called
  not_called : (log : Option (LogView D)) → logs_by log [] log
  not_called None = refl
  not_called (Some log) = refl

  log_same : log_of new ≡ log_of old → logs_by (log_of old) [] (log_of new)
  log_same same = subst (λ (log : Option (LogView D)). logs_by (log_of old) [] log) (sym same) (not_called (log_of old))

  -- an event that calls no device
  pub steps_without : Step dig (state_of old) event no_calls answer (state_of new) → disks_of new ≡ disks_of old → log_of new ≡ log_of old
      → StepsTo conduct dig (view_of old) event answer (view_of new)
  steps_without step devices log = record {
    calls = no_calls;
    step = step;
    made = subst (λ (ds : List (Option D)). HaveCalls conduct (disks_of old) [] ds) (sym devices) (have_none conduct (disks_of old));
    logged = log_same log;
  }

  -- an event that calls devices alone
  pub steps_with : (calls : DeviceCalls) → Step dig (state_of old) event (on_devices calls) answer (state_of new)
      → HaveCalls conduct (disks_of old) calls (disks_of new) → log_of new ≡ log_of old
      → StepsTo conduct dig (view_of old) event answer (view_of new)
  steps_with calls step made log = record { calls = on_devices calls; step = step; made = made; logged = log_same log }

  pub kept_after : StepKeepsShape dig → StepKeepsOrder dig → StepKeepsSparse dig → StepKeepsRooted dig → StepKeepsSound conduct dig
      → IsKept conduct dig old → StepsTo conduct dig (view_of old) event answer (view_of new)
      → new.torrent ≡ old.torrent → IsTied new → IsKept conduct dig new
  kept_after shape order sparse rooted sound kept s same tied = record {
    digest = kept.digest;
    lawful = subst (λ (t : Metainfo). IsLawful t.piece_length t.files) (sym same) kept.lawful;
    tied = tied;
    shaped = subst (λ (t : Metainfo). IsShaped t (state_of new)) (sym same) (shape old.torrent (state_of old) (state_of new) event s.calls answer kept.shaped s.step);
    orderly = order (state_of old) (state_of new) event s.calls answer s.step kept.orderly;
    sparse = sparse (state_of old) (state_of new) event s.calls answer kept.lawful s.step kept.sparse;
    rooted = rooted (state_of old) (state_of new) event s.calls answer kept.lawful s.step kept.rooted;
    sound = sound (state_of old) (state_of new) event s.calls answer (disks_of old) (disks_of new) s.step s.made kept.sound;
  }
