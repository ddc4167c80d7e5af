-- A restart is the machine's, with a log or without.
use Rattle.bt_machine.proofs.Base.{[], ◌≡◌, ℕ, is_some, List, ◌∷◌, Option, Some, None, Ok, Err, refl, sym, ap, ◌∙◌, subst}
use Rattle.bt_disk.specs.Conduct.{Conduct}
use Rattle.bt_resume.specs.ResumeLog.{LogView}
use Rattle.bt_resume.specs.declared.hint.Hint.{Hint}
use Rattle.bt_resume.specs.declared.error.LogError.{LogError}
use Rattle.bt_machine.specs.declared.error.RestartError.TheVariants.{Log, OutOfMemory}
use Rattle.bt_machine.specs.State.{EngineState}
use Rattle.bt_machine.specs.Devices.{HaveCalls}
use Rattle.bt_machine.specs.LogCalls.{LogCall, hints_read, reload_fault, IsLogCall, HaveLogCalls}
use Rattle.bt_machine.specs.Restart.{ReadsAgain, KeepsPlaces, read as read_log, none as none_read, restarts, unread as unread_log, no_memory as no_room}
use Rattle.bt_engine_state.specs.Parts.{state_of, disks_of, log_of, pending_of, hints_of}
use Rattle.bt_engine_state.specs.declared.open_log.OpenLog.{OpenLog}
use Rattle.bt_engine_state.specs.declared.parts.Parts.{Parts}
use Rattle.bt_engine_state.proofs.DeviceCalls.{have_none}
use Rattle.bt_engine_start.specs.AnewSteps.{GoesOn}
use Rattle.bt_engine_start.specs.RecoverySteps.{HaveBegun, RecoversFiles}
use Rattle.bt_engine_start.specs.Restarting.{RestartsWith}
use Rattle.bt_engine_start.specs.RestartingSteps.{IsReadAgain, reloads, no_log}
use Rattle.bt_engine_start.specs.StartingSteps.{log_in}
use Rattle.bt_engine_start.proofs.Recovers.{recovers_from}

-- the engine's state with another log
abbrev state_with : {D H : Type 0} → Parts D H → Option (OpenLog D) → EngineState
state_with old o = record (state_of old) { logged = is_some o; pending = pending_of o; hints = hints_of o }

-- what the machine says where the log was read again, if there is one
record WasRead {D H : Type 0} (conduct : Conduct D) (old : Parts D H) (log : Option (OpenLog D)) : Type 0 where
  calls : List LogCall
  made : HaveLogCalls conduct (log_of old) calls (log_in log)
  reads : ReadsAgain (state_of old) calls (hints_of log)
  logged : is_some log ≡ is_some old.log
  pending : pending_of log ≡ pending_of old.log

module _ {D H : Type 0} (conduct : Conduct D) (dig : List ℕ → List ℕ) (old : Parts D H) where
  one_call : {before after : LogView D} {new : Option (LogView D)} (call : LogCall) → log_of old ≡ Some before → new ≡ Some after
      → IsLogCall conduct before call after → HaveLogCalls conduct (log_of old) (call ∷ []) new
  one_call {before} {after} {new} call had has is =
      subst (λ (o : Option (LogView D)). HaveLogCalls conduct o (call ∷ []) new) (sym had)
      (subst (λ (o : Option (LogView D)). HaveLogCalls conduct (Some before) (call ∷ []) o) (sym has) (after, is, refl))

  no_call : {log : Option (OpenLog D)} → old.log ≡ None → log ≡ old.log → HaveLogCalls conduct (log_of old) [] (log_in log)
  no_call {log} none same =
      subst (λ (o : Option (LogView D)). HaveLogCalls conduct o [] (log_in log)) (sym (ap log_in none))
      (subst (λ (o : Option (LogView D)). HaveLogCalls conduct None [] o) (sym (ap log_in (same ∙ none))) refl)

  module _ {log : Option (OpenLog D)} where
    -- the log was not read
    pub steps_unread : {cause : LogError} → IsReadAgain conduct old.log (Err cause) log
        → RestartsWith conduct dig old (Err (Log cause)) (record old { log = log })
    steps_unread {cause} (reloads before after had reloaded has) =
        let same : state_with old log ≡ state_of old =
        ap (state_with old) has ∙ ap (λ (l : LogView D). state_with old (Some (record before { log = l }))) reloaded.1 ∙ ap (state_with old) (sym had) in
        record {
          calls = record { devices = []; log = reload_fault cause ∷ [] };
          devices = have_none conduct (disks_of old);
          log = one_call (reload_fault cause) (ap log_in had) (ap log_in has) reloaded;
          step = unread_log cause (ap (λ (o : Option (OpenLog D)). is_some o) had) refl refl same;
        }
    steps_unread (no_log none done same) = absurd cc

    was_read : IsReadAgain conduct old.log (Ok tt) log → WasRead conduct old log
    was_read (reloads before after had reloaded has) = record {
      calls = hints_read after.hints ∷ [];
      made = one_call (hints_read after.hints) (ap log_in had) (ap log_in has) (reloaded, refl);
      reads = read_log (ap (λ (o : Option (OpenLog D)). is_some o) had) (ap (λ (hints : List Hint). hints_read hints ∷ []) (sym (ap hints_of has)));
      logged = ap (λ (o : Option (OpenLog D)). is_some o) has ∙ sym (ap (λ (o : Option (OpenLog D)). is_some o) had);
      pending = ap pending_of has ∙ sym (ap pending_of had);
    }
    was_read (no_log none done same) = record {
      calls = [];
      made = no_call none same;
      reads = none_read (ap (λ (o : Option (OpenLog D)). is_some o) none) refl (ap hints_of (same ∙ none));
      logged = ap (λ (o : Option (OpenLog D)). is_some o) same;
      pending = ap pending_of same;
    }

    -- it was read, and then memory was refused
    pub steps_refused : IsReadAgain conduct old.log (Ok tt) log → RestartsWith conduct dig old (Err OutOfMemory) (record old { log = log })
    steps_refused r =
        let w = was_read r in
        let same : state_with old log ≡ record (state_of old) { hints = hints_of log } =
        ap (λ l. record (state_of old) { logged = l; pending = pending_of log; hints = hints_of log }) w.logged
        ∙ ap (λ hs. record (state_of old) { pending = hs; hints = hints_of log }) w.pending in
        record {
          calls = record { devices = []; log = w.calls };
          devices = have_none conduct (disks_of old);
          log = w.made;
          step = no_room (hints_of log) w.reads refl refl same;
        }

    -- it was read, and all was begun anew
    pub steps_begun : {begun new : Parts D H} → IsReadAgain conduct old.log (Ok tt) log → HaveBegun dig (hints_of log) begun → GoesOn (record old { log = log }) begun
        → KeepsPlaces (state_of (record old { log = log })) (state_of begun) → disks_of begun ≡ disks_of old → log_of begun ≡ log_in log → RecoversFiles conduct dig begun new
        → KeepsPlaces (state_of begun) (state_of new) → new.log ≡ begun.log → RestartsWith conduct dig old (Ok tt) new
    steps_begun {begun} {new} r b goes_on moved disks same recovers places same_log =
        let w = was_read r in
        let state : state_of begun
        ≡ record (state_of old) { trees = (state_of begun).trees; files = (state_of begun).files; peers = []; pending = []; hints = hints_of log } =
        goes_on
        ∙ ap (λ l. record (state_of old) { trees = (state_of begun).trees; files = (state_of begun).files; peers = []; logged = l; pending = []; hints = hints_of log }) w.logged in
        record {
          calls = record { devices = recovers.calls; log = w.calls };
          devices = subst (λ (ds : List (Option D)). HaveCalls conduct ds recovers.calls (disks_of new)) disks recovers.made;
          log = subst (λ (o : Option (LogView D)). HaveLogCalls conduct (log_of old) w.calls o) (sym (ap log_in same_log ∙ same)) w.made;
          step = restarts (hints_of log) w.reads (recovers_from (state_of old) b state recovers)
              (record { roots = places.roots ∙ moved.roots; lengths = places.lengths ∙ moved.lengths; trees = places.trees ∙ moved.trees }) refl;
        }
