-- What waits is written to a log, after the syncs of the data devices.
use Rattle.bt_machine.proofs.Base.{[], ◌≡◌, Bool, List, ◌∷◌, ◌++◌, is_some, Option, Some, None, option_map, Result, Ok, Err, refl, sym, ap, ◌∙◌, subst}
use Rattle.std.specs.Prelude.{IsErrAnd}
use Rattle.bt_resume.specs.ResumeLog.{LogView}
use Rattle.bt_resume.specs.declared.hint.Hint.{Hint}
use Rattle.bt_resume.specs.declared.error.AppendError.{AppendError}
use Rattle.bt_resume.specs.declared.error.AppendError.TheVariants.{Full, Device as AppendDevice}
use Rattle.bt_machine.specs.declared.error.FlushError.{FlushError}
use Rattle.bt_machine.specs.State.{EngineState}
use Rattle.bt_machine.specs.Devices.{DeviceCalls, HaveCalls}
use Rattle.bt_machine.specs.LogCalls.{LogCall, append_fault, log_flushed, flush_fault, EventCalls, on_devices, IsLogCall, AreLogCalls, HaveLogCalls}
use Rattle.bt_machine.specs.Flush.{data_files, syncs_of, appended, synced_then, StepFlush, syncs}
use Rattle.bt_engine_state.specs.Writing.{WritesHints, written, unwritten, unflushed, WritingFlushes}
use Rattle.bt_engine_state.specs.Parts.{state_of, disks_of, log_of, pending_of, hints_of}
use Rattle.bt_engine_state.specs.declared.open_log.OpenLog.{OpenLog}
use Rattle.bt_engine_state.specs.declared.parts.Parts.{Parts}
use Rattle.bt_engine_after.specs.DevicesSteps.{SyncsSlots, WritesLog, writes, no_log}
use Rattle.bt_engine_after.proofs.SlotTies.{state_kept}
use Rattle.bt_disk.specs.Conduct.{Conduct}

pub err_is : (r : Result (Unit {0}) FlushError) (cause : FlushError) → IsErrAnd r (λ e. e ≡ cause) → r ≡ Err cause
err_is (Ok _) cause h = absurd h
err_is (Err e) cause h = ap Err h

abbrev view_of : {D : Type 0} → Option (OpenLog D) → Option (LogView D)
view_of {D} log = option_map (λ (l : OpenLog D). l.log) log

-- what an engine with this log tells of it
abbrev with_log : {D : Type 0} → EngineState → Option (OpenLog D) → EngineState
with_log {D} s log = record s { logged = is_some log; pending = pending_of log; hints = hints_of log }

but_pending : (s : EngineState) {l : Bool} {p h : List Hint} (left : List Hint) → l ≡ s.logged → p ≡ left → h ≡ s.hints
    → record s { logged = l; pending = p; hints = h } ≡ record s { pending = left }
but_pending s {l} {p} {h} left logged pending hints =
    ap (λ (b : Bool). record s { logged = b; pending = p; hints = h }) logged
    ∙ ap (λ (x : List Hint). record s { pending = x; hints = h }) pending
    ∙ ap (λ (x : List Hint). record s { pending = left; hints = x }) hints

module _ {D : Type 0} (conduct : Conduct D) where
  -- ---- a log keeps the hints that were last read from it

  behind_appended : (hints : List Hint) (call : LogCall) (old new : LogView D)
      → ((mid next : LogView D) → IsLogCall conduct mid call next → next.hints ≡ mid.hints)
      → AreLogCalls conduct old (appended hints ++ call ∷ []) new → new.hints ≡ old.hints
  behind_appended [] call old new keeps made = ap (λ (l : LogView D). l.hints) made.2 ∙ keeps old made.0 made.1
  behind_appended (hint ∷ hints) call old new keeps made =
      behind_appended hints call made.0 new keeps made.2 ∙ ap (λ (l : LogView D). l.hints) made.1.1.2

  refused_keeps : (hint : Hint) (cause : AppendError) (old new : LogView D) → IsLogCall conduct old (append_fault hint cause) new
      → new.hints ≡ old.hints
  refused_keeps hint AppendDevice old new c = ap (λ (l : LogView D). l.hints) c.1.2
  refused_keeps hint Full old new c = ap (λ (l : LogView D). l.hints) c.1.1

  hints_stay : (pending left : List Hint) (calls : List LogCall) (r : Result (Unit {0}) FlushError) (old new : LogView D)
      → WritesHints pending calls r left → AreLogCalls conduct old calls new → new.hints ≡ old.hints
  hints_stay pending left calls r old new (written are ok none) made =
      behind_appended pending log_flushed old new (λ mid next c. ap (λ (l : LogView D). l.hints) c.1)
      (subst (λ xs. AreLogCalls conduct old xs new) are made)
  hints_stay pending left calls r old new (unwritten before hint after cause split are err same) made =
      behind_appended before (append_fault hint cause) old new (refused_keeps hint cause)
      (subst (λ xs. AreLogCalls conduct old xs new) are made)
  hints_stay pending left calls r old new (unflushed are err same) made =
      behind_appended pending flush_fault old new (λ mid next c. ap (λ (l : LogView D). l.hints) c.1.1)
      (subst (λ xs. AreLogCalls conduct old xs new) are made)

  -- ---- the calls of a log that an engine may have

  none_called : (log : Option (LogView D)) → HaveLogCalls conduct log [] log
  none_called None = refl
  none_called (Some log) = refl

  log_called : {old new : Option (OpenLog D)} {before after : OpenLog D} (calls : List LogCall) → old ≡ Some before → new ≡ Some after
      → AreLogCalls conduct before.log calls after.log → HaveLogCalls conduct (view_of old) calls (view_of new)
  log_called {old} {new} {before} {after} calls was is made =
      subst (λ (o : Option (OpenLog D)). HaveLogCalls conduct (view_of o) calls (view_of new)) (sym was)
      (subst (λ (o : Option (OpenLog D)). HaveLogCalls conduct (Some before.log) calls (view_of o)) (sym is) made)

  module _ {H : Type 0} (old new : Parts D H) where
    -- a sync failed
    pub stopped : (cause : FlushError) → SyncsSlots conduct old.slots.items (Err cause) new.slots.items
        → (r : Result (Unit {0}) FlushError) → r ≡ Err cause
        → (calls : EventCalls) × HaveCalls conduct (disks_of old) calls.devices (disks_of (record old { slots = new.slots }))
        × HaveLogCalls conduct (log_of old) calls.log (log_of (record old { slots = new.slots }))
        × StepFlush (state_of old) calls r (state_of (record old { slots = new.slots }))
    stopped cause synced r is = (
      on_devices synced.calls,
      synced.have,
      none_called (log_of old),
      subst (λ (r : Result (Unit {0}) FlushError). StepFlush (state_of old) (on_devices synced.calls) r (state_of (record old { slots = new.slots }))) (sym is)
          (subst (λ (s : EngineState). StepFlush (state_of old) (on_devices synced.calls) (Err cause) s) (sym (state_kept old new synced.others))
          (synced.synced (state_of old) refl)),
    )

    module _ (synced : SyncsSlots conduct old.slots.items (Ok tt) new.slots.items) (log : Option (OpenLog D)) where
      all_devices : HaveCalls conduct (disks_of old) (syncs_of (data_files (state_of old))) (disks_of (record old { slots = new.slots; log = log }))
      all_devices = subst (λ (calls : DeviceCalls). HaveCalls conduct (disks_of old) calls (disks_of new)) (synced.synced (state_of old) refl) synced.have

      after_syncs : state_of (record old { slots = new.slots; log = log }) ≡ with_log (state_of old) log
      after_syncs = ap (λ (s : EngineState). with_log s log) (state_kept old new synced.others)

    -- all were synced, and then what waits was written
    pub flushed : WritingFlushes → SyncsSlots conduct old.slots.items (Ok tt) new.slots.items
        → (r : Result (Unit {0}) FlushError) (log : Option (OpenLog D)) → WritesLog conduct old.log r log
        → (calls : EventCalls) × HaveCalls conduct (disks_of old) calls.devices (disks_of (record old { slots = new.slots; log = log }))
        × HaveLogCalls conduct (log_of old) calls.log (log_of (record old { slots = new.slots; log = log }))
        × StepFlush (state_of old) calls r (state_of (record old { slots = new.slots; log = log }))
    flushed law synced r log (writes before after calls was is made hints) =
        let s = state_of old in
        let left = after.pending.hints in
        let step : StepFlush s (synced_then s calls) r (record s { pending = left }) =
        law s calls r left (ap (λ (o : Option (OpenLog D)). is_some o) was)
        (subst (λ xs. WritesHints xs calls r left) (sym (ap (λ (o : Option (OpenLog D)). pending_of o) was)) hints) in
        let same : with_log s log ≡ record s { pending = left } =
        but_pending s left (ap (λ (o : Option (OpenLog D)). is_some o) is ∙ sym (ap (λ (o : Option (OpenLog D)). is_some o) was))
        (ap (λ (o : Option (OpenLog D)). pending_of o) is)
        (ap (λ (o : Option (OpenLog D)). hints_of o) is ∙ hints_stay before.pending.hints left calls r before.log after.log hints made
        ∙ sym (ap (λ (o : Option (OpenLog D)). hints_of o) was)) in (
          synced_then s calls,
          all_devices synced log,
          log_called calls was is made,
          subst (λ (t : EngineState). StepFlush s (synced_then s calls) r t) (sym (after_syncs synced log ∙ same)) step,
        )
    flushed law synced r log (no_log none ok same) =
        let s = state_of old in (
          synced_then s [],
          all_devices synced log,
          subst (λ (o : Option (OpenLog D)). HaveLogCalls conduct (log_of old) [] (view_of o)) (sym same) (none_called (log_of old)),
          syncs (ap (λ (o : Option (OpenLog D)). is_some o) none) refl ok
              (after_syncs synced log ∙ ap (λ (o : Option (OpenLog D)). with_log s o) same),
        )
