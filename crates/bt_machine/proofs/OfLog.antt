-- An engine and its log go together.
use Rattle.bt_machine.proofs.Base.{[], ◌≡◌, ◌≢◌, inl, inr, true, false, List, ◌∷◌, ◌++◌, flat_map, Option, Some, None, Result, refl, sym, ap, ◌∙◌, subst, ⊤}
use Rattle.bt_resume.specs.ResumeLog.{LogView}
use Rattle.bt_resume.specs.declared.hint.Hint.{Hint}
use Rattle.bt_resume.specs.declared.error.AppendError.TheVariants.{Full, Device as AppendDevice}
use Rattle.bt_machine.specs.declared.error.FlushError.{FlushError}
use Rattle.bt_machine.specs.declared.error.RestartError.{RestartError}
use Rattle.bt_machine.specs.LogCalls.{LogCall, hints_read, reload_fault, hint_appended, append_fault, log_flushed, flush_fault, IsLogCall, AreLogCalls}
use Rattle.bt_machine.specs.Flush.{appended}
use Rattle.bt_machine.specs.Restart.{read as read_again, none as no_log, StepRestart, restarts, unread, no_memory as not_restarted}
use Rattle.bt_machine.specs.View.{HasLog, IsOfLog, StartsOfLog, StepKeepsOfLog, RunKeepsOfLog}
use Rattle.bt_machine.proofs.Machine.{Digest, Event, Connect, Feed, Next, Lost, Rechoke, Adopt, Flush, Restart, Answer, EngineState, EventCalls, HaveLogCalls, StepFlush, syncs, writes, fails, unwritten, unflushed, Step, RunOn, Recovers, bare_on, with_log_on}
use Rattle.bt_machine.proofs.Restarts.{restart_or, recovered}
use Rattle.bt_machine.proofs.Shape.{step_keeps}
use Rattle.bt_machine.proofs.Backing.{log_split}
use Rattle.bt_machine.proofs.LogCalls.{infohash_stays}
use Rattle.bt_disk.specs.Conduct.{Conduct}

-- ---- calls that read nothing

abbrev IsQuiet : LogCall → Type 0
IsQuiet (hints_read hints) = ⊥
IsQuiet _ = ⊤

abbrev AreQuiet : List LogCall → Type 0
AreQuiet [] = ⊤
AreQuiet (call ∷ calls) = IsQuiet call × AreQuiet calls

appended_quiet : (hints : List Hint) (more : List LogCall) → AreQuiet more → AreQuiet (appended hints ++ more)
appended_quiet [] more q = q
appended_quiet (hint ∷ hints) more q = (tt, appended_quiet hints more q)

log_of_calls : {calls : EventCalls} {all : EventCalls} → calls ≡ all → AreQuiet all.log → AreQuiet calls.log
log_of_calls e q = rw e q

flush_quiet : {s new : EngineState} {calls : EventCalls} {r : Result (Unit {0}) FlushError} → StepFlush s calls r new → AreQuiet calls.log
flush_quiet (syncs none made ok same) = log_of_calls made tt
flush_quiet {s} (writes is made ok after) = log_of_calls made (appended_quiet s.pending (log_flushed ∷ []) (tt, tt))
flush_quiet (fails before file after files made refused same) = log_of_calls made tt
flush_quiet (unwritten before hint after cause is pending made refused same) = log_of_calls made (appended_quiet before (append_fault hint cause ∷ []) (tt, tt))
flush_quiet {s} (unflushed is made refused same) = log_of_calls made (appended_quiet s.pending (flush_fault ∷ []) (tt, tt))

none_quiet : {calls : List LogCall} → calls ≡ [] → AreQuiet calls
none_quiet e = rw e tt

step_quiet : (dig : Digest) (s new : EngineState) (event : Event) (calls : EventCalls) (answer : Answer) → event ≢ Restart
    → Step dig s event calls answer new → AreQuiet calls.log
step_quiet dig s new Connect calls answer apart t = none_quiet (ap (λ (z : EventCalls). z.log) t.2)
step_quiet dig s new (Feed key bytes) calls answer apart t = none_quiet (ap (λ (z : EventCalls). z.log) t.2)
step_quiet dig s new (Next key) calls answer apart t = none_quiet t.2
step_quiet dig s new (Lost key) calls answer apart t = none_quiet (ap (λ (z : EventCalls). z.log) t.2)
step_quiet dig s new Rechoke calls answer apart t = none_quiet (ap (λ (z : EventCalls). z.log) t.2)
step_quiet dig s new (Adopt file) calls answer apart t = none_quiet t.2
step_quiet dig s new Flush calls answer apart t = flush_quiet t.2
step_quiet dig s new Restart calls answer apart t = absurd (apart refl)

module _ {D : Type 0} (conduct : Conduct D) where
  hints_same : (old : LogView D) (call : LogCall) (new : LogView D) → IsQuiet call → IsLogCall conduct old call new
      → new.hints ≡ old.hints
  hints_same old (hints_read hints) new q c = absurd q
  hints_same old (reload_fault cause) new q c = ap (λ (l : LogView D). l.hints) c.1
  hints_same old (hint_appended hint) new q c = ap (λ (l : LogView D). l.hints) c.1.2
  hints_same old (append_fault hint AppendDevice) new q c = ap (λ (l : LogView D). l.hints) c.1.2
  hints_same old (append_fault hint Full) new q c = ap (λ (l : LogView D). l.hints) c.1.1
  hints_same old log_flushed new q c = ap (λ (l : LogView D). l.hints) c.1
  hints_same old flush_fault new q c = ap (λ (l : LogView D). l.hints) c.1.1

  hints_stay : (old : LogView D) (calls : List LogCall) (new : LogView D) → AreQuiet calls → AreLogCalls conduct old calls new
      → new.hints ≡ old.hints
  hints_stay old [] new q c = ap (λ (l : LogView D). l.hints) c
  hints_stay old (call ∷ calls) new q c = hints_stay c.0 calls new q.1 c.2 ∙ hints_same old call c.0 q.0 c.1

  -- where nothing is read, an engine that keeps its torrent and hints keeps its log
  quiet_goes : (s new : EngineState) (o n : Option (LogView D)) (calls : List LogCall) → new.torrent ≡ s.torrent → new.logged ≡ s.logged
      → new.hints ≡ s.hints → AreQuiet calls → HaveLogCalls conduct o calls n → IsOfLog s o → IsOfLog new n
  quiet_goes s new None None calls torrent logged hints q c is = logged ∙ is
  quiet_goes s new (Some old) (Some log) calls torrent logged hints q c is = record {
    logged = logged ∙ is.logged;
    hints = hints ∙ is.hints ∙ sym (hints_stay old calls log q c);
    same_torrent = infohash_stays conduct old calls log c ∙ is.same_torrent ∙ ap (λ z. z.infohash) (sym torrent);
  }
  quiet_goes s new None (Some log) calls torrent logged hints q c is = absurd c
  quiet_goes s new (Some old) None calls torrent logged hints q c is = absurd c

  -- where hints are read, they are the engine's
  read_goes : (s new : EngineState) (o n : Option (LogView D)) (hints : List Hint) → new.torrent ≡ s.torrent → new.logged ≡ s.logged
      → new.hints ≡ hints → s.logged ≡ true → HaveLogCalls conduct o (hints_read hints ∷ []) n → IsOfLog s o → IsOfLog new n
  read_goes s new None None hints torrent logged hints_are was c is = logged ∙ is
  read_goes s new (Some old) (Some log) hints torrent logged hints_are was c is = record {
    logged = logged ∙ was;
    hints = hints_are ∙ sym c.1.1 ∙ ap (λ (l : LogView D). l.hints) (sym c.2);
    same_torrent = infohash_stays conduct old (hints_read hints ∷ []) log c ∙ is.same_torrent ∙ ap (λ z. z.infohash) (sym torrent);
  }
  read_goes s new None (Some log) hints torrent logged hints_are was c is = absurd c
  read_goes s new (Some old) None hints torrent logged hints_are was c is = absurd c

  -- where there is no log, there is none
  none_goes : (s new : EngineState) (o n : Option (LogView D)) → new.logged ≡ s.logged → s.logged ≡ false
      → HaveLogCalls conduct o [] n → IsOfLog s o → IsOfLog new n
  none_goes s new None None logged was c is = logged ∙ was
  none_goes s new (Some old) n logged was c is = absurd (let e = is.logged in cc)
  none_goes s new None (Some log) logged was c is = absurd c

  module _ (dig : Digest) where
    anew_goes : {s new : EngineState} {hints : List Hint} {calls : _} → Recovers dig s hints calls new
        → (new.torrent ≡ s.torrent) × (new.logged ≡ s.logged) × (new.hints ≡ hints)
    anew_goes r = let e = (recovered dig r).is in (ap (λ z. z.torrent) e, ap (λ z. z.logged) e, ap (λ z. z.hints) e)

    restart_goes : {s new : EngineState} {calls : EventCalls} {r : Result (Unit {0}) RestartError} (o n : Option (LogView D)) → StepRestart dig s calls r new
        → HaveLogCalls conduct o calls.log n → IsOfLog s o → IsOfLog new n
    restart_goes {s} {new} o n (restarts hints (read_again was made) recovers places ok) c is =
        let e = anew_goes recovers in
        read_goes s new o n hints e.0 e.1 e.2 was (subst (λ l. HaveLogCalls conduct o l n) made c) is
    restart_goes {s} {new} o n (restarts hints (no_log was made none) recovers places ok) c is =
        none_goes s new o n (anew_goes recovers).1 was (subst (λ l. HaveLogCalls conduct o l n) made c) is
    restart_goes {s} {new} o n (unread cause was made refused same) c is =
        quiet_goes s new o n _ (ap (λ z. z.torrent) same) (ap (λ z. z.logged) same) (ap (λ z. z.hints) same) (log_of_calls made (tt, tt)) c is
    restart_goes {s} {new} o n (not_restarted hints (read_again was made) none refused same) c is =
        read_goes s new o n hints (ap (λ z. z.torrent) same) (ap (λ z. z.logged) same) (ap (λ z. z.hints) same) was
        (subst (λ l. HaveLogCalls conduct o l n) made c) is
    restart_goes {s} {new} o n (not_restarted hints (no_log was made nothing) none refused same) c is =
        none_goes s new o n (ap (λ z. z.logged) same) was (subst (λ l. HaveLogCalls conduct o l n) made c) is

    event_goes : (s new : EngineState) (event : Event) (calls : EventCalls) (answer : Answer) (o n : Option (LogView D)) → Step dig s event calls answer new
        → HaveLogCalls conduct o calls.log n → IsOfLog s o → IsOfLog new n
    event_goes s new event calls answer o n t c is = elim (restart_or event) [
      | inl restart ↦ (let r = subst (λ x. Step dig s x calls answer new) restart t in restart_goes o n r.2 c is)
      | inr apart ↦ (
          let k = step_keeps dig event calls answer apart t in
          quiet_goes s new o n calls.log k.torrent k.logged k.hints (step_quiet dig s new event calls answer apart t) c is
          )
    ]

    pub step_of_log : StepKeepsOfLog conduct dig
    step_of_log old new event answer step is = event_goes old.state new.state event step.calls answer old.log new.log step.step step.logged is

    run_goes : (s new : EngineState) (disks after : List (Option D)) (events : List Event) (calls : List EventCalls) (answers : List Answer)
        (o n : Option (LogView D)) → RunOn conduct dig s disks events calls answers new after
        → HaveLogCalls conduct o (flat_map (λ c. c.log) calls) n → IsOfLog s o → IsOfLog new n
    run_goes s new disks after [] [] [] o n run c is =
        quiet_goes s new o n [] (ap (λ z. z.torrent) run.0) (ap (λ z. z.logged) run.0) (ap (λ z. z.hints) run.0) tt c is
    run_goes s new disks after (e ∷ es) (c ∷ cs) (a ∷ rest) o n run logs is =
        let split = log_split conduct o n c.log (flat_map (λ z. z.log) cs) logs in
        run_goes run.0 new run.1 after es cs rest split.0 n run.4 split.2 (event_goes s run.0 e c a o split.0 run.2 split.1 is)
    run_goes s new disks after _ _ _ o n run c is = absurd run

    pub run_of_log : RunKeepsOfLog conduct dig
    run_of_log old new events answers run is = run_goes old.state new.state old.disks new.disks events run.calls answers old.log new.log run.run run.logged is

    starts_log : (first : EngineState) (o : Option (LogView D)) (l : LogView D) → o ≡ Some l → HasLog first l → IsOfLog first o
    starts_log first o l e has = subst (IsOfLog first) (sym e) has

    no_log_starts : (first : EngineState) (o : Option (LogView D)) → o ≡ None → first.logged ≡ false → IsOfLog first o
    no_log_starts first o e is = subst (IsOfLog first) (sym e) is

    pub start_of_log : StartsOfLog conduct dig
    start_of_log torrent given log first (bare_on none starts disks gone) = no_log_starts first.state first.log gone (ap (λ z. z.logged) starts.is)
    start_of_log torrent given log first (with_log_on l calls is same starts have log_is) =
        let e = anew_goes starts in
        starts_log first.state first.log l (log_is ∙ is) (record { logged = e.1; hints = e.2; same_torrent = same ∙ ap (λ z. z.infohash) (sym e.0) })
