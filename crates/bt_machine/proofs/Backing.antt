-- The log backs the engine, from its start over all events.
use Rattle.bt_machine.proofs.Base.{[], ◌≡◌, ◌≢◌, ℕ, ◌⊎◌, inl, inr, Bool, true, false, List, ◌∷◌, ◌++◌, flat_map, length, take, Option, Some, None, Result, Ok, Err, refl, sym, ap, ◌∙◌, subst, append-nil, IsDigest, KeepsRooted, Metainfo, IsLawful, Facts}
use Rattle.bt_resume.specs.LogText.{LogText, hints_in, with_hints, header, header_format}
use Rattle.bt_tree.specs.Limits.{digest_length}
use Rattle.bt_resume.specs.Limits.{header_length}
use Rattle.bt_resume.specs.declared.hint.Format.{Format}
use Rattle.bt_resume.specs.declared.hint.Format.TheVariants.{One, Two}
use Rattle.bt_resume.specs.ResumeLog.{LogView, IsAttached, Reads, read as read_text, Opens, opened, unmeasured, made as made_anew, unwritten as no_write, unsynced}
use Rattle.bt_resume.specs.Law.{Holds, AttachHolds, ReloadHolds, AppendHolds, FlushHolds}
use Rattle.bt_resume.specs.declared.hint.Hint.{Hint}
use Rattle.bt_machine.specs.declared.event.Event.TheVariants.{Restart}
use Rattle.bt_machine.specs.declared.event.Answer.TheVariants.{Restarted}
use Rattle.bt_machine.specs.declared.error.FlushError.{FlushError}
use Rattle.bt_machine.specs.declared.error.RestartError.{RestartError}
use Rattle.bt_machine.specs.declared.error.RestartError.TheVariants.{OutOfMemory}
use Rattle.bt_machine.specs.State.{EngineView}
use Rattle.bt_machine.specs.Devices.{HaveCalls}
use Rattle.bt_machine.specs.LogCalls.{LogCall, append_fault, flush_fault, EventCalls, AreLogCalls, HaveLogCalls}
use Rattle.bt_machine.specs.Flush.{StepFlush, syncs, writes, fails, unwritten, unflushed}
use Rattle.bt_machine.specs.Restart.{read as read_again, none as no_log, StepRestart, restarts, unread, no_memory as not_restarted}
use Rattle.bt_machine.specs.Recovery.{Recovers}
use Rattle.bt_machine.specs.Opening.{unopened, Begins, bare, with_log, BeginsOn, bare as bare_on, with_log as with_log_on}
use Rattle.bt_machine.specs.Frames.{AreSparseTrees, StartsSparse, StepKeepsSparse}
use Rattle.bt_machine.specs.Shape.{IsShaped, StartsInShape, StepKeepsShape}
use Rattle.bt_machine.specs.View.{StepsTo}
use Rattle.bt_machine.specs.Backing.{IsBacked, IsBackedBy, HasBacking, GroupProofsFollow, OtherRootsStay, StartIsBacked, StepKeepsBacking, is_backed_after, GoesByLog, RestartIsBacked, BackingGoesOn, none_called, RunsAreBacked}
use Rattle.bt_machine.proofs.Machine.{Digest, EngineState, DeviceCalls, Step, RunOn, Event, Answer, Next, Connect, Rechoke, Feed, Adopt, Lost, Flush}
use Rattle.bt_machine.proofs.Pairs.{to_pairs}
use Rattle.bt_machine.proofs.Shape.{step_logged}
use Rattle.bt_machine.proofs.Recovered.{recovered_backed, recovered_state}
use Rattle.bt_machine.proofs.LogCalls.{infohash_stays, by_reads, calls_back, logs_are, old_log, appends_hold, flush_kept}
use Rattle.bt_machine.proofs.Followed.{HaveOwnRoots, KeepsBacked, kept_same, same_as_before, next_backs, connect_backs, feed_backs, lost_backs, rechoke_backs, adopt_backs}
use Rattle.bt_disk.specs.Conduct.{Conduct}

-- ---- answers

-- a restart was accepted, it ran out of memory, or it is another answer
answer_cases : (backed : Bool) (answer : Answer) (rest : List Answer) → is_backed_after backed (answer ∷ rest) ≡ true
    → ((answer ≡ Restarted (Ok tt)) × (is_backed_after true rest ≡ true))
    ⊎ (((answer ≢ Restarted (Err OutOfMemory)) × (is_backed_after backed rest ≡ true)) ⊎ (is_backed_after false rest ≡ true))
answer_cases backed (Restarted (Ok value)) rest e = inl (refl, e)
answer_cases backed (Restarted (Err OutOfMemory)) rest e = inr (inr e)
answer_cases backed _ rest e = inr (inl ((λ same. absurd cc), e))

-- only a restart is answered so
restarted_by : (dig : Digest) (s new : EngineState) (e : Event) (calls : EventCalls) → Step dig s e calls (Restarted (Ok tt)) new → e ≡ Restart
restarted_by dig s new Restart calls t = refl
restarted_by dig s new Connect calls t = let is = t.1 in absurd cc
restarted_by dig s new (Feed key bytes) calls t = let is = t.1 in absurd cc
restarted_by dig s new (Next key) calls t = let is = t.1 in absurd cc
restarted_by dig s new (Lost key) calls t = let is = t.1 in absurd cc
restarted_by dig s new Rechoke calls t = let is = t.1 in absurd cc
restarted_by dig s new (Adopt file) calls t = let is = t.1 in absurd cc
restarted_by dig s new Flush calls t = let is = t.1 in absurd cc

-- a header has a byte
no_header : (format : Format) (infohash : List ℕ) → [] ≡ header format infohash → ⊥
no_header One infohash e = absurd cc
no_header Two infohash e = absurd cc

same_log : {D : Type 0} {a b : LogView D} → Some a ≡ Some b → a ≡ b
same_log e = cc

-- ---- openings

module _ {D : Type 0} (conduct : Conduct D) where
  pub opens_back : {infohash : List ℕ} {old new : D} {result : _} → Opens conduct infohash old result new → conduct.honest new → conduct.honest old
  opens_back (opened result new some reads) h = by_reads conduct reads h
  opens_back (unmeasured new c) h = c.as_honest.1 h
  opens_back (made_anew new none c) h = c.as_honest.1 h
  opens_back (no_write new none c) h = c.as_honest.1 h
  opens_back (unsynced new none c) h = c.as_honest.1 h

  -- ---- lists of calls

  pub calls_split : (old : LogView D) (first more : List LogCall) (new : LogView D) → AreLogCalls conduct old (first ++ more) new
      → (mid : LogView D) × AreLogCalls conduct old first mid × AreLogCalls conduct mid more new
  calls_split old [] more new c = (old, refl, c)
  calls_split old (call ∷ first) more new c =
      let rest = calls_split c.0 first more new c.2 in
      (rest.0, (c.0, c.1, rest.1), rest.2)

  none_first : (first more : List LogCall) → first ++ more ≡ [] → (first ≡ []) × (more ≡ [])
  none_first [] more e = (refl, e)
  none_first (call ∷ first) more e = absurd cc

  pub log_split : (o n : Option (LogView D)) (first more : List LogCall) → HaveLogCalls conduct o (first ++ more) n
      → (m : Option (LogView D)) × HaveLogCalls conduct o first m × HaveLogCalls conduct m more n
  log_split (Some old) (Some new) first more c =
      let split = calls_split old first more new c in
      (Some split.0, split.1, split.2)
  log_split None None first more c =
      let none = none_first first more c in
      (None, none.0, none.1)
  log_split (Some old) None first more c = absurd c
  log_split None (Some new) first more c = absurd c

  module _ (dig : Digest) where
    pub begins_of : {torrent : Metainfo} {placed : List (Option D)} {log : Option (LogView D)} {first : EngineView D}
        → BeginsOn conduct dig torrent placed log first → Begins dig torrent first.state
    begins_of (bare_on none starts disks gone) = bare starts
    begins_of (with_log_on l calls is same starts have log_is) = with_log l.hints calls starts

    pub log_of : {torrent : Metainfo} {placed : List (Option D)} {log : LogView D} {first : EngineView D}
        → BeginsOn conduct dig torrent placed (Some log) first → first.log ≡ Some log
    log_of (bare_on none starts disks gone) = absurd cc
    log_of (with_log_on l calls is same starts have log_is) = log_is

    pub record Opened (torrent : Metainfo) (placed : List (Option D)) (log : LogView D) (new : EngineView D) : Type 0 where
      pub calls : DeviceCalls
      pub recovers : Recovers dig (unopened torrent) log.hints calls new.state
      pub have : HaveCalls conduct placed calls new.disks

    pub opened_by : {torrent : Metainfo} {placed : List (Option D)} {log : LogView D} {new : EngineView D}
        → BeginsOn conduct dig torrent placed (Some log) new → Opened torrent placed log new
    opened_by (bare_on none starts disks gone) = absurd cc
    opened_by {torrent} {log = log} {new = new} (with_log_on l calls is same starts have log_is) = record {
      calls = calls;
      recovers = subst (λ (x : LogView D). Recovers dig (unopened torrent) x.hints calls new.state) (inner is) starts;
      have = have;
    }
      where
        inner : {a b : LogView D} → Some a ≡ Some b → b ≡ a
        inner e = cc

    -- what is backed by what a log holds, with nothing pending
    nothing_pending : {new : EngineState} {hints : List Hint} (text : LogText) → IsBacked dig new hints → hints ≡ hints_in text → new.pending ≡ []
        → IsBacked dig new (hints_in text ++ new.pending)
    nothing_pending {new} text backed is none =
        subst (IsBacked dig new) (is ∙ sym (append-nil (hints_in text)) ∙ ap (λ hs. hints_in text ++ hs) (sym none)) backed

    pub start_backed : AttachHolds conduct → StartIsBacked conduct dig
    start_backed attach torrent given disk log new size attached begins now is h =
        let o = opened_by begins in
        let same : log ≡ now = same_log (sym (log_of begins) ∙ is) in
        let was_honest = opens_back attached.opens (subst (λ (l : LogView D). conduct.honest l.disk) (sym same) h) in
        let held = attach torrent.infohash disk log size was_honest attached in
        let state = recovered_state dig o.recovers in
        let backed = recovered_backed dig (unopened torrent) new.state log.hints o.calls o.recovers in (
          state.0,
          subst (λ l. IsBackedBy conduct dig new.state l) same (record {
            text = held.0;
            holds = held.2;
            backed = nothing_pending held.0 backed held.1 state.1;
          }),
        )

    -- ---- one event

    -- What becomes of a text that a log holds, and of an engine that it backs.
    record Goes (s : EngineState) (text : LogText) (answer : Answer) (new : EngineState) (log : LogView D) : Type 0 where
      logged : new.logged ≡ true
      now : LogText
      holds : Holds conduct log now now
      backed : answer ≢ Restarted (Err OutOfMemory) → IsBacked dig s (hints_in text ++ s.pending) → IsBacked dig new (hints_in now ++ new.pending)

    module _ (reload : ReloadHolds conduct) (append : AppendHolds conduct) (flush : FlushHolds conduct) where
      -- the log is not called, or holds what it held
      holds_same : {s new : EngineState} {was log : LogView D} {answer : Answer} (text : LogText) → Holds conduct was text text → log ≡ was
          → KeepsBacked dig s new → s.logged ≡ true → Goes s text answer new log
      holds_same text holds same kept is = record {
        logged = kept.logged ∙ is;
        now = text;
        holds = subst (λ l. Holds conduct l text text) (sym same) holds;
        backed = λ x old. kept.backed is (hints_in text) old;
      }

      quiet : {s new : EngineState} {was log : LogView D} {calls : List LogCall} {answer : Answer} (text : LogText) → Holds conduct was text text
          → calls ≡ [] → AreLogCalls conduct was calls log → KeepsBacked dig s new → s.logged ≡ true → Goes s text answer new log
      quiet {was = was} {log = log} text holds none made kept is =
          holds_same text holds (subst (λ cs. AreLogCalls conduct was cs log) none made) kept is

      flush_goes : {s new : EngineState} {was log : LogView D} {calls : EventCalls} {r : Result (Unit {0}) FlushError} {answer : Answer} (text : LogText)
          → StepFlush s calls r new → AreLogCalls conduct was calls.log log → conduct.honest log.disk → s.logged ≡ true
          → Holds conduct was text text → Goes s text answer new log
      flush_goes text (syncs none made ok same) c h is holds = absurd cc
      flush_goes {was = was} {log = log} text (writes x made ok after) c h is holds =
          let k = flush_kept conduct dig append flush was log text text (record { made = made; after = after }) c h holds in
          record {
            logged = ap (λ z. z.logged) after ∙ is;
            now = k.now;
            holds = k.holds;
            backed = λ x old. nothing_pending k.now (k.backed old) refl (ap (λ z. z.pending) after);
          }
      flush_goes text (fails before file after files made refused same) c h is holds =
          quiet text holds (ap (λ (z : EventCalls). z.log) made) c (kept_same dig (same_as_before same)) is
      flush_goes {s} {was = was} {log = log} text (unwritten before hint after cause x pending made refused same) c h is holds =
          let all = subst (λ (z : EventCalls). AreLogCalls conduct was z.log log) made c in
          let a = appends_hold conduct append before was log (append_fault hint cause ∷ []) text text h all holds in
          let last = a.1.rest in
          let failed = append hint a.0 last.0 (Err cause) text (with_hints text before) a.1.was_honest last.1.0 last.1.1 a.1.holds in
          holds_same text failed last.2 (kept_same dig (same_as_before same)) is
      flush_goes {s} {was = was} {log = log} text (unflushed x made refused same) c h is holds =
          let all = subst (λ (z : EventCalls). AreLogCalls conduct was z.log log) made c in
          let a = appends_hold conduct append s.pending was log (flush_fault ∷ []) text text h all holds in
          let last = a.1.rest in
          let failed = flush a.0 last.0 (Err last.1.0) text (with_hints text s.pending) a.1.was_honest last.1.1 a.1.holds in
          holds_same text failed last.2 (kept_same dig (same_as_before same)) is

      restart_goes : {s new : EngineState} {was log : LogView D} {calls : EventCalls} {r : Result (Unit {0}) RestartError} (text : LogText)
          → StepRestart dig s calls r new → AreLogCalls conduct was calls.log log → conduct.honest log.disk → s.logged ≡ true
          → Holds conduct was text text → Goes s text (Restarted r) new log
      restart_goes text (restarts hints (no_log none log_is no_hint) recovers places ok) c h is holds = absurd cc
      restart_goes {s} {new} {was} {log} {calls} text (restarts hints (read_again x log_is) recovers places ok) c h is holds =
          let one = subst (λ cs. AreLogCalls conduct was cs log) log_is c in
          let was_honest = calls_back conduct was calls.log log c h in
          let again = reload was one.0 (Ok tt) text text was_honest one.1.0 holds in
          let state = recovered_state dig recovers in
          let backed = nothing_pending again.0 (recovered_backed dig s new hints calls.devices recovers) (sym one.1.1 ∙ again.1) state.1 in
          record {
            logged = state.0 ∙ is;
            now = again.0;
            holds = subst (λ l. Holds conduct l again.0 again.0) (sym one.2) again.2;
            backed = λ x old. backed;
          }
      restart_goes {was = was} {log = log} {calls = calls} text (unread cause x made refused same) c h is holds =
          let one = subst (λ (z : EventCalls). AreLogCalls conduct was z.log log) made c in
          let failed = reload was one.0 (Err cause) text text (calls_back conduct was calls.log log c h) one.1 holds in
          holds_same text failed.0 one.2 (kept_same dig (same_as_before same)) is
      restart_goes text (not_restarted hints (no_log none log_is no_hint) no_read refused after) c h is holds = absurd cc
      restart_goes {was = was} {log = log} {calls = calls} text (not_restarted hints (read_again x log_is) no_read refused after) c h is holds =
          let one = subst (λ cs. AreLogCalls conduct was cs log) log_is c in
          let again = reload was one.0 (Ok tt) text text (calls_back conduct was calls.log log c h) one.1.0 holds in
          record {
            logged = ap (λ z. z.logged) after ∙ is;
            now = again.0;
            holds = subst (λ l. Holds conduct l again.0 again.0) (sym one.2) again.2;
            backed = λ other old. absurd (other (ap (λ r. Restarted r) refused));
          }

      -- ---- a restart that was accepted, whatever was there before

      -- what was read of a device begins with a header
      not_empty : {infohash : List ℕ} {old new : D} (text : LogText) → Reads conduct infohash old (Ok text) new → conduct.honest old
          → (conduct.history old).now.bytes ≢ []
      not_empty {infohash} text (read_text _ new made lawful within of_bytes) h none =
          no_header (header_format text) infohash (subst (λ bytes. take header_length bytes ≡ header (header_format text) infohash) none (of_bytes h).header_is)

      restart_backs : AttachHolds conduct → (s new : EngineState) (was log : LogView D) (calls : EventCalls) {r : Result (Unit {0}) RestartError}
          → StepRestart dig s calls r new → r ≡ Ok tt → AreLogCalls conduct was calls.log log → conduct.honest log.disk → s.logged ≡ true
          → length was.infohash ≡ digest_length → (new.logged ≡ true) × IsBackedBy conduct dig new log
      restart_backs attach s new was log calls (restarts hints (no_log none log_is no_hint) recovers places answer) ok c h is size = absurd cc
      restart_backs attach s new was log calls (restarts hints (read_again x log_is) recovers places answer) ok c h is size =
          let one = subst (λ cs. AreLogCalls conduct was cs log) log_is c in
          let was_honest = calls_back conduct was calls.log log c h in
          let attached : IsAttached conduct was.infohash was.disk one.0 = record {
            text = one.1.0.0;
            opens = opened (Ok one.1.0.0) one.0.disk (not_empty one.1.0.0 one.1.0.1) one.1.0.1;
            log_is = one.1.0.2;
          } in
          let held = attach was.infohash was.disk one.0 size was_honest attached in
          let state = recovered_state dig recovers in (
            state.0 ∙ is,
            record {
              text = held.0;
              holds = subst (λ l. Holds conduct l held.0 held.0) (sym one.2) held.2;
              backed = nothing_pending held.0 (recovered_backed dig s new hints calls.devices recovers) (sym one.1.1 ∙ held.1) state.1;
            },
          )
      restart_backs attach s new was log calls (unread cause x made refused same) ok c h is size = absurd cc
      restart_backs attach s new was log calls (not_restarted hints again no_read refused after) ok c h is size = absurd cc

      restarted_is : {r : Result (Unit {0}) RestartError} → Restarted (Ok tt) ≡ Restarted r → r ≡ Ok tt
      restarted_is e = cc

      pub restart_backed : AttachHolds conduct → RestartIsBacked conduct dig
      restart_backed attach old new goes_by step log is h =
          let was = old_log conduct old.log new.log step.calls.log is step.logged in
          let c = logs_are conduct old.log new.log step.calls.log was.1 is step.logged in
          let own = goes_by was.0 was.1 in
          restart_backs attach old.state new.state was.0 log step.calls step.step.2 (restarted_is step.step.1) c h own.0 own.1

      module _ (sizes : IsDigest dig) (rooted : KeepsRooted dig) (lead : GroupProofsFollow dig) (others : OtherRootsStay dig) where
        step_goes : {s new : EngineState} {was log : LogView D} (event : Event) (calls : EventCalls) (answer : Answer) (text : LogText) → HaveOwnRoots s.trees
            → AreSparseTrees dig s → Step dig s event calls answer new → AreLogCalls conduct was calls.log log → conduct.honest log.disk
            → s.logged ≡ true → Holds conduct was text text → Goes s text answer new log
        step_goes Connect calls answer text own sparse t c h is holds =
            quiet text holds (ap (λ (z : EventCalls). z.log) t.2) c (connect_backs dig t.3) is
        step_goes (Feed key bytes) calls answer text own sparse t c h is holds =
            quiet text holds (ap (λ (z : EventCalls). z.log) t.2) c (feed_backs dig t.3) is
        step_goes (Next key) calls answer text own sparse t c h is holds = quiet text holds t.2 c (next_backs dig own t.3) is
        step_goes (Lost key) calls answer text own sparse t c h is holds =
            quiet text holds (ap (λ (z : EventCalls). z.log) t.2) c (lost_backs dig t.3) is
        step_goes Rechoke calls answer text own sparse t c h is holds =
            quiet text holds (ap (λ (z : EventCalls). z.log) t.2) c (rechoke_backs dig t.3) is
        step_goes (Adopt file) calls answer text own sparse t c h is holds =
            quiet text holds t.2 c (adopt_backs dig sizes rooted lead others own sparse t.3) is
        step_goes Flush calls answer text own sparse t c h is holds = flush_goes text t.2 c h is holds
        step_goes {s} {new} {was} {log} Restart calls answer text own sparse t c h is holds =
            subst (λ a. Goes s text a new log) (sym t.1) (restart_goes text t.2 c h is holds)

        own_roots : {torrent : Metainfo} {s : EngineState} → IsShaped torrent s → HaveOwnRoots s.trees
        own_roots {s = s} shaped = to_pairs (λ (j k : Facts). j.root ≢ k.root) s.trees shaped.roots

        pub step_backed : StepKeepsBacking conduct dig
        step_backed old new event answer shaped sparse other step backing log is h =
            let was = old_log conduct old.log new.log step.calls.log is step.logged in
            let c = logs_are conduct old.log new.log step.calls.log was.1 is step.logged in
            let b = backing was.0 was.1 (calls_back conduct was.0 step.calls.log log c h) in
            let g = step_goes event step.calls answer b.1.text (own_roots shaped) sparse step.step c h b.0 b.1.holds in
            (g.logged, record { text = g.now; holds = g.holds; backed = g.backed other b.1.backed })

        -- ---- lists of events

        -- what is said of an engine and of an honest log stands where neither changes
        still : (old new : EngineView D) → new.state ≡ old.state → HaveLogCalls conduct old.log [] new.log → HasBacking conduct dig old → HasBacking conduct dig new
        still old new state c holds log is h =
            let was = old_log conduct old.log new.log [] is c in
            let same : log ≡ was.0 = logs_are conduct old.log new.log [] was.1 is c in
            let held = holds was.0 was.1 (subst (λ (l : LogView D). conduct.honest l.disk) same h) in
            subst (λ z. (z.logged ≡ true) × IsBackedBy conduct dig z log) (sym state) (subst (λ l. (old.state.logged ≡ true) × IsBackedBy conduct dig old.state l) (sym same) held)

        goes_by_still : {old new : EngineView D} {event : Event} {answer : Answer} → StepsTo conduct dig old event answer new → GoesByLog old → GoesByLog new
        goes_by_still {old} {new} {event} {answer} step goes_by log is =
            let was = old_log conduct old.log new.log step.calls.log is step.logged in
            let c = logs_are conduct old.log new.log step.calls.log was.1 is step.logged in
            let own = goes_by was.0 was.1 in
            (step_logged dig old.state new.state event step.calls answer step.step ∙ own.0, ap length (infohash_stays conduct was.0 step.calls.log log c) ∙ own.1)

        module _ (attach : AttachHolds conduct) (shape : StepKeepsShape dig) (keep : StepKeepsSparse dig) where
          run_backed : (torrent : Metainfo) → IsLawful torrent.piece_length torrent.files → (events : List Event)
              (calls : List EventCalls) (answers : List Answer) (backed : Bool) (old new : EngineView D) → IsShaped torrent old.state
              → AreSparseTrees dig old.state → GoesByLog old → (backed ≡ true → HasBacking conduct dig old)
              → RunOn conduct dig old.state old.disks events calls answers new.state new.disks
              → HaveLogCalls conduct old.log (flat_map (λ c. c.log) calls) new.log → is_backed_after backed answers ≡ true → HasBacking conduct dig new
          run_backed torrent lawful [] [] [] backed old new shaped sparse goes_by before run logs after = still old new run.0 logs (before after)
          run_backed torrent lawful (e ∷ es) (c ∷ cs) (a ∷ rest) backed old new shaped sparse goes_by before run logs after =
              let split = log_split old.log new.log c.log (flat_map (λ c. c.log) cs) logs in
              let mid : EngineView D = record { state = run.0; disks = run.1; log = split.0 } in
              let step : StepsTo conduct dig old e a mid = record { calls = c; step = run.2; made = run.3; logged = split.1 } in
              let own_lawful = subst (λ (t : Metainfo). IsLawful t.piece_length t.files) (sym shaped.same) lawful in
              let own_shape = subst (λ t. IsShaped t old.state) (sym shaped.same) shaped in
              let mid_shape = shape torrent old.state run.0 e c a shaped run.2 in
              let mid_sparse = keep old.state run.0 e c a own_lawful run.2 sparse in
              let go = λ (b : Bool) (now : b ≡ true → HasBacking conduct dig mid) (so : is_backed_after b rest ≡ true).
              run_backed torrent lawful es cs rest b mid new mid_shape mid_sparse (goes_by_still step goes_by) now run.4 split.2 so in
              elim (answer_cases backed a rest after) [
                | inl again ↦ go true (λ x. accepted step again.0) again.1
                | inr one ↦ elim one [
                  | inl other ↦ go backed (λ x. step_backed old mid e a own_shape sparse other.0 step (before x)) other.1
                  | inr lost ↦ go false (λ x. absurd cc) lost
                ]
              ]
            where
              accepted : {mid : EngineView D} → StepsTo conduct dig old e a mid → a ≡ Restarted (Ok tt) → HasBacking conduct dig mid
              accepted {mid} step is =
                  let event : e ≡ Restart = restarted_by dig old.state mid.state e step.calls (subst (λ x. Step dig old.state e step.calls x mid.state) is step.step) in
                  restart_backed attach old mid goes_by (subst (λ x. StepsTo conduct dig old x (Restarted (Ok tt)) mid) event (subst (λ x. StepsTo conduct dig old e x mid) is step))
          run_backed torrent lawful _ _ _ backed old new shaped sparse goes_by before run logs after = absurd run

          pub backing_goes_on : BackingGoesOn conduct dig
          backing_goes_on old new backed events answers lawful shaped sparse goes_by before run after =
              run_backed old.state.torrent lawful events run.calls answers backed old new shaped sparse goes_by before run.run run.logged after

          none_called_is : (calls : List LogCall) → none_called calls ≡ true → calls ≡ []
          none_called_is [] e = refl
          none_called_is (call ∷ calls) e = absurd cc

          module _ (starts : StartsInShape dig) (sparse : StartsSparse dig) where
            pub runs_backed : RunsAreBacked conduct dig
            runs_backed torrent given disk open_log log before first last events answers lawful size attached called begins run after =
                run_backed torrent lawful events run.calls answers (none_called before) first last (starts torrent first.state (begins_of begins))
                (sparse torrent first.state lawful (begins_of begins)) goes_by fresh run.run run.logged after
              where
                goes_by : GoesByLog first
                goes_by l is =
                    let same : log ≡ l = same_log (sym (log_of begins) ∙ is) in (
                      (recovered_state dig (opened_by begins).recovers).0,
                      ap (λ (x : LogView D). length x.infohash) (sym same) ∙ ap length (infohash_stays conduct open_log before log called)
                          ∙ ap (λ (x : LogView D). length x.infohash) attached.log_is ∙ size,
                    )

                fresh : none_called before ≡ true → HasBacking conduct dig first
                fresh none =
                    let same : log ≡ open_log = subst (λ cs. AreLogCalls conduct open_log cs log) (none_called_is before none) called in
                    start_backed attach torrent given disk log first size (subst (IsAttached conduct torrent.infohash disk) (sym same) attached) begins
