-- What a flush kept of a marked block stands over restarts too, where no read of theirs failed.
use Rattle.bt_machine.proofs.Base.{[], ◌≡◌, ℕ, ◌<◌, ◌≤◌, inl, inr, true, List, ◌∷◌, ◌++◌, length, flat_map, Option, Some, Result, Ok, sym, ap, ◌∙◌, subst, arith, slice_get, Contains, block_length, AdoptMarksByBytes, CallsKeepBytes, IsImage, IsRight, BlockRead, given, block_of, call_of, Missing, Marked, BlockId, Facts, Call}
use Rattle.bt_disk.specs.Limits.{max_count}
use Rattle.bt_disk.specs.Calls.{HasCalls, IsRead, read_fault, count_after_call, count_after_calls}
use Rattle.bt_resume.specs.LogText.{LogText, hints_in}
use Rattle.bt_resume.specs.ResumeLog.{LogView}
use Rattle.bt_resume.specs.Law.{Begin, KeepsFirst, HintsComeFirst, ReloadHolds, ReloadStands, AppendStands, FlushStands}
use Rattle.bt_resume.specs.declared.hint.Hint.{Hint}
use Rattle.std.proofs.lemmas.List.{append_assoc}
use Rattle.bt_machine.specs.declared.error.RestartError.{RestartError}
use Rattle.bt_machine.specs.LogCalls.{AreLogCalls}
use Rattle.bt_machine.specs.Restart.{read as read_again, none as no_log, StepRestart, restarts, unread, no_memory as not_restarted}
use Rattle.bt_machine.specs.Crash.{IsBlockKept}
use Rattle.bt_machine.specs.Backing.{IsBacked}
use Rattle.bt_machine.specs.Reopening.{NoReadFailed, RestartsReadAll, NoRestartsReadAll, CountsTellReads}
use Rattle.bt_machine.proofs.Machine.{Digest, Event, Answer, EngineState, FileState, EventCalls, calls_of, state_at, tree_of, IsFile, IsShaped, IsSound, Step, RunOn, stored_block}
use Rattle.bt_machine.proofs.Lists.{same_some, and_then_some}
use Rattle.bt_machine.proofs.Marks.{state_is}
use Rattle.bt_machine.proofs.Restarts.{restart_or}
use Rattle.bt_machine.proofs.Shape.{step_keeps_files, step_torrent, step_logged}
use Rattle.bt_machine.proofs.Sound.{of_all, step_sound}
use Rattle.bt_machine.proofs.Crash.{images_kept}
use Rattle.bt_machine.proofs.Unmarks.{first_is, others_are, marks_kept, device_before}
use Rattle.bt_machine.proofs.Survival.{block_stands}
use Rattle.bt_machine.proofs.LogCalls.{calls_back, calls_stand}
use Rattle.bt_machine.proofs.Backing.{calls_split}
use Rattle.bt_machine.proofs.Reopening.{marked_again}
use Rattle.bt_machine.proofs.Reading.{files_read, never_less, none_failed, device_after, devices_run, block_read}
use Rattle.bt_disk.specs.Conduct.{Conduct}

-- ---- failures

bounded : (cs : List Call) (n : ℕ) → n ≤ max_count → (n ≤ count_after_calls n cs) × (count_after_calls n cs ≤ max_count)
bounded [] n le = (omega arith, le)
bounded (c ∷ cs) n le =
    let one = never_less n c le in
    let rest = bounded cs (count_after_call n c) one.1 in
    (omega (arith, one.0, rest.0), rest.1)

pub same_device : {D : Type 0} {o : Option (Option D)} {a b : D} → o ≡ Some (Some a) → o ≡ Some (Some b) → a ≡ b
same_device e f = cc

then_begins : (a b c : List Hint) → Begin a b → Begin b c → Begin a c
then_begins a b c x y = (x.0 ++ y.0, y.1 ∙ ap (λ l. l ++ y.0) x.1 ∙ append_assoc a x.0 y.0)

-- where there is no restart, none of its reads failed
pub no_restarts : NoRestartsReadAll
no_restarts [] calls none = tt
no_restarts (x ∷ xs) [] none = tt
no_restarts (x ∷ xs) (c ∷ cs) none = ((λ is. absurd (first_is x xs none is)), no_restarts xs cs (others_are x xs none))

module _ {D : Type 0} (conduct : Conduct D) (dig : Digest) where
  run_faults : (events : List Event) (calls : List EventCalls) (answers : List Answer) (old new : EngineState) (disks after : List (Option D)) (file : ℕ) (d e : D)
      → RunOn conduct dig old disks events calls answers new after → slice_get disks file ≡ Some (Some d) → slice_get after file ≡ Some (Some e)
      → conduct.faults d ≤ max_count → conduct.faults d ≤ conduct.faults e
  run_faults [] [] [] old new disks after file d e run at there le =
      let same = same_device at (ap (λ l. slice_get l file) (sym run.1) ∙ there) in
      let equal = ap conduct.faults same in
      omega (arith, equal)
  run_faults (x ∷ xs) (c ∷ cs) (a ∷ rest) old new disks after file d e run at there le =
      let one = device_after conduct disks run.1 c.devices file run.3 at in
      let grown = bounded (calls_of file c.devices) (conduct.faults d) le in
      let counted = one.2.counted in
      let more = run_faults xs cs rest run.0 new run.1 after file one.0 e run.4 one.1 there (omega (arith, grown.1, counted)) in
      omega (arith, grown.0, counted, more)
  run_faults _ _ _ old new disks after file d e run at there le = absurd run

  -- a device whose count stayed over events had it between them too
  between : (calls : List Call) (events : List Event) (more : List EventCalls) (answers : List Answer) (mid new : EngineState) (disks after : List (Option D))
      (file : ℕ) (d m e : D) → HasCalls conduct d calls m → RunOn conduct dig mid disks events more answers new after
      → slice_get disks file ≡ Some (Some m) → slice_get after file ≡ Some (Some e) → (conduct.faults d < max_count) × (conduct.faults e ≡ conduct.faults d) → conduct.faults m ≡ conduct.faults d
  between calls events more answers mid new disks after file d m e has run at there calm =
      let few = calm.0 in
      let same = calm.1 in
      let counted = has.counted in
      let grown = bounded calls (conduct.faults d) (omega (arith, few)) in
      let later_on = run_faults events more answers mid new disks after file m e run at there (omega (arith, grown.1, counted)) in
      omega (arith, grown.0, counted, later_on, same)

  pub counts_tell : CountsTellReads conduct dig
  counts_tell old new [] [] [] disks after run none = tt
  counts_tell old new (x ∷ xs) (c ∷ cs) (a ∷ rest) disks after run none =
      ((λ is file at wanted among. fine file at wanted among), counts_tell run.0 new xs cs rest run.1 after run.4 (record { none = calm }))
    where
      fine : (file at wanted : ℕ) → Contains c.devices (file, read_fault at wanted) → ⊥
      fine file at wanted among =
          let m = run.3.of_devices file (read_fault at wanted) among in
          let d = run.3.each file m.0 m.1 in
          let e = devices_run conduct dig xs cs rest run.0 new run.1 after file run.4 m.1 in
          let count = none.none file d.0 e.0 d.1 e.1 in
          let same = between (calls_of file c.devices) xs cs rest run.0 new run.1 after file d.0 m.0 e.0 d.2 run.4 m.1 e.1 count in
          none_failed conduct c.devices file count.0 same d.2 at wanted among

      calm : (file : ℕ) (m e : D) → slice_get run.1 file ≡ Some (Some m) → slice_get after file ≡ Some (Some e)
          → (conduct.faults m < max_count) × (conduct.faults e ≡ conduct.faults m)
      calm file m e at there =
          let d = run.3.each file m at in
          let count = none.none file d.0 e d.1 there in
          let same = between (calls_of file c.devices) xs cs rest run.0 new run.1 after file d.0 m e d.2 run.4 at there count in
          let few = count.0 in
          (omega (arith, same, few), count.1 ∙ sym same)
  counts_tell old new _ _ _ disks after run none = absurd run

  -- ---- what a flush left of a block and of the hints

  pub record WasFlushed (flushed : EngineState) (b : BlockId) (k : Facts) (bytes : List ℕ) (text : LogText) : Type 0 where
    pub backed : IsBacked dig flushed (hints_in text)
    pub shaped : IsShaped flushed.torrent flushed
    pub marked : state_at flushed b ≡ Some Marked
    pub has_tree : tree_of flushed b.file ≡ Some k
    pub right : IsRight dig k b.block bytes

  -- the block is marked still
  pub record StaysMarked (flushed s : EngineState) (b : BlockId) (k : Facts) : Type 0 where
    pub torrent : s.torrent ≡ flushed.torrent
    pub logged : s.logged ≡ true
    pub file : FileState
    pub tree : Facts
    pub is_file : IsFile s b.file file tree
    pub marked : slice_get file.states b.block ≡ Some Marked
    pub long : tree.file_length ≡ k.file_length

  stays_next : {flushed s new : EngineState} {b : BlockId} {k : Facts} (event : Event) (calls : EventCalls) (answer : Answer) → Step dig s event calls answer new
      → StaysMarked flushed s b k → state_at new b ≡ Some Marked → StaysMarked flushed new b k
  stays_next {flushed} {s} {new} {b} event calls answer step g marked =
      let m = and_then_some (λ (q : FileState). slice_get q.states b.block) (slice_get new.files b.file) marked in
      let keep = step_keeps_files dig in
      let old = keep.files s new event calls answer step b.file m.0 m.1 in
      let file_is = same_some old.here g.is_file.here in
      let tree = keep.trees s new event calls answer step g.file.tree g.tree g.is_file.has_tree in
      let place : m.0.tree ≡ g.file.tree = old.tree ∙ ap (λ (q : FileState). q.tree) file_is in
      record {
        torrent = step_torrent dig s new event calls answer step ∙ g.torrent;
        logged = step_logged dig s new event calls answer step ∙ g.logged;
        file = m.0;
        tree = tree.after;
        is_file = record { here = m.1; has_tree = ap (slice_get new.trees) place ∙ tree.here };
        marked = m.2;
        long = tree.length ∙ g.long;
      }

  module _ (marks : AdoptMarksByBytes dig) (calls_keep : CallsKeepBytes) (reads : (d : D) → conduct.honest d → IsImage (conduct.history d).now (conduct.history d).now.bytes)
      (reload_stands : ReloadStands conduct) (append_stands : AppendStands conduct) (flush_stands : FlushStands conduct)
      (reload : ReloadHolds conduct) (come_first : HintsComeFirst) where
    -- a restart in which no read failed marks it again, and any other changes no mark
    restart_marks : {flushed s new : EngineState} {calls : EventCalls} {r : Result (Unit {0}) RestartError} (b : BlockId) (k : Facts) (bytes : List ℕ) (text : LogText)
        (t : ℕ) (was log : LogView D) (d e : D) → WasFlushed flushed b k bytes text → s.torrent ≡ flushed.torrent → s.logged ≡ true
        → state_at s b ≡ Some Marked → conduct.honest was.disk → KeepsFirst conduct t text was → AreLogCalls conduct was calls.log log
        → conduct.honest d → NoReadFailed calls.devices → HasCalls conduct d (calls_of b.file calls.devices) e
        → stored_block k.file_length (conduct.history d).now.bytes b.block ≡ bytes → StepRestart dig s calls r new → state_at new b ≡ Some Marked
    restart_marks {flushed} {s} {new} {calls} b k bytes text t was log d e f torrent logged marked was_honest kept logs h fine has stands
        (restarts hints (read_again is made) recovers places ok) =
        let c = subst (λ l. AreLogCalls conduct was l log) made logs in
        let held = reload was c.0 (Ok tt) kept.kept kept.all was_honest c.1.0 kept.holds in
        let hints_are : hints ≡ hints_in held.0 = sym c.1.1 ∙ held.1 in
        let first = then_begins _ _ _ (come_first text kept.kept kept.begins) (come_first kept.kept kept.all kept.holds.begins) in
        let all : Begin (hints_in text) hints = subst (Begin (hints_in text)) (sym hints_are) (then_begins _ _ _ first (come_first kept.all held.0 held.3)) in
        marked_again dig flushed s new (hints_in text) hints calls.devices b k (dig bytes) f.backed f.shaped torrent all recovers f.marked f.has_tree f.right.leaf good
      where
        good : (read : BlockRead) → block_of read ≡ b.block → Contains calls.devices (b.file, call_of k.file_length read)
            → (bytes : List ℕ) × (read ≡ given b.block bytes) × IsRight dig k b.block bytes
        good read of_block among =
            let only : (c : Call) → Contains (calls_of b.file calls.devices) c → IsRead c =
            λ c inside. files_read dig hints _ _ new calls.devices recovers.restores b.file c (of_all calls.devices inside) in
            let r = block_read conduct calls.devices b.file k.file_length b.block read h (fine b.file) has only of_block among in
            (r.0, r.1, subst (IsRight dig k b.block) (sym (r.2 ∙ stands)) f.right)
    restart_marks b k bytes text t was log d e f torrent logged marked was_honest kept logs h fine has stands
        (restarts hints (no_log is made none) recovers places ok) = absurd cc
    restart_marks b k bytes text t was log d e f torrent logged marked was_honest kept logs h fine has stands (unread cause is made refused after) =
        ap (λ z. state_at z b) after ∙ marked
    restart_marks b k bytes text t was log d e f torrent logged marked was_honest kept logs h fine has stands (not_restarted hints again none refused after) =
        ap (λ z. state_at z b) after ∙ marked

    -- what every image has of the block since the flush, every image goes on to have
    pub kept_over : (flushed : EngineState) (b : BlockId) (k : Facts) (bytes : List ℕ) (text : LogText) (t t_log : ℕ) (events : List Event) (calls : List EventCalls)
        (answers : List Answer) (s new : EngineState) (disks after : List (Option D)) (was log : LogView D) (d e : D) → WasFlushed flushed b k bytes text
        → StaysMarked flushed s b k → RunOn conduct dig s disks events calls answers new after
        → AreLogCalls conduct was (flat_map (λ c. c.log) calls) log → conduct.honest log.disk → KeepsFirst conduct t_log text was
        → IsSound conduct dig s disks → slice_get disks b.file ≡ Some (Some d) → slice_get after b.file ≡ Some (Some e) → conduct.honest e
        → RestartsReadAll events calls → IsBlockKept (conduct.history d) t b.block bytes → IsBlockKept (conduct.history e) t b.block bytes
    kept_over flushed b k bytes text t t_log [] [] [] s new disks after was log d e f g run logs h first sound at there honest_now all_read kept =
        subst (λ x. IsBlockKept (conduct.history x) t b.block bytes) (same_device at (ap (λ l. slice_get l b.file) (sym run.1) ∙ there)) kept
    kept_over flushed b k bytes text t t_log (x ∷ xs) (c ∷ cs) (a ∷ rest) s new disks after was log d e f g run logs h first sound at there honest_now all_read kept =
        let back = device_before conduct dig run.0 new xs cs rest run.1 after b.file run.4 there honest_now in
        let one = device_after conduct disks run.1 c.devices b.file run.3 at in
        let honest_then = subst conduct.honest (same_device back.1 one.1) back.2 in
        let honest_before = one.2.as_honest.1 honest_then in
        let split = calls_split conduct was c.log (flat_map (λ z. z.log) cs) log logs in
        let log_then = calls_back conduct split.0 (flat_map (λ z. z.log) cs) log split.2 h in
        let log_before = calls_back conduct was c.log split.0 split.1 log_then in
        let first_then = calls_stand conduct reload_stands append_stands flush_stands t_log text was c.log split.0 log_then split.1 first in
        let size : length bytes ≡ block_length k.file_length b.block = f.right.whole in
        let stands = block_stands k.file_length b.block bytes (conduct.history d).now.bytes size (λ j byte inside. kept j byte inside (conduct.history d).now.bytes (inl (reads d honest_before))) in
        let before = state_is s b g.is_file.here g.marked in
        let marked : state_at run.0 b ≡ Some Marked = elim (restart_or x) [
          | inl is ↦ (
              let r = subst (λ z. Step dig s z c a run.0) is run.2 in
              restart_marks b k bytes text t_log was split.0 d one.0 f g.torrent g.logged before log_before first split.1 honest_before (all_read.0 is) one.2 stands r.2
              )
          | inr apart ↦ marks_kept conduct dig s run.0 x c a disks run.1 b one.0 apart run.2 run.3 sound one.1 honest_then before
        ] in
        let kept_then = images_kept conduct dig calls_keep reads s run.0 x c a disks run.1 b.file b.block t g.file g.tree bytes one.0 run.2 run.3 g.is_file
        (λ gone. absurd (present g.marked gone)) (size ∙ ap (λ n. block_length n b.block) (sym g.long)) one.1 honest_then
        (λ y there_y. subst (λ z. IsBlockKept (conduct.history z) t b.block bytes) (same_device at there_y) kept) in
        kept_over flushed b k bytes text t t_log xs cs rest run.0 new run.1 after split.0 log one.0 e f (stays_next x c a run.2 g marked) run.4 split.2 h first_then
        (step_sound conduct dig marks s run.0 x c a disks run.1 run.2 run.3 sound) one.1 there honest_now
        all_read.1 kept_then
      where
        present : {o : Option _} → o ≡ Some Marked → o ≡ Some Missing → ⊥
        present m n = absurd cc
    kept_over flushed b k bytes text t t_log _ _ _ s new disks after was log d e f g run logs h first sound at there honest_now all_read kept = absurd run
