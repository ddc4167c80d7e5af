-- What a flush that answered Ok has kept, no later stop loses.
use Rattle.bt_machine.proofs.Base.{[], ◌≡◌, ℕ, List, ◌∷◌, ◌++◌, Option, Some, Ok, refl, sym, ap, ◌∙◌, subst, slice_get, Facts, block_length}
use Rattle.std.specs.Prelude.{flat_map}
use Rattle.bt_disk.specs.Conduct.{Conduct}
use Rattle.bt_disk.specs.History.{moment_of}
use Rattle.bt_machine.specs.Crash.{IsBlockKept}
use Rattle.bt_machine.specs.Shape.{StepKeepsFiles}
use Rattle.bt_machine.specs.Sound.{IsSound, StepKeepsSound, HonestDevicesWereSo}
use Rattle.bt_machine.specs.Survival.{FlushKeepsBlocks, RunKeepsImages}
use Rattle.bt_machine.specs.Unmarks.{HasNoRestart, RunKeepsMarks}
use Rattle.bt_machine.specs.LogCalls.{EventCalls, HaveLogCalls}
use Rattle.bt_machine.specs.State.{EngineView}
use Rattle.bt_machine.specs.View.{StepsTo}
use Rattle.bt_machine.specs.declared.event.Event.{Event}
use Rattle.bt_machine.specs.declared.event.Event.TheVariants.{Connect, Feed, Next, Lost, Rechoke, Adopt, Flush, Restart}
use Rattle.bt_machine.specs.declared.event.Answer.{Answer}
use Rattle.bt_machine.specs.declared.event.Answer.TheVariants.{Flushed}
use Rattle.bt_machine.proofs.Machine.{Digest, FileState, EngineState, Step, RunOn, IsFile, stored_block}
use Rattle.bt_machine.proofs.Lists.{and_then_some, same_some}
use Rattle.bt_engine.specs.Flushes.{LosesNoBlockFrom, IsFlushedAt, FlushesLoseNoBlock, KeepsFlushed, FlushedBlocksStay}
use Rattle.bt_engine.proofs.Logs.{logs_parted, logs_joined, no_log_calls}

-- this is the answer of a flush
is_flush : (dig : Digest) (e : Event) (s new : EngineState) (calls : EventCalls) → Step dig s e calls (Flushed (Ok tt)) new → e ≡ Flush
is_flush dig Connect s new calls step = let is = step.1 in absurd cc
is_flush dig (Feed key bytes) s new calls step = let is = step.1 in absurd cc
is_flush dig (Next key) s new calls step = let is = step.1 in absurd cc
is_flush dig (Lost key) s new calls step = let is = step.1 in absurd cc
is_flush dig Rechoke s new calls step = let is = step.1 in absurd cc
is_flush dig (Adopt file) s new calls step = let is = step.1 in absurd cc
is_flush dig Flush s new calls step = refl
is_flush dig Restart s new calls step = let is = step.1 in absurd cc

module _ {D : Type 0} (conduct : Conduct D) (dig : Digest) (kept : StepKeepsFiles dig) where
  -- a file has the tree that it had
  file_stays : (s new : EngineState) (events : List Event) (calls : List EventCalls) (answers : List Answer) (disks after : List (Option D)) (i : ℕ) (f : FileState)
      → RunOn conduct dig s disks events calls answers new after → slice_get new.files i ≡ Some f → (old : FileState) × (slice_get s.files i ≡ Some old) × (f.tree ≡ old.tree)
  file_stays s new [] [] [] disks after i f run at = (f, ap (λ z. slice_get z.files i) (sym run.0) ∙ at, refl)
  file_stays s new (e ∷ es) (c ∷ calls) (a ∷ answers) disks after i f run at =
      let mid = file_stays run.0 new es calls answers run.1 after i f run.4 at in
      let first = kept.files s run.0 e c a run.2 i mid.0 mid.1 in
      (first.before, first.here, mid.2 ∙ first.tree)
  file_stays s new _ _ _ disks after i f run at = absurd run

  -- a tree has the file's length that it had
  tree_stays : (s new : EngineState) (events : List Event) (calls : List EventCalls) (answers : List Answer) (disks after : List (Option D)) (t : ℕ) (k : Facts)
      → RunOn conduct dig s disks events calls answers new after → slice_get s.trees t ≡ Some k → (now : Facts) × (slice_get new.trees t ≡ Some now) × (now.file_length ≡ k.file_length)
  tree_stays s new [] [] [] disks after t k run at = (k, ap (λ z. slice_get z.trees t) run.0 ∙ at, refl)
  tree_stays s new (e ∷ es) (c ∷ calls) (a ∷ answers) disks after t k run at =
      let first = kept.trees s run.0 e c a run.2 t k at in
      let rest = tree_stays run.0 new es calls answers run.1 after t first.after run.4 first.here in
      (rest.0, rest.1, rest.2 ∙ first.length)
  tree_stays s new _ _ _ disks after t k run at = absurd run

module _ {D : Type 0} (conduct : Conduct D) (dig : Digest) (were_so : HonestDevicesWereSo conduct dig)
    (run_keeps_images : RunKeepsImages conduct dig) (run_keeps_marks : RunKeepsMarks conduct dig) where
  -- what is marked at a flush, no stop after it loses, up to a restart
  pub none_lost : FlushKeepsBlocks conduct dig → (old flushed : EngineView D) → IsSound conduct dig flushed.state flushed.disks
      → StepsTo conduct dig old Flush (Flushed (Ok tt)) flushed → LosesNoBlockFrom conduct dig flushed
  none_lost flush_keeps old flushed sound step events answers new no_restart runs b k d e marked hung there_then there honest_now =
      let f = and_then_some (λ (q : FileState). slice_get q.states b.block) (slice_get flushed.state.files b.file) marked in
      let g = and_then_some (λ (q : FileState). slice_get flushed.state.trees q.tree) (slice_get flushed.state.files b.file) hung in
      let same : g.0 ≡ f.0 = same_some g.1 f.1 in
      let is : IsFile flushed.state b.file f.0 k = record { here = f.1; has_tree = ap (λ (q : FileState). slice_get flushed.state.trees q.tree) (sym same) ∙ g.2 } in
      let back = were_so flushed.state new.state events runs.calls answers flushed.disks new.disks b.file e runs.run there honest_now in
      let one : d ≡ back.0 = cc in
      let honest_then : conduct.honest d = rw one back.2 in
      let right = sound b.file f.0 k d is there_then honest_then b.block f.2 in
      let kept = flush_keeps old.state flushed.state step.calls old.disks flushed.disks b.file b.block f.0 k d step.step step.made is f.2 there_then honest_then in
      let each : (x : D) → slice_get flushed.disks b.file ≡ Some (Some x) → IsBlockKept (conduct.history x) (moment_of (conduct.history d)) b.block (stored_block k.file_length (conduct.history d).now.bytes b.block) = λ x at.
      (let same : x ≡ d = cc in rw same kept) in
      record {
        right = right;
        kept = run_keeps_images flushed.state new.state events runs.calls answers flushed.disks new.disks b.file b.block (moment_of (conduct.history d)) f.0 k _ e no_restart runs.run sound is f.2
            right.whole there honest_now each;
        marked = run_keeps_marks flushed.state new.state events runs.calls answers flushed.disks new.disks b e no_restart runs.run sound there honest_now marked;
      }

  at_flush : FlushKeepsBlocks conduct dig → StepKeepsSound conduct dig → (first last : EngineView D) (events : List Event) (calls : List EventCalls) (before after : List Answer) → IsSound conduct dig first.state first.disks
      → RunOn conduct dig first.state first.disks events calls (before ++ Flushed (Ok tt) ∷ after) last.state last.disks
      → HaveLogCalls conduct first.log (flat_map (λ c. c.log) calls) last.log
      → IsFlushedAt conduct dig first events calls before after last
  at_flush flush_keeps keeps_sound first last (e ∷ es) (c ∷ calls) [] after sound run logged =
      let is = is_flush dig e first.state run.0 c run.2 in
      let step : Step dig first.state Flush c (Flushed (Ok tt)) run.0 = subst (λ x. Step dig first.state x c (Flushed (Ok tt)) run.0) is run.2 in
      let logs = logs_parted conduct first.log last.log c.log (flat_map (λ x. x.log) calls) logged in
      let flushed : EngineView D = record { state = run.0; disks = run.1; log = logs.0 } in
      let flush : StepsTo conduct dig first Flush (Flushed (Ok tt)) flushed = record { calls = c; step = step; made = run.3; logged = logs.1 } in
      record {
        events_before = [];
        events_after = es;
        old = first;
        flushed = flushed;
        comes = record { calls = []; run = (refl, refl); logged = no_log_calls conduct first.log };
        flushes = flush;
        goes_on = record { calls = calls; run = run.4; logged = logs.2 };
        events_are = ap (λ x. x ∷ es) is;
        calls_are = refl;
        none_lost = none_lost flush_keeps first flushed (keeps_sound first.state run.0 e c _ first.disks run.1 run.2 run.3 sound) flush;
      }
  at_flush flush_keeps keeps_sound first last (e ∷ es) (c ∷ calls) (a ∷ before) after sound run logged =
      let logs = logs_parted conduct first.log last.log c.log (flat_map (λ x. x.log) calls) logged in
      let mid : EngineView D = record { state = run.0; disks = run.1; log = logs.0 } in
      let rest = at_flush flush_keeps keeps_sound mid last es calls before after (keeps_sound first.state run.0 e c a first.disks run.1 run.2 run.3 sound) run.4 logs.2 in
      record {
        events_before = e ∷ rest.events_before;
        events_after = rest.events_after;
        old = rest.old;
        flushed = rest.flushed;
        comes = record {
          calls = c ∷ rest.comes.calls;
          run = (run.0, run.1, run.2, run.3, rest.comes.run);
          logged = logs_joined conduct first.log logs.0 rest.old.log c.log (flat_map (λ x. x.log) rest.comes.calls) logs.1 rest.comes.logged;
        };
        flushes = rest.flushes;
        goes_on = rest.goes_on;
        events_are = ap (λ l. e ∷ l) rest.events_are;
        calls_are = ap (λ l. c ∷ l) rest.calls_are;
        none_lost = rest.none_lost;
      }
  at_flush flush_keeps keeps_sound first last [] [] [] after sound run logged = absurd run
  at_flush flush_keeps keeps_sound first last [] [] (a ∷ before) after sound run logged = absurd run
  at_flush flush_keeps keeps_sound first last [] (c ∷ calls) before after sound run logged = absurd run
  at_flush flush_keeps keeps_sound first last (e ∷ es) [] before after sound run logged = absurd run

  pub flushes : FlushKeepsBlocks conduct dig → StepKeepsSound conduct dig → (old new : EngineView D) (events : List Event) (calls : List EventCalls) (answers : List Answer) → IsSound conduct dig old.state old.disks
      → RunOn conduct dig old.state old.disks events calls answers new.state new.disks → HaveLogCalls conduct old.log (flat_map (λ c. c.log) calls) new.log
      → FlushesLoseNoBlock conduct dig old events calls answers new
  flushes flush_keeps keeps_sound old new events calls answers sound run logged before after is =
      at_flush flush_keeps keeps_sound old new events calls before after sound (subst (λ l. RunOn conduct dig old.state old.disks events calls l new.state new.disks) is run) logged

  -- what was not lost until a run, no stop in it loses
  pub none_lost_then : StepKeepsFiles dig → (old new : EngineView D) (events : List Event) (calls : List EventCalls) (answers : List Answer) → HasNoRestart events → IsSound conduct dig old.state old.disks
      → RunOn conduct dig old.state old.disks events calls answers new.state new.disks → KeepsFlushed conduct dig old new
  none_lost_then keeps_files old new events calls answers no_restart sound run flushed before said came none b k d e marked hung there_then there honest_now =
      let was = were_so old.state new.state events calls answers old.disks new.disks b.file e run there honest_now in
      let then = none b k d was.0 marked hung there_then was.1 was.2 in
      let f = and_then_some (λ (q : FileState). slice_get q.states b.block) (slice_get old.state.files b.file) then.marked in
      let g = and_then_some (λ (q : FileState). slice_get flushed.state.trees q.tree) (slice_get flushed.state.files b.file) hung in
      let first = file_stays conduct dig keeps_files flushed.state old.state before came.calls said flushed.disks old.disks b.file f.0 came.run f.1 in
      let same : first.0 ≡ g.0 = same_some first.1 g.1 in
      let tree = tree_stays conduct dig keeps_files flushed.state old.state before came.calls said flushed.disks old.disks g.0.tree k came.run g.2 in
      let is : IsFile old.state b.file f.0 tree.0 = record { here = f.1; has_tree = ap (λ t. slice_get old.state.trees t) (first.2 ∙ ap (λ (q : FileState). q.tree) same) ∙ tree.1 } in
      let each : (x : D) → slice_get old.disks b.file ≡ Some (Some x) → IsBlockKept (conduct.history x) (moment_of (conduct.history d)) b.block (stored_block k.file_length (conduct.history d).now.bytes b.block) = λ x at.
      (let one : x ≡ was.0 = cc in rw one then.kept) in
      record {
        right = then.right;
        kept = run_keeps_images old.state new.state events calls answers old.disks new.disks b.file b.block (moment_of (conduct.history d)) f.0 tree.0 _ e no_restart run sound is f.2
            (then.right.whole ∙ ap (λ n. block_length n b.block) (sym tree.2)) there honest_now each;
        marked = run_keeps_marks old.state new.state events calls answers old.disks new.disks b e no_restart run sound there honest_now then.marked;
      }

  pub flushed_stay : FlushKeepsBlocks conduct dig → (flushed : EngineView D) → IsSound conduct dig flushed.state flushed.disks → FlushedBlocksStay conduct dig flushed
  flushed_stay flush_keeps flushed sound old step = none_lost flush_keeps old flushed sound step
