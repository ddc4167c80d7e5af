-- What is promised of a whole run follows from what is promised of its events.
use Rattle.std.specs.List.{list_all}
use Rattle.std.specs.Prelude.{◌↔◌}
use Rattle.bt_store.specs.BlockStates.{is_marked}
use Rattle.bt_machine.proofs.Base.{[], ◌≡◌, ℕ, zero, suc, ◌<◌, inl, inr, true, List, ◌∷◌, length, replicate, Option, Some, None, refl, sym, ap, ◌∙◌, subst, arith, slice_get, File, Metainfo, IsLawful, BlockState, Missing, Waiting, Marked, BlockId, block_count}
use Rattle.bt_machine.specs.Blocks.{block_id, is_complete}
use Rattle.bt_machine.specs.Headline.{CompleteFilesArePublished}
use Rattle.bt_machine.specs.Law.{AreRooted, StartsRooted, StepKeepsRooted, RightIsChecked, StartMarksByBytes, StepMarksByBytes, RunSendsReadBytes}
use Rattle.bt_machine.specs.Shape.{IsShaped, StartsInShape, StepKeepsShape, RunsKeepShape}
use Rattle.bt_machine.specs.Sound.{StartsSound, StepKeepsSound, HonestDevicesWereSo}
use Rattle.bt_machine.specs.Survival.{FlushKeepsBlocks, RunKeepsImages}
use Rattle.bt_machine.specs.Unmarks.{RunKeepsMarks}
use Rattle.bt_machine.specs.LogCalls.{EventCalls}
use Rattle.bt_resume.specs.ResumeLog.{LogView}
use Rattle.bt_machine.specs.Opening.Begins.{bare, with_log}
use Rattle.bt_machine.specs.Opening.BeginsOn.{bare as bare_on, with_log as with_log_on}
use Rattle.bt_machine.specs.Opening.{Begins, BeginsOn}
use Rattle.bt_machine.specs.Start.{AreDevicesOf}
use Rattle.bt_machine.specs.State.{EngineView}
use Rattle.bt_machine.specs.View.{RunsTo, NoEventsRun, OneMoreEventRuns, RunsCompose, RunsAreRuns}
use Rattle.bt_machine.specs.declared.event.Event.{Event}
use Rattle.bt_machine.specs.declared.event.Answer.{Answer}
use Rattle.bt_machine.proofs.Machine.{Digest, EngineState, RunOn, Starts, state_at}
use Rattle.bt_machine.proofs.Lists.{and_then_some, get_some, some_below}
use Rattle.bt_engine.specs.WholeRuns.{starting_calls, IsMarkedAtStart, IsPublishedOn, IsMarkedInRun, at_event, at_start, WholeRunsKeepPromises, WhatLeadsOnIsWhole}
use Rattle.bt_engine.proofs.Flushes.{flushes}
use Rattle.bt_engine.proofs.Leading.{leads_run}
use Rattle.bt_engine.proofs.Paths.{marked_cases, path_of, sends_on_path}
use Rattle.bt_disk.specs.Conduct.{Conduct}

-- ---- blocks

none_marked : (n i : ℕ) → slice_get (replicate n Missing) i ≡ Some Marked → ⊥
none_marked (suc n) (suc i) e = none_marked n i e
none_marked _ _ e = absurd cc

-- without a log no block is marked at the start
unmarked_first : (dig : Digest) (torrent : Metainfo) (s : EngineState) (b : BlockId) → Starts dig torrent s → state_at s b ≡ Some Marked → ⊥
unmarked_first dig torrent s b starts marked =
    let f = and_then_some (λ q. slice_get q.states b.block) (slice_get s.files b.file) marked in
    let lt : b.file < length torrent.files = rw (← starts.is_new.count) (some_below s.files b.file f.1) in
    let file = get_some torrent.files b.file lt in
    let new = starts.is_new.each_file b.file file.0 f.0 file.1 f.1 in
    none_marked (block_count file.0.length) b.block (ap (λ l. slice_get l b.block) (sym new.missing) ∙ f.2)

marked_there : (states : List BlockState) (i : ℕ) → list_all is_marked states ≡ true → i < length states → slice_get states i ≡ Some Marked
marked_there [] i all lt = absurd (omega (arith, lt))
marked_there (Marked ∷ states) zero all lt = refl
marked_there (Marked ∷ states) (suc i) all lt = marked_there states i all (omega (arith, lt))
marked_there (Missing ∷ states) i all lt = absurd cc
marked_there (Waiting ∷ states) i all lt = absurd cc

-- each block of a complete file is marked
complete_marked : (torrent : Metainfo) (s : EngineState) (number : ℕ) (file : File) (i : ℕ) → IsShaped torrent s → slice_get torrent.files number ≡ Some file
    → is_complete s number ≡ true → i < block_count file.length → state_at s (block_id number i) ≡ Some Marked
complete_marked torrent s number file i shaped listed done inside =
    let lt : number < length s.files = rw shaped.count (some_below torrent.files number listed) in
    let f = get_some s.files number lt in
    let shape = shaped.each number file f.0 listed f.1 in
    let all : list_all is_marked f.0.states ≡ true = rw f.1 at done in
    rw f.1 (marked_there f.0.states i all (rw shape.blocks inside))

positive : (n : ℕ) → (n ≡ 0 → ⊥) → 0 < n
positive zero some = absurd (some refl)
positive (suc n) some = omega arith

module _ {D : Type 0} (conduct : Conduct D) (dig : Digest) where
  -- ---- the start

  begins_of : {torrent : Metainfo} {placed : List (Option D)} {log : Option (LogView D)} {first : EngineView D} → BeginsOn conduct dig torrent placed log first
      → Begins dig torrent first.state
  begins_of (bare_on no_log begun same unlogged) = bare begun
  begins_of (with_log_on l calls is of_torrent begun made same) = with_log l.hints calls begun

  -- a file has a device exactly where one was placed
  placed_none : {torrent : Metainfo} {placed : List (Option D)} {log : Option (LogView D)} {first : EngineView D} → BeginsOn conduct dig torrent placed log first
      → (i : ℕ) → (slice_get placed i ≡ Some None) ↔ (slice_get first.disks i ≡ Some None)
  placed_none (bare_on no_log begun same unlogged) i =
      (subst (λ l. slice_get l i ≡ Some None) (sym same), subst (λ l. slice_get l i ≡ Some None) same)
  placed_none (with_log_on l calls is of_torrent begun made same) i = made.none i

  -- what is marked at the start was read then
  marked_first : StartMarksByBytes dig → RightIsChecked dig → {torrent : Metainfo} {placed : List (Option D)} {log : Option (LogView D)} {first : EngineView D}
      → (begins : BeginsOn conduct dig torrent placed log first) → IsShaped torrent first.state → AreRooted dig first.state
      → (b : BlockId) → state_at first.state b ≡ Some Marked → IsMarkedAtStart dig (starting_calls begins) first.state b
  marked_first start_marks right {torrent} {first = first} (bare_on no_log begun same unlogged) shaped rooted b marked =
      absurd (unmarked_first dig torrent first.state b begun marked)
  marked_first start_marks right {torrent} {first = first} (with_log_on l calls is of_torrent begun made same) shaped rooted b marked =
      let by = start_marks torrent l.hints calls first.state begun b marked in
      record { recovered = by; on_path = path_of dig torrent right b first.state by.tree by.bytes shaped rooted marked by.has_tree by.right }

  -- ---- devices

  -- a file has a device where it had one
  none_before : (old new : EngineState) (events : List Event) (calls : List EventCalls) (answers : List Answer) (disks after : List (Option D)) (i : ℕ)
      → RunOn conduct dig old disks events calls answers new after → slice_get after i ≡ Some None → slice_get disks i ≡ Some None
  none_before old new [] [] [] disks after i run at = rw (← run.1) at
  none_before old new (e ∷ es) (c ∷ calls) (a ∷ answers) disks after i run at =
      (run.3.none i).1 (none_before run.0 new es calls answers run.1 after i run.4 at)
  none_before old new _ _ _ disks after i run at = absurd run

  none_after : (old new : EngineState) (events : List Event) (calls : List EventCalls) (answers : List Answer) (disks after : List (Option D)) (i : ℕ)
      → RunOn conduct dig old disks events calls answers new after → slice_get disks i ≡ Some None → slice_get after i ≡ Some None
  none_after old new [] [] [] disks after i run at = rw run.1 at
  none_after old new (e ∷ es) (c ∷ calls) (a ∷ answers) disks after i run at =
      none_after run.0 new es calls answers run.1 after i run.4 ((run.3.none i).0 at)
  none_after old new _ _ _ disks after i run at = absurd run

  -- ---- the whole

  module _ {torrent : Metainfo} {given : List D} {placed : List (Option D)} {log : Option (LogView D)} {first last : EngineView D} {events : List Event} {answers : List Answer}
      (begins : BeginsOn conduct dig torrent placed log first) (runs : RunsTo conduct dig first events answers last)
      (lawful : IsLawful torrent.piece_length torrent.files) (devices : AreDevicesOf torrent.files given placed) where
    -- a complete file is the published one
    published_on : CompleteFilesArePublished conduct dig → IsShaped torrent last.state → (number : ℕ) (file : File) (disk : Option D)
        → slice_get torrent.files number ≡ Some file → is_complete last.state number ≡ true → slice_get last.disks number ≡ Some disk
        → IsPublishedOn conduct dig file disk
    published_on publish shaped number file None listed done there =
        (devices.empty number file listed).0 ((placed_none begins number).1
        (none_before first.state last.state events runs.calls answers first.disks last.disks number runs.run there))
    published_on publish shaped number file (Some d) listed done there = λ honest_now.
        let some : 0 < file.length = positive file.length (λ empty. (let gone = none_after first.state last.state events runs.calls answers first.disks last.disks number runs.run
        ((placed_none begins number).0 ((devices.empty number file listed).1 empty)) in absurd cc)) in
        let lt : number < length last.state.files = rw shaped.count (some_below torrent.files number listed) in
        let f = get_some last.state.files number lt in
        let shape = shaped.each number file f.0 listed f.1 in
        let tree = shape.has_tree some in
        let all : list_all is_marked f.0.states ≡ true = rw f.1 at done in
        publish torrent placed log first last.state events runs.calls answers last.disks number file d lawful begins runs.run
        (record {
          listed = listed;
          some = some;
          state = f.0;
          tree = tree.0;
          here = f.1;
          has_tree = tree.1;
          marked = λ i inside. marked_there f.0.states i all (rw shape.blocks inside);
        }) there honest_now

  module _ (right : RightIsChecked dig) (starts_in_shape : StartsInShape dig) (starts_rooted : StartsRooted dig) (starts_sound : StartsSound conduct dig)
      (start_marks : StartMarksByBytes dig) (keeps_shape : StepKeepsShape dig) (keeps_rooted : StepKeepsRooted dig) (keeps_sound : StepKeepsSound conduct dig)
      (step_marks : StepMarksByBytes dig) (run_sends : RunSendsReadBytes dig) (run_shape : RunsKeepShape dig)
      (are_runs : RunsAreRuns conduct dig) (publish : CompleteFilesArePublished conduct dig)
      (keeps_marks : RunKeepsMarks conduct dig) (keeps_images : RunKeepsImages conduct dig)
      (flush_keeps : FlushKeepsBlocks conduct dig) (were_so : HonestDevicesWereSo conduct dig) where
    pub whole_runs : WholeRunsKeepPromises conduct dig
    whole_runs torrent given placed log first last events answers begins runs lawful devices =
        let run = runs.run in
        let plain = are_runs first.state last.state first.disks last.disks events runs.calls answers run in
        let shape_at_first : IsShaped torrent first.state = starts_in_shape torrent first.state (begins_of begins) in
        let shaped : IsShaped torrent last.state = (run_shape torrent first.state last.state events runs.calls answers (begins_of begins) plain).0 in
        let rooted = starts_rooted torrent first.state lawful (begins_of begins) in
        let marks : (b : BlockId) → state_at last.state b ≡ Some Marked → IsMarkedInRun begins runs b = λ b marked.
        elim (marked_cases dig torrent right lawful keeps_shape keeps_rooted step_marks first.state last.state events runs.calls answers shape_at_first rooted plain b marked) [
          | inl first_on ↦ at_start (marked_first start_marks right begins shape_at_first rooted b first_on.0) first_on.1
          | inr now ↦ at_event now
        ] in
        record {
          marks = marks;
          sends = λ before answer after is key piece begin bytes sent.
              sends_on_path dig torrent right lawful keeps_shape keeps_rooted events runs.calls before answer after key piece begin bytes shape_at_first rooted
              (run_sends first.state last.state events runs.calls before answer after (rw (← is) plain) key piece begin bytes sent);
          complete = λ number file listed done i inside. marks (block_id number i) (complete_marked torrent last.state number file i shaped listed done inside);
          published = published_on begins runs lawful devices publish shaped;
          flushes = flushes conduct dig were_so keeps_images keeps_marks flush_keeps keeps_sound first last events runs.calls answers
              (starts_sound torrent placed log first begins) run runs.logged;
        }

    -- what leads on is such a run
    pub what_leads_on : NoEventsRun conduct dig → OneMoreEventRuns conduct dig → RunsCompose conduct dig
        → WhatLeadsOnIsWhole conduct dig
    what_leads_on none_run one_more compose torrent given placed log first last begins lawful devices leads =
        let some = leads_run conduct dig none_run one_more compose leads in
        record {
          events = some.events;
          answers = some.answers;
          no_restart = some.no_restart;
          runs = some.runs;
          promised = whole_runs torrent given placed log first last some.events some.answers begins some.runs lawful devices;
        }
