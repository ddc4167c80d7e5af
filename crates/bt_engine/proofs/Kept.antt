-- What is promised of lists of events follows from the machine's laws.
use Rattle.std.specs.Prelude.{OnOk, OnErr, flat_map}
use Rattle.std.proofs.lemmas.List.Elements.{All-nil}
use Rattle.std.specs.declared.alloc.AllocError.{AllocError}
use Rattle.bt_machine.proofs.Base.{[], ◌≡◌, ℕ, List, length, take, Result, Ok, Err, sym, ap, ◌∙◌, file_root, File, Facts, IsLawful, ◌≢◌}
use Rattle.bt_tree.specs.Law.{RootsTellFiles}
use Rattle.bt_machine.specs.Headline.{IsPublished}
use Rattle.bt_machine.specs.Law.{AreRooted, StepKeepsRooted, RightIsChecked, StepMarksByBytes, RunSendsReadBytes}
use Rattle.bt_machine.specs.Shape.{IsShaped, StepKeepsShape}
use Rattle.bt_machine.specs.Sound.{IsSound, CompleteFilesStand}
use Rattle.bt_machine.specs.Unmarks.{HasNoRestart}
use Rattle.bt_machine.specs.LogCalls.{EventCalls, HaveLogCalls}
use Rattle.bt_machine.specs.State.{EngineView}
use Rattle.bt_machine.specs.Stored.{HasFile}
use Rattle.bt_machine.specs.View.{RunsTo, NoEventsRun, RunsAreRuns}
use Rattle.bt_machine.specs.declared.event.Event.{Event}
use Rattle.bt_machine.specs.declared.event.Event.TheVariants.{Restart}
use Rattle.bt_machine.specs.declared.event.Answer.{Answer}
use Rattle.bt_machine.proofs.Machine.{Digest, RunOn}
use Rattle.bt_machine.proofs.Lists.{same_some}
use Rattle.bt_engine.specs.Run.{RunsEvents}
use Rattle.bt_engine.specs.Promises.{RunsAsPromised, ArePublished}
use Rattle.bt_engine.specs.Flushes.{FlushesLoseNoBlock}
use Rattle.bt_engine.proofs.Paths.{sends_on_path, run_marks}
use Rattle.bt_disk.specs.Conduct.{Conduct}

published : (dig : Digest) → RootsTellFiles dig → {file : File} {k : Facts} {bytes : List ℕ} → k.file_length ≡ file.length → k.root ≡ file.root → HasFile dig k bytes
    → IsPublished dig file bytes
published dig tell {file} {k} {bytes} size root has =
    let all : length (take file.length bytes) ≡ file.length = cc in
    let own : file_root dig (take file.length bytes) ≡ file.root = cc in
    record {
      all = all;
      root = own;
      same = λ other other_size other_root. tell (take file.length bytes) other (cc) (cc);
    }

module _ {D : Type 0} (conduct : Conduct D) (dig : Digest) where
  pub as_promised : (old new : EngineView D) (events : List Event) (before after : List Answer)
      → IsLawful old.state.torrent.piece_length old.state.torrent.files → IsShaped old.state.torrent old.state → AreRooted dig old.state
      → RunsAreRuns conduct dig → RightIsChecked dig → StepKeepsShape dig → StepKeepsRooted dig → StepMarksByBytes dig → RunSendsReadBytes dig
      → ((es : List Event) (calls : List EventCalls) (answers : List Answer) → RunOn conduct dig old.state old.disks es calls answers new.state new.disks
      → HaveLogCalls conduct old.log (flat_map (λ c. c.log) calls) new.log → FlushesLoseNoBlock conduct dig old es calls answers new)
      → (result : Result (Unit {0}) AllocError) → OnOk result (RunsEvents conduct dig old events before after new)
      → OnOk result (RunsAsPromised conduct dig old events before after new)
  as_promised old new events before after lawful shaped rooted are_runs right keeps_shape keeps_rooted marks sends flushes (Err error) ran = tt
  as_promised old new events before after lawful shaped rooted are_runs right keeps_shape keeps_rooted marks sends flushes (Ok done) ran =
      let run = ran.runs in
      let plain = are_runs old.state new.state old.disks new.disks events run.calls ran.said run.run in
      record {
        answers = ran.said;
        behind = ran.behind;
        calls = run.calls;
        run = run.run;
        logged = run.logged;
        marks = run_marks dig old.state.torrent right lawful keeps_shape keeps_rooted marks old.state new.state events run.calls ran.said shaped rooted plain;
        sends = λ first answer rest is key piece begin bytes sent.
            sends_on_path dig old.state.torrent right lawful keeps_shape keeps_rooted events run.calls first answer rest key piece begin bytes shaped rooted
            (sends old.state new.state events run.calls first answer rest (rw (← is) plain) key piece begin bytes sent);
        flushes = flushes events run.calls ran.said run.run run.logged;
      }

  -- the events happened, or none did
  abbrev pub SomeRun : EngineView D → EngineView D → Type 0
  SomeRun old new = (es : List Event) × (answers : List Answer) × RunsTo conduct dig old es answers new × HasNoRestart es

  pub some_run : NoEventsRun conduct dig → (old new : EngineView D) (events : List Event) (before after : List Answer)
      (result : Result (Unit {0}) AllocError) → OnOk result (RunsEvents conduct dig old events before after new) → OnErr result (new ≡ old)
      → HasNoRestart events → SomeRun old new
  some_run none_run old new events before after (Ok done) ran none no_restart = (events, ran.said, ran.runs, no_restart)
  some_run none_run old new events before after (Err error) ran none no_restart = ([], [], rw none (none_run old), All-nil (λ event. event ≢ Restart))

  pub files_published : RootsTellFiles dig → CompleteFilesStand conduct dig → (s : EngineView D) → IsShaped s.state.torrent s.state → AreRooted dig s.state → IsSound conduct dig s.state s.disks
      → ArePublished conduct dig s
  files_published tell stand s shaped rooted sound number file d complete there honest_now =
      let own = (shaped.each number file complete.state complete.listed complete.here).has_tree complete.some in
      let is : own.0 ≡ complete.tree = same_some own.1 complete.has_tree in
      let size : complete.tree.file_length ≡ file.length = ap (λ k. k.file_length) (sym is) ∙ own.3 in
      let root : complete.tree.root ≡ file.root = ap (λ k. k.root) (sym is) ∙ own.2 in
      published dig tell size root
      (stand s.state s.disks number complete.state complete.tree d rooted sound (record { here = complete.here; has_tree = complete.has_tree }) (rw size complete.some)
      (λ i lt. complete.marked i (rw (← size) lt)) there honest_now)
