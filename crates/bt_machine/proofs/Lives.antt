-- What a flush kept stands over all lives after it.
use Rattle.bt_machine.proofs.Base.{[], ◌≡◌, ℕ, ◌+◌, ◌*◌, ◌≤◌, inl, inr, List, ◌∷◌, length, flat_map, Option, Some, Result, Ok, Err, sym, ap, ◌∙◌, subst, arith, slice_get, Contains, ⊤, option_and_then, IsRight, BlockRead, given, block_of, call_of, Marked, BlockId, File, Facts, Call, AdoptMarksByBytes, CallsKeepBytes, IsImage, History, Metainfo}
use Rattle.std.specs.Prelude.{MatchResult}
use Rattle.bt_tree.specs.Limits.{digest_length}
use Rattle.bt_disk.specs.Conduct.{Conduct}
use Rattle.bt_disk.specs.State.{State}
use Rattle.bt_disk.specs.History.{moment_of, LeftBefore, LeftSince}
use Rattle.bt_disk.specs.Calls.{IsRead}
use Rattle.bt_disk.specs.Law.{KeptFromNow}
use Rattle.bt_resume.specs.LogText.{LogText, hints_in, IsText, GoesOn}
use Rattle.bt_resume.specs.ResumeLog.{LogView, IsAttached}
use Rattle.bt_resume.specs.declared.error.LogError.{LogError}
use Rattle.bt_resume.specs.Law.{Begin, KeepsText, KeepsFirst, IsTextKeptSince, IsNotOfBytes, HintsComeFirst, KeptDevicesOpen, AttachKeeps, AttachStands, ReloadStands, AppendStands, FlushStands, FlushedStand, AppendHolds, FlushHolds, ReloadHolds}
use Rattle.bt_machine.specs.State.{FileState, EngineState, EngineView}
use Rattle.bt_machine.specs.Blocks.{state_at, tree_of}
use Rattle.bt_machine.specs.Crash.{IsBlockKept}
use Rattle.bt_machine.specs.Devices.{calls_of}
use Rattle.bt_machine.specs.Opening.{unopened, BeginsOn}
use Rattle.bt_machine.specs.Shape.{IsShaped}
use Rattle.bt_machine.specs.Stored.{stored_block}
use Rattle.bt_machine.specs.Backing.{RunsAreBacked}
use Rattle.bt_machine.specs.Reopening.{NoneFailed, RestartsReadAll, IsLogLeft, FlushedLogsAreKept}
use Rattle.bt_machine.specs.Lives.{SyncedIsSettled, IsSettled, IsLife, Lives, own, further, refused, ReadAll, FlushedBlocksAreMarkedAgain, FlushedBlocksAreKept, FlushedLogsOpen}
use Rattle.bt_machine.specs.LogCalls.{AreLogCalls}
use Rattle.bt_machine.proofs.Machine.{Digest}
use Rattle.bt_machine.proofs.Lists.{and_then_some, get_some, some_below, same_some}
use Rattle.bt_machine.proofs.Reading.{reads_same, none_failed, files_read, device_after, devices_run, block_read}
use Rattle.bt_machine.proofs.Recovered.{recovered_state}
use Rattle.bt_machine.proofs.Reopening.{marked_again, not_empty}
use Rattle.bt_machine.proofs.Backing.{begins_of, log_of, Opened, opened_by}
use Rattle.bt_machine.proofs.LogCalls.{infohash_stays, calls_stand, logs_are}
use Rattle.bt_machine.proofs.Shape.{shape_at_first}
use Rattle.bt_machine.proofs.Survival.{block_stands, synced_image}
use Rattle.bt_machine.proofs.Sound.{of_all, start_sound}
use Rattle.bt_machine.proofs.Unmarks.{device_before}
use Rattle.bt_machine.proofs.OverRestarts.{same_device, StaysMarked, kept_over}
use Rattle.bt_machine.proofs.Durable.{KeptFor, own_devices, own_kept}

-- ---- images since now

none_before : (past : List State) (t : ℕ) (image : List ℕ) → length past ≤ t → LeftBefore past t image → ⊥
none_before [] t image le left = absurd left
none_before (s ∷ past) t image le left = elim left [
  | inl at ↦ (let from = at.0 in omega (arith, le, from))
  | inr before ↦ none_before past t image (omega (arith, le)) before
]

left_now : (h : History) (image : List ℕ) → LeftSince h (moment_of h) image → IsImage h.now image
left_now h image left = elim left [ inl now ↦ now | inr before ↦ absurd (none_before h.past (length h.past) image (omega arith) before) ]

pub synced_settled : {D : Type 0} (conduct : Conduct D) → SyncedIsSettled conduct
synced_settled conduct d bytes is image left =
    synced_image bytes image (subst (λ s. IsImage s image) is left) ∙ sym (ap (λ (s : State). s.bytes) is)

-- ---- a file that has a block

record HasTree (torrent : Metainfo) (s : EngineState) (b : BlockId) : Type 0 where
  file : File
  listed : slice_get torrent.files b.file ≡ Some file
  state : FileState
  here : slice_get s.files b.file ≡ Some state
  marked : slice_get state.states b.block ≡ Some Marked
  tree : Facts
  is_tree : slice_get s.trees state.tree ≡ Some tree
  long : tree.file_length ≡ file.length

tree_by : {torrent : Metainfo} {s : EngineState} (b : BlockId) → IsShaped torrent s → state_at s b ≡ Some Marked → HasTree torrent s b
tree_by {torrent} {s} b shaped marked =
    let m = and_then_some (λ (q : FileState). slice_get q.states b.block) (slice_get s.files b.file) marked in
    let listed = get_some torrent.files b.file (omega (arith, some_below s.files b.file m.1, shaped.count)) in
    let shape = shaped.each b.file listed.0 m.0 listed.1 m.1 in
    let tree = shape.has_tree (not_empty listed.0.length b.block (omega (arith, some_below m.0.states b.block m.2, shape.blocks))) in
    record { file = listed.0; listed = listed.1; state = m.0; here = m.1; marked = m.2; tree = tree.0; is_tree = tree.1; long = tree.3 }

module _ {D : Type 0} (conduct : Conduct D) (dig : Digest) where
  -- of a device on which nothing waits each image since now is what a read gives
  settled_since : (d : D) → IsSettled conduct d → (image : List ℕ) → LeftSince (conduct.history d) (moment_of (conduct.history d)) image
      → image ≡ (conduct.history d).now.bytes
  settled_since d settled image left = settled image (left_now (conduct.history d) image left)

  -- ---- the log

  -- what every stop since a moment leaves of the log begins with a text
  record KeptLog (torrent : Metainfo) (log_since log_now : D) : Type 0 where
    text : LogText
    lawful : IsText text
    whole : length torrent.infohash ≡ digest_length
    since : IsTextKeptSince (conduct.history log_now) (moment_of (conduct.history log_since)) torrent.infohash text

  module _ (torrent : Metainfo) {log_since log_now log_left : D} (text : LogText) (lawful : IsText text) (whole : length torrent.infohash ≡ digest_length)
      (is : IsLogLeft conduct log_since log_now log_left) (settled : IsSettled conduct log_left)
      (since : IsTextKeptSince (conduct.history log_now) (moment_of (conduct.history log_since)) torrent.infohash text) where
    log_begins : IsTextKeptSince (conduct.history log_left) (moment_of (conduct.history log_left)) torrent.infohash text
    log_begins image left =
        subst (KeepsText torrent.infohash text) (sym (settled_since log_left settled image left)) (since (conduct.history log_left).now.bytes is.image)

    module _ (attach_stands : AttachStands conduct) {left : List (Option D)} {last : EngineView D} {stopped : LogView D}
        (life : IsLife conduct dig torrent left log_left last stopped) where
      log_first : KeepsFirst conduct (moment_of (conduct.history log_left)) text life.opened
      log_first = attach_stands torrent.infohash log_left life.opened (moment_of (conduct.history log_left)) text whole lawful is.is_honest log_begins life.attached

      life_calls : AreLogCalls conduct life.opened (flat_map (λ c. c.log) life.run.calls) stopped
      life_calls =
          logs_are conduct life.first.log last.log (flat_map (λ c. c.log) life.run.calls) (log_of conduct dig life.begins) life.stopped_is life.run.logged

      log_lives : ReloadStands conduct → AppendStands conduct → FlushStands conduct → conduct.honest stopped.disk
          → IsTextKeptSince (conduct.history stopped.disk) (moment_of (conduct.history log_left)) torrent.infohash text
      log_lives reload_stands append_stands flush_stands h =
          let stands = calls_stand conduct reload_stands append_stands flush_stands (moment_of (conduct.history log_left)) text life.opened
          (flat_map (λ c. c.log) life.run.calls) stopped h life_calls log_first in
          let hash = infohash_stays conduct life.opened (flat_map (λ c. c.log) life.run.calls) stopped life_calls
          ∙ ap (λ (l : LogView D). l.infohash) life.attached.log_is in
          subst (λ infohash. IsTextKeptSince (conduct.history stopped.disk) (moment_of (conduct.history log_left)) infohash text) hash stands.since

  log_after : AttachStands conduct → AttachKeeps conduct → ReloadStands conduct → AppendStands conduct → FlushStands conduct → FlushedLogsAreKept conduct dig
      → {torrent : Metainfo} {flushed : EngineView D} {since now : List (Option D)} {log_since log_now : D}
      → Lives conduct dig torrent flushed since now log_since log_now → conduct.honest log_now → KeptLog torrent log_since log_now
  log_after attach keeps reload append flush kept {torrent} {flushed} (own last synced stopped r) h =
      let k = kept torrent flushed last synced stopped r h in
      record { text = k.text; lawful = k.holds.text_is.lawful; whole = r.whole; since = k.kept }
  log_after attach keeps reload append flush kept {torrent} (further since now left log_since log_now log_left last stopped before is settled life) h =
      let k = log_after attach keeps reload append flush kept before is.was_honest in
      record {
        text = k.text;
        lawful = k.lawful;
        whole = k.whole;
        since = log_lives torrent k.text k.lawful k.whole is settled k.since attach life reload append flush h;
      }
  log_after attach keeps reload append flush kept {torrent} (refused since now left log_since log_now log_left new result before is settled opens) h =
      let k = log_after attach keeps reload append flush kept before is.was_honest in
      record {
        text = k.text;
        lawful = k.lawful;
        whole = k.whole;
        since = keeps torrent.infohash torrent.infohash log_left new result (moment_of (conduct.history log_left)) k.text k.whole is.is_honest opens
            (log_begins torrent k.text k.lawful k.whole is settled k.since);
      }

  not_of_bytes : (text : LogText) (result : Result LogText LogError) → MatchResult result (GoesOn text) IsNotOfBytes → MatchResult result (λ _. ⊤) IsNotOfBytes
  not_of_bytes text (Ok all) goes_on = tt
  not_of_bytes text (Err cause) not = not

  pub logs_open : AttachStands conduct → AttachKeeps conduct → ReloadStands conduct → AppendStands conduct → FlushStands conduct → FlushedLogsAreKept conduct dig
      → KeptDevicesOpen conduct → FlushedLogsOpen conduct dig
  logs_open attach keeps reload append flush kept opens torrent flushed since now log_since log_now left new result lives is opening =
      let k = log_after attach keeps reload append flush kept lives is.was_honest in
      not_of_bytes k.text result (opens torrent.infohash left new result k.text k.whole k.lawful is.is_honest (k.since (conduct.history left).now.bytes is.image) opening)

  -- ---- opened again

  -- each read of a block that is right on the device gives its right bytes
  reads_right : {torrent : Metainfo} {left : List (Option D)} {opened : LogView D} {again : EngineView D} (b : BlockId) (k : Facts) (d : D)
      → NoneFailed conduct left again.disks
      → slice_get left b.file ≡ Some (Some d) → conduct.honest d → IsRight dig k b.block (stored_block k.file_length (conduct.history d).now.bytes b.block)
      → (o : Opened conduct dig torrent left opened again) (read : BlockRead) → block_of read ≡ b.block
      → Contains o.calls (b.file, call_of k.file_length read) → (bytes : List ℕ) × (read ≡ given b.block bytes) × IsRight dig k b.block bytes
  reads_right {left = left} {opened = opened} {again = again} b k d fine at h right o read same among =
      let there = device_after conduct left again.disks o.calls b.file o.have at in
      let none = fine.none b.file d there.0 at there.1 in
      let all : (c : Call) → Contains (calls_of b.file o.calls) c → IsRead c =
      λ c inside. files_read dig opened.hints _ _ again.state o.calls o.recovers.restores b.file c (of_all o.calls inside) in
      let r = block_read conduct o.calls b.file k.file_length b.block read h (none_failed conduct o.calls b.file none.0 none.1 there.2) there.2 all same among in
      (r.0, r.1, subst (IsRight dig k b.block) (sym r.2) right)

  -- the device of a block after the reads of a start is as it was left
  same_history : {torrent : Metainfo} {left : List (Option D)} {opened : LogView D} {again : EngineView D} (o : Opened conduct dig torrent left opened again)
      (file : ℕ) (x y : D) → conduct.honest x → slice_get left file ≡ Some (Some x) → slice_get again.disks file ≡ Some (Some y)
      → conduct.history y ≡ conduct.history x
  same_history {left = left} {opened = opened} {again = again} o file x y h at there =
      let after = device_after conduct left again.disks o.calls file o.have at in
      ap conduct.history (same_device there after.1)
      ∙ reads_same (calls_of file o.calls) (conduct.history x) (conduct.history after.0)
      (λ c inside. files_read dig opened.hints _ _ again.state o.calls o.recovers.restores file c (of_all o.calls inside)) (after.2.answered h)

  module _ {torrent : Metainfo} {flushed : EngineState} {b : BlockId} {was now log_since log_now : D}
      (f : KeptFor conduct dig torrent flushed b was now log_since log_now) where
    -- what a stop has left of its device has its bytes
    left_bytes : (image : List ℕ) → LeftSince (conduct.history now) (moment_of (conduct.history was)) image → stored_block f.tree.file_length image b.block ≡ f.bytes
    left_bytes image left =
        block_stands f.tree.file_length b.block f.bytes image f.was_flushed.right.whole (λ j byte inside. f.kept j byte inside image left)

    left_right : (image : List ℕ) → LeftSince (conduct.history now) (moment_of (conduct.history was)) image
        → IsRight dig f.tree b.block (stored_block f.tree.file_length image b.block)
    left_right image left = subst (IsRight dig f.tree b.block) (sym (left_bytes image left)) f.was_flushed.right

    module _ (opens : KeptDevicesOpen conduct) (come_first : HintsComeFirst) {left : List (Option D)} {log_left : D} {opened : LogView D} {again : EngineView D}
        (is : IsLogLeft conduct log_since log_now log_left) (attached : IsAttached conduct torrent.infohash log_left opened)
        (begins : BeginsOn conduct dig torrent left (Some opened) again) (fine : NoneFailed conduct left again.disks) (x : D)
        (at : slice_get left b.file ≡ Some (Some x)) (honest_x : conduct.honest x)
        (left_x : LeftSince (conduct.history now) (moment_of (conduct.history was)) (conduct.history x).now.bytes) where
      marks_again : state_at again.state b ≡ Some Marked
      marks_again =
          let goes_on = opens torrent.infohash log_left opened.disk (Ok attached.text) f.text f.whole f.lawful is.is_honest
          (f.log (conduct.history log_left).now.bytes is.image) attached.opens in
          let first = come_first f.text attached.text goes_on in
          let hints : Begin (hints_in f.text) opened.hints = (first.0, ap (λ (l : LogView D). l.hints) attached.log_is ∙ first.1) in
          let right = left_right (conduct.history x).now.bytes left_x in
          let o = opened_by conduct dig begins in
          marked_again dig flushed (unopened torrent) again.state (hints_in f.text) opened.hints o.calls b f.tree
          (dig (stored_block f.tree.file_length (conduct.history x).now.bytes b.block)) f.was_flushed.backed f.was_flushed.shaped (sym f.same) hints o.recovers
          f.was_flushed.marked f.was_flushed.has_tree right.leaf (reads_right b f.tree x fine at honest_x right o)

      -- and so it stays
      stays : StaysMarked conduct dig flushed again.state b f.tree
      stays =
          let shaped = shape_at_first dig (begins_of conduct dig begins) in
          let here = tree_by b shaped marks_again in
          let then = tree_by b (subst (λ t. IsShaped t flushed) f.same f.was_flushed.shaped) f.was_flushed.marked in
          let file : here.file ≡ then.file = same_some here.listed then.listed in
          let tree : f.tree ≡ then.tree = same_some f.was_flushed.has_tree (tree_is then) in
          record {
            torrent = shaped.same ∙ sym f.same;
            logged = (recovered_state dig (opened_by conduct dig begins).recovers).0;
            file = here.state;
            tree = here.tree;
            is_file = record { here = here.here; has_tree = here.is_tree };
            marked = here.marked;
            long = here.long ∙ ap (λ (z : File). z.length) file ∙ sym then.long ∙ ap (λ (z : Facts). z.file_length) (sym tree);
          }
        where
          tree_is : (t : HasTree torrent flushed b) → tree_of flushed b.file ≡ Some t.tree
          tree_is t = ap (option_and_then (λ (q : FileState). slice_get flushed.trees q.tree)) t.here ∙ t.is_tree

    -- where nothing waits on its device, every image since then has its bytes
    left_kept : (x : D) → IsSettled conduct x → LeftSince (conduct.history now) (moment_of (conduct.history was)) (conduct.history x).now.bytes
        → IsBlockKept (conduct.history x) (moment_of (conduct.history x)) b.block f.bytes
    left_kept x settled left_x j byte inside image left =
        subst (λ (bytes : List ℕ). slice_get bytes (16384 * b.block + j) ≡ Some byte) (sym (settled_since x settled image left))
        (f.kept j byte inside (conduct.history x).now.bytes left_x)

  module _ (attach_stands : AttachStands conduct) (attach_keeps : AttachKeeps conduct) (reload_stands : ReloadStands conduct) (append_stands : AppendStands conduct)
      (flush_stands : FlushStands conduct) (flushed_stand : FlushedStand conduct) (append : AppendHolds conduct)
      (flush : FlushHolds conduct) (reload : ReloadHolds conduct) (come_first : HintsComeFirst) (marks : AdoptMarksByBytes dig)
      (calls_keep : CallsKeepBytes) (kept_from_now : KeptFromNow) (reads : (d : D) → conduct.honest d → IsImage (conduct.history d).now (conduct.history d).now.bytes)
      (runs_backed : RunsAreBacked conduct dig) (opens : KeptDevicesOpen conduct) where
    -- over one further life
    next_kept : {torrent : Metainfo} {flushed : EngineState} {b : BlockId} {was now log_since log_now : D} → (f : KeptFor conduct dig torrent flushed b was now log_since log_now)
        → {left : List (Option D)} {log_left : D} {last : EngineView D} {stopped : LogView D} → IsLogLeft conduct log_since log_now log_left → IsSettled conduct log_left
        → (life : IsLife conduct dig torrent left log_left last stopped) → NoneFailed conduct left life.first.disks → RestartsReadAll life.events life.run.calls
        → conduct.honest stopped.disk → (x e : D) → slice_get left b.file ≡ Some (Some x) → conduct.honest x → IsSettled conduct x
        → LeftSince (conduct.history now) (moment_of (conduct.history was)) (conduct.history x).now.bytes → slice_get last.disks b.file ≡ Some (Some e)
        → conduct.honest e → KeptFor conduct dig torrent flushed b x e log_left stopped.disk
    next_kept {torrent} {flushed} {b} f {left} {log_left} {last} {stopped} is log_settled life fine all_read h x e at honest_x settled left_x there honest_e =
        let o = opened_by conduct dig life.begins in
        let y = device_before conduct dig life.first.state last.state life.events life.run.calls life.answers life.first.disks last.disks b.file life.run.run there honest_e in
        let same = same_history o b.file x y.0 honest_x at y.1 in
        let kept = subst (λ z. IsBlockKept z (moment_of (conduct.history x)) b.block f.bytes) (sym same) (left_kept f x settled left_x) in
        record {
          tree = f.tree;
          bytes = f.bytes;
          text = f.text;
          was_flushed = f.was_flushed;
          same = f.same;
          lawful = f.lawful;
          whole = f.whole;
          kept = kept_over conduct dig marks calls_keep reads reload_stands append_stands flush_stands reload come_first flushed b f.tree f.bytes f.text
              (moment_of (conduct.history x)) (moment_of (conduct.history log_left)) life.events life.run.calls life.answers life.first.state last.state
              life.first.disks last.disks life.opened stopped y.0 e f.was_flushed (stays f opens come_first is life.attached life.begins fine x at honest_x left_x) life.run.run
              (life_calls torrent f.text f.lawful f.whole is log_settled f.log attach_stands life) h (log_first torrent f.text f.lawful f.whole is log_settled f.log attach_stands life)
              (start_sound conduct dig torrent left (Some life.opened) life.first life.begins) y.1 there honest_e all_read kept;
          log = log_lives torrent f.text f.lawful f.whole is log_settled f.log attach_stands life reload_stands append_stands flush_stands h;
        }

    -- the block has a device as the present life began and now
    abbrev Devices : (since now : List (Option D)) → BlockId → Type 0
    Devices since now b = (d : D) × (e : D) × (slice_get since b.file ≡ Some (Some d)) × (slice_get now b.file ≡ Some (Some e))

    devices_of : {torrent : Metainfo} {flushed : EngineView D} {since now : List (Option D)} {log_since log_now : D} (b : BlockId)
        → (lives : Lives conduct dig torrent flushed since now log_since log_now) → ReadAll lives → conduct.honest log_now
        → state_at flushed.state b ≡ Some Marked → Devices since now b
    devices_of {torrent} {flushed} b (own last synced stopped r) all h marked =
        own_devices conduct dig reload_stands append_stands flush_stands flushed_stand append flush reload come_first marks calls_keep kept_from_now reads runs_backed
        torrent flushed last synced stopped r h b marked
    devices_of b (further since now left log_since log_now log_left last stopped before is settled life) all h marked =
        let d = devices_of b before all.0 is.was_honest marked in
        let x = all.1 b.file d.0 d.1 d.2 d.3 in
        let y = device_after conduct left life.first.disks (opened_by conduct dig life.begins).calls b.file (opened_by conduct dig life.begins).have x.1 in
        let e = devices_run conduct dig life.events life.run.calls life.answers life.first.state last.state life.first.disks last.disks b.file life.run.run y.1 in
        (x.0, e.0, x.1, e.1)
    devices_of b (refused since now left log_since log_now log_left new result before is settled opening) all h marked =
        let d = devices_of b before all.0 is.was_honest marked in
        let x = all.1 b.file d.0 d.1 d.2 d.3 in
        (x.0, x.0, x.1, x.1)

    kept_for : {torrent : Metainfo} {flushed : EngineView D} {since now : List (Option D)} {log_since log_now : D} (b : BlockId)
        → (lives : Lives conduct dig torrent flushed since now log_since log_now) → ReadAll lives → conduct.honest log_now
        → state_at flushed.state b ≡ Some Marked → (d e : D) → slice_get since b.file ≡ Some (Some d) → slice_get now b.file ≡ Some (Some e)
        → conduct.honest e → KeptFor conduct dig torrent flushed.state b d e log_since log_now
    kept_for {torrent} {flushed} b (own last synced stopped r) all h marked d e there there_now honest_now =
        own_kept conduct dig reload_stands append_stands flush_stands flushed_stand append flush reload come_first marks calls_keep kept_from_now reads runs_backed
        torrent flushed last synced stopped r h b marked all.0 all.1 d e there there_now honest_now
    kept_for {torrent} {flushed} b (further since now left log_since log_now log_left last stopped before is settled life) all h marked d e there there_now honest_now =
        let w = devices_of b before all.0 is.was_honest marked in
        let x = all.1 b.file w.0 w.1 w.2 w.3 in
        let f = kept_for b before all.0 is.was_honest marked w.0 w.1 w.2 w.3 x.2 in
        let k = next_kept f is settled life all.3 all.4 h x.0 e x.1 x.3 (all.2 b.file x.0 x.1) x.4 there_now honest_now in
        subst (λ z. KeptFor conduct dig torrent flushed.state b z e log_left stopped.disk) (same_device x.1 there) k
    kept_for {torrent} {flushed} b (refused since now left log_since log_now log_left new result before is settled opening) all h marked d e there there_now honest_now =
        let w = devices_of b before all.0 is.was_honest marked in
        let x = all.1 b.file w.0 w.1 w.2 w.3 in
        let f = kept_for b before all.0 is.was_honest marked w.0 w.1 w.2 w.3 x.2 in
        let k : KeptFor conduct dig torrent flushed.state b x.0 x.0 log_left new = record {
          tree = f.tree;
          bytes = f.bytes;
          text = f.text;
          was_flushed = f.was_flushed;
          same = f.same;
          lawful = f.lawful;
          whole = f.whole;
          kept = left_kept f x.0 (all.2 b.file x.0 x.1) x.4;
          log = attach_keeps torrent.infohash torrent.infohash log_left new result (moment_of (conduct.history log_left)) f.text f.whole is.is_honest opening
              (log_begins torrent f.text f.lawful f.whole is settled f.log);
        } in
        subst (λ z. KeptFor conduct dig torrent flushed.state b z e log_left new) (same_device x.1 there)
        (subst (λ z. KeptFor conduct dig torrent flushed.state b x.0 z log_left new) (same_device x.1 there_now) k)

    -- ---- both laws

    pub blocks_kept : FlushedBlocksAreKept conduct dig
    blocks_kept torrent flushed since now log_since log_now b k d e lives all h has_tree marked there there_now honest_now =
        let f = kept_for b lives all h marked d e there there_now honest_now in
        subst (λ (tree : Facts). (image : List ℕ) → LeftSince (conduct.history e) (moment_of (conduct.history d)) image
        → IsRight dig tree b.block (stored_block tree.file_length image b.block)) (same_some f.was_flushed.has_tree has_tree) (left_right f)

    pub blocks_marked : FlushedBlocksAreMarkedAgain conduct dig
    blocks_marked torrent flushed since now left log_since log_now log_left opened again b lives all are_left is attached begins fine marked =
        let w = devices_of b lives all is.was_honest marked in
        let x = are_left b.file w.0 w.1 w.2 w.3 in
        let f = kept_for b lives all is.was_honest marked w.0 w.1 w.2 w.3 x.2 in
        marks_again f opens come_first is attached begins fine x.0 x.1 x.3 x.4
