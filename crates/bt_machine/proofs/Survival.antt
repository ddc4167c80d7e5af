-- What a crash leaves once a flush answered Ok.
use Rattle.std.proofs.lemmas.List.{ext_get_or}
use Rattle.std.proofs.lemmas.Option.{slice_get_within, get_or_from_slice_get, slice_get-get_or}
use Rattle.bt_disk.specs.State.{synced_state}
use Rattle.bt_disk.specs.Conduct.{Conduct}
use Rattle.bt_disk.specs.History.{moment_of, after_sync}
use Rattle.bt_disk.specs.Calls.{IsAnswered}
use Rattle.bt_machine.proofs.Base.{[], ◌≡◌, ℕ, ◌+◌, ◌-◌, ◌*◌, ◌<◌, Bool, true, false, not, inl, inr, List, ◌∷◌, length, get_or, Some, Ok, refl, sym, ap, ◌∙◌, subst, arith, slice_get, Contains, ◌==◌, cases_lt, eqb-true, same_number_lists, block_length, CallsKeepBytes, KeptFromNow, AdoptMarksByBytes, IsImage, History, Call, sync_made, AreAnswered, Facts, IsRight, BlockState, Marked, option_map_or}
use Rattle.bt_machine.proofs.Machine.{Digest, Flush, FileState, EngineState, EventCalls, calls_of, state_at, block_id, file_numbers, IsFile, StepFlush, syncs, writes, fails, unwritten, unflushed, syncs_of, data_files, Flushed, stored_block}
use Rattle.bt_machine.specs.Blocks.{states_of}
use Rattle.bt_machine.specs.Crash.{IsBlockKept}
use Rattle.bt_machine.specs.Survival.{RunKeepsImages, FlushKeepsBlocks, RunsKeepFlushedBlocks}
use Rattle.bt_machine.proofs.Laws.{FlushedBlocksSurvive}
use Rattle.bt_machine.proofs.Lists.{contains_none, contains_map, map_contains, here, later, some_below, range_contains, and_then_some, filter_contains}
use Rattle.bt_machine.proofs.Marks.{state_is}
use Rattle.bt_machine.proofs.Shape.{Keeps, step_keeps}
use Rattle.bt_machine.proofs.Stored.{length_at, index_at}
use Rattle.bt_machine.proofs.Sound.{of_all, among_file, start_sound, step_sound, run_sound}
use Rattle.bt_machine.proofs.Unmarks.{first_is, others_are, marks_kept, device_before}
use Rattle.bt_machine.proofs.Crash.{images_kept}

-- ---- bytes of a block

-- a byte of a block that stands in these bytes is the byte there
stands_in : (n xs i j : _) {byte : ℕ} → slice_get (stored_block n xs i) j ≡ Some byte → slice_get xs (16384 * i + j) ≡ Some byte
stands_in n xs i j {byte} at =
    let below : j < length (stored_block n xs i) = slice_get_within _ j byte at in
    let size = length_at n xs i in
    slice_get-get_or xs (16384 * i + j) 0 (omega arith)
    ∙ ap (λ x. Some x) (sym (index_at n xs i j (omega arith)) ∙ get_or_from_slice_get _ j byte 0 at)

-- where each of its bytes stands there, the block does
pub block_stands : (n i bytes image : _) → length bytes ≡ block_length n i
    → ((j byte : ℕ) → slice_get bytes j ≡ Some byte → slice_get image (16384 * i + j) ≡ Some byte) → stored_block n image i ≡ bytes
block_stands n i bytes image size each =
    let at : (j : ℕ) → j < length bytes → slice_get image (16384 * i + j) ≡ Some (get_or bytes j 0) = λ j lt. each j _ (slice_get-get_or bytes j 0 lt) in
    let long : length (stored_block n image i) ≡ length bytes = elim (cases_lt 0 (length bytes)) [
      | inl some ↦
          let last : 16384 * i + (length bytes - 1) < length image = slice_get_within image (16384 * i + (length bytes - 1)) _ (at (length bytes - 1) (omega arith)) in
          let whole = length_at n image i in
          omega arith
      | inr none ↦ let whole = length_at n image i in omega arith
    ] in
    same_number_lists (stored_block n image i) bytes long
    (λ j lt. index_at n image i j (omega arith) ∙ get_or_from_slice_get image (16384 * i + j) _ 0 (at j (omega arith)))

-- ---- syncs

-- where all is on the medium, a crash leaves what a read gives
pub synced_image : (bytes image : List ℕ) → IsImage (synced_state bytes) image → image ≡ bytes
synced_image bytes image left =
    ext_get_or 0 image bytes (omega (arith, left.no_shorter, left.no_longer))
    (λ i lt. left.kept i (omega (arith, left.no_longer)) (λ k d none. absurd (omega arith)))

-- after syncs that succeeded, all is on the medium
synced : (old new : History) (call : Call) (calls : _) → ((c : Call) → Contains (call ∷ calls) c → c ≡ sync_made)
    → AreAnswered old (call ∷ calls) new → new.now ≡ synced_state new.now.bytes
synced old new call [] are a =
    let one : a.0 ≡ after_sync old = subst (λ c. IsAnswered old c a.0) (are call (here [] refl)) a.1 in
    let same : new ≡ after_sync old = a.2 ∙ one in
    rw same refl
synced old new call (next ∷ calls) are a = synced a.0 new next calls (λ c among. are c (later call (next ∷ calls) among)) a.2

some_synced : (old new : History) (calls : List Call) → Contains calls sync_made → ((c : Call) → Contains calls c → c ≡ sync_made)
    → AreAnswered old calls new → new.now ≡ synced_state new.now.bytes
some_synced old new [] among are a = absurd (contains_none among)
some_synced old new (call ∷ calls) among are a = synced old new call calls are a

flush_ok : {r : _} → Flushed (Ok tt) ≡ Flushed r → r ≡ Ok tt
flush_ok e = cc

record IsFlushed (s : EngineState) (calls : EventCalls) (new : EngineState) : Type 0 where
  made : calls.devices ≡ syncs_of (data_files s)
  files : new.files ≡ s.files
  trees : new.trees ≡ s.trees

flushed : {s calls answer new : _} → StepFlush s calls answer new → answer ≡ Ok tt → IsFlushed s calls new
flushed (syncs none made is e) ok = record { made = ap (λ c. c.devices) made; files = ap (λ z. z.files) e; trees = ap (λ z. z.trees) e }
flushed (writes logged made is e) ok = record { made = ap (λ c. c.devices) made; files = ap (λ z. z.files) e; trees = ap (λ z. z.trees) e }
flushed (fails before file after x y is same) ok = absurd cc
flushed (unwritten before hint after cause x y z is same) ok = absurd cc
flushed (unflushed x y is same) ok = absurd cc

-- a file with a block has a device
pub has_device : (s : EngineState) (file i : ℕ) {f : FileState} → slice_get s.files file ≡ Some f → slice_get f.states i ≡ Some Marked
    → Contains (data_files s) file
has_device s file i {f} at marked =
    let below = some_below s.files file at in
    let some = some_below f.states i marked in
    let are : states_of s file ≡ f.states = ap (λ o. option_map_or (λ (g : FileState). g.states) o []) at in
    filter_contains (λ n. not (length (states_of s n) == 0)) (file_numbers s) (range_contains (length s.files) below) (subst (λ (l : List BlockState). not (length l == 0) ≡ true) (sym are) (not_none (length f.states) some))
  where
    not_none : (n : ℕ) → i < n → not (n == 0) ≡ true
    not_none n lt = by _ refl
      where
        by : (t : Bool) → (n == 0) ≡ t → not (n == 0) ≡ true
        by false e = rw e refl
        by true e = let none : n ≡ 0 = eqb-true n 0 e in absurd (omega arith)

only_syncs : (files file : _) {c : Call} → Contains (syncs_of files) (file, c) → c ≡ sync_made
only_syncs files file among = let m = contains_map (λ file. (file, sync_made)) files among in ap (λ x. x.1) (sym m.2)

module _ {D : Type 0} (conduct : Conduct D) (dig : Digest) (kept_from_now : KeptFromNow) where
  pub flush_kept : FlushKeepsBlocks conduct dig
  flush_kept old new calls disks after file i f k e step have is marked there honest_now j byte at =
      let f_is = flushed step.2 (flush_ok step.1) in
      let old_here : slice_get old.files file ≡ Some f = ap (λ l. slice_get l file) (sym f_is.files) ∙ is.here in
      let among : Contains calls.devices (file, sync_made) = rw f_is.made (map_contains (λ n. (n, sync_made)) (data_files old) (has_device old file i old_here marked)) in
      let d = have.each file e there in
      let are : (c : Call) → Contains (calls_of file calls.devices) c → c ≡ sync_made = λ c one. only_syncs (data_files old) file (subst (λ cs. Contains cs (file, c)) f_is.made (of_all calls.devices one)) in
      let medium = some_synced _ _ _ (among_file calls.devices among) are (d.2.answered (d.2.as_honest.1 honest_now)) in
      kept_from_now (conduct.history e) (16384 * i + j) byte (λ image left.
      rw (synced_image (conduct.history e).now.bytes image (subst (λ s. IsImage s image) medium left)) (stands_in k.file_length (conduct.history e).now.bytes i j at))

-- ---- lists of events

record KeepsPeer (mid : EngineState) (file i : ℕ) (k : Facts) : Type 0 where
  state : FileState
  tree : Facts
  is_file : IsFile mid file state tree
  marked : slice_get state.states i ≡ Some Marked
  same_length : tree.file_length ≡ k.file_length

goes_on : {old mid : EngineState} (file i : ℕ) {f : FileState} {k : Facts} → Keeps old mid → IsFile old file f k
    → state_at mid (block_id file i) ≡ Some Marked → KeepsPeer mid file i k
goes_on file i {f} {k} keeps is marked =
    let g = and_then_some (λ (q : FileState). slice_get q.states i) _ marked in
    let before = keeps.files file g.0 g.1 in
    let same : before.before ≡ f = cc in
    let tree = keeps.trees f.tree k is.has_tree in
    record {
      state = g.0;
      tree = tree.after;
      is_file = record { here = g.1; has_tree = cc };
      marked = g.2;
      same_length = tree.length;
    }

module _ {D : Type 0} (conduct : Conduct D) (dig : Digest) (marks : AdoptMarksByBytes dig) (calls_keep : CallsKeepBytes) (reads : (d : D) → conduct.honest d → IsImage (conduct.history d).now (conduct.history d).now.bytes) where
  pub images_run : RunKeepsImages conduct dig
  images_run old new [] [] [] disks after file i t f k bytes e none run sound is marked size there honest_now kept =
      kept e (ap (λ l. slice_get l file) (sym run.1) ∙ there)
  images_run old new (x ∷ xs) (c ∷ calls) (a ∷ answers) disks after file i t f k bytes e none run sound is marked size there honest_now kept =
      let mid = device_before conduct dig run.0 new xs calls answers run.1 after file run.4 there honest_now in
      let marked_now = state_is old (block_id file i) is.here marked in
      let still = marks_kept conduct dig old run.0 x c a disks run.1 (block_id file i) mid.0 (first_is x xs none) run.2 run.3 sound mid.1 mid.2 marked_now in
      let then = goes_on file i (step_keeps dig x c a (first_is x xs none) run.2) is still in
      let one : (d : D) → slice_get run.1 file ≡ Some (Some d) → IsBlockKept (conduct.history d) t i bytes = λ d at.
      (let same : d ≡ mid.0 = cc in
      images_kept conduct dig calls_keep reads old run.0 x c a disks run.1 file i t f k bytes d run.2 run.3 is (λ gone. absurd cc) size at (rw same mid.2) kept) in
      images_run run.0 new xs calls answers run.1 after file i t then.state then.tree bytes e (others_are x xs none) run.4
      (step_sound conduct dig marks old run.0 x c a disks run.1 run.2 run.3 sound) then.is_file then.marked (size ∙ ap (λ n. block_length n i) (sym then.same_length)) there honest_now one
  images_run old new _ _ _ disks after file i t f k bytes e none run sound is marked size there honest_now kept = absurd run

  pub flushed_survive : KeptFromNow → FlushedBlocksSurvive conduct dig
  flushed_survive kept_from_now old mid new made events calls answers disks flushed_disks after file i f k d e sound none step have run is marked there_then there honest_now image left =
      let back = device_before conduct dig mid new events calls answers flushed_disks after file run there honest_now in
      let same : d ≡ back.0 = cc in
      let honest_then : conduct.honest d = rw same back.2 in
      let f_is = flushed step.2 (flush_ok step.1) in
      let is_then : IsFile mid file f k = record { here = ap (λ l. slice_get l file) f_is.files ∙ is.here; has_tree = ap (λ l. slice_get l f.tree) f_is.trees ∙ is.has_tree } in
      let sound_then = step_sound conduct dig marks old mid Flush made _ disks flushed_disks step have sound in
      let right = sound_then file f k d is_then there_then honest_then i marked in
      let kept = flush_kept conduct dig kept_from_now old mid made disks flushed_disks file i f k d step have is_then marked there_then honest_then in
      let each : (x : D) → slice_get flushed_disks file ≡ Some (Some x) → IsBlockKept (conduct.history x) (moment_of (conduct.history d)) i (stored_block k.file_length (conduct.history d).now.bytes i) = λ x at.
      (let one : x ≡ d = cc in rw one kept) in
      let last = images_run mid new events calls answers flushed_disks after file i (moment_of (conduct.history d)) f k _ e none run sound_then is_then marked right.whole there honest_now each in
      subst (IsRight dig k i)
      (sym (block_stands k.file_length i (stored_block k.file_length (conduct.history d).now.bytes i) image right.whole (λ j byte at. last j byte at image left))) right

  pub flushes_kept : KeptFromNow → RunsKeepFlushedBlocks conduct dig
  flushes_kept kept_from_now torrent given log first old mid new events later calls later_calls made answers later_answers before flushed_disks after file i f k d e begins none run step have goes is marked there_then there honest_now =
      flushed_survive kept_from_now old mid new made later later_calls later_answers before flushed_disks after file i f k d e
      (run_sound conduct dig marks first.state old events calls answers first.disks before run (start_sound conduct dig torrent given log first begins))
      none step have goes is marked there_then there honest_now
