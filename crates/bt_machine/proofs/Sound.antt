-- Marked blocks stay right on honest devices.
use Rattle.bt_machine.proofs.Base.{[], ◌≡◌, ◌≢◌, ℕ, suc, ◌*◌, ◌<◌, ◌⊎◌, inl, inr, Bool, true, false, List, ◌∷◌, length, take, drop, replicate, Option, Some, refl, sym, ap, ◌∙◌, subst, slice_get, Contains, ◌==◌, option_and_then, eqb-true, eq-eqb, full_block_length, block_count, block_length, History, after_write, Call, bytes_given, bytes_written, write_fault, length_set, resize_fault, sync_made, AreAnswered, AfterWriteFault, Facts, value_at, given, call_of, IsRight, Missing, Marked, BlockId, AdoptMarksByBytes}
use Rattle.bt_machine.proofs.Machine.{Digest, Event, Flush, Restart, FileState, EngineState, DeviceCalls, calls_of, block_id, state_at, tree_of, stored_block, AreRight, bare_on, with_log_on, Recovers, Step, IsMarkedBy, brought, read_back, found, recovered, IsSound, StepKeepsSound, RunOn, CompleteFilesStand, KeepsBytes, AllKeepBytes}
use Rattle.bt_disk.specs.Calls.{IsAnswered}
use Rattle.bt_machine.specs.Devices.{HaveCalls}
use Rattle.bt_machine.specs.Sound.{StartsSound}
use Rattle.bt_machine.proofs.Lists.{here, later, contains_none, contains_cases, contains_filter, contains_map, get_some, some_below}
use Rattle.bt_machine.proofs.Marks.{state_is}
use Rattle.bt_machine.proofs.Marking.{step_cases}
use Rattle.bt_machine.proofs.Stored.{own_bytes, other_bytes, torn_bytes, complete_root}
use Rattle.bt_machine.proofs.Tame.{Tame, Touches, keeping, putting, step_tame, hints_tame, anew_reads}
use Rattle.bt_machine.proofs.Restarts.{restart_or, IsRestart, anew, as_before, restart_is, recovered_marks}
use Rattle.bt_disk.specs.Conduct.{Conduct}

-- ---- calls of one device

call_keeps : (old new : History) (call : Call) → KeepsBytes call → IsAnswered old call new → new.now.bytes ≡ old.now.bytes
call_keeps old new (bytes_written at bytes) k a = absurd k
call_keeps old new (write_fault at bytes) k a = absurd k
call_keeps old new (length_set len) k a = absurd k
call_keeps old new (resize_fault len) k a = absurd k
call_keeps old new sync_made k a = ap (λ h. h.now.bytes) a
call_keeps old new _ k a = cc

-- a device's bytes stay, and what was read stands there
pub record Reads (old new : History) (calls : List Call) : Type 0 where
  pub same : new.now.bytes ≡ old.now.bytes
  pub read : (at wanted : ℕ) (bytes : List ℕ) → Contains calls (bytes_given at wanted bytes) → bytes ≡ take wanted (drop at old.now.bytes)

pub calls_keep : (old : History) {new : _} (calls : _) → ((c : Call) → Contains calls c → KeepsBytes c) → AreAnswered old calls new → Reads old new calls
calls_keep old [] keep a = record { same = cc; read = λ at wanted bytes c. absurd (contains_none c) }
calls_keep old (call ∷ calls) keep a =
    let one = call_keeps old a.0 call (keep call (here calls refl)) a.1 in
    let more = calls_keep a.0 calls (λ c among. keep c (later call calls among)) a.2 in
    record {
      same = cc;
      read = λ at wanted bytes c. elim (contains_cases calls c) [
        | inl is ↦ (let answered = subst (λ x. IsAnswered old x a.0) is a.1 in answered.0)
        | inr among ↦ more.read at wanted bytes among ∙ ap (λ xs. take wanted (drop at xs)) one
      ];
    }

-- a device's calls are among all calls
pub of_all : {file : ℕ} (calls : _) {c : _} → Contains (calls_of file calls) c → Contains calls (file, c)
of_all {file} calls {c} among =
    let m = contains_map (λ a. a.1) _ among in
    let t = contains_filter (λ a. a.0 == file) calls m.1 in
    rw (← (pair_is m.0 (eqb-true m.0.0 file t.1) m.2)) t.0
  where
    pair_is : (a : ℕ × Call) → a.0 ≡ file → a.1 ≡ c → a ≡ (file, c)
    pair_is (g, y) e same = cc

one_true : (x : ℕ × Call) (file : ℕ) → (x.0 == file) ≡ true → calls_of file (x ∷ []) ≡ x.1 ∷ []
one_true x file e = rw e refl

pub among_file : {file : ℕ} (calls : DeviceCalls) {c : _} → Contains calls (file, c) → Contains (calls_of file calls) c
among_file [] among = absurd (contains_none among)
among_file {file} (x ∷ calls) {c} among = by _ refl (contains_cases calls among) (λ more. among_file calls more)
  where
    by : (b : Bool) → (x.0 == file) ≡ b → (x ≡ (file, c)) ⊎ Contains calls (file, c) → (Contains calls (file, c) → Contains (calls_of file calls) c)
        → Contains (calls_of file (x ∷ calls)) c
    by true e (inl is) rest = rw e (here _ (cc))
    by true e (inr more) rest = rw e (later x.1 _ (rest more))
    by false e (inl is) rest = let no = sym (eq-eqb x.0 file (cc)) ∙ e in absurd cc
    by false e (inr more) rest = rw e (rest more)

-- ---- a block of one file

moved : {dig : Digest} {old new : Facts} (xs ys : _) {i : ℕ} → new.file_length ≡ old.file_length
    → ((d : List ℕ) → value_at dig old 0 i ≡ Some d → value_at dig new 0 i ≡ Some d)
    → stored_block old.file_length ys i ≡ stored_block old.file_length xs i → IsRight dig old i (stored_block old.file_length xs i)
    → IsRight dig new i (stored_block new.file_length ys i)
moved {dig} {old} {new} xs ys {i} size kept same r =
    let is : stored_block new.file_length ys i ≡ stored_block old.file_length xs i = cc in
    record { whole = cc; leaf = kept _ r.leaf ∙ ap (λ x. Some (dig x)) (sym is) }

-- a block that was written stands there
stands : (n i : ℕ) (old : History) {new : _} (bytes : _) → length bytes ≡ block_length n i → new ≡ after_write old (full_block_length * i) bytes
    → stored_block n new.now.bytes i ≡ bytes
stands n i old {new} [] size e = cc
stands n i old (x ∷ bytes) size e = ap (λ h. stored_block n h.now.bytes i) e ∙ own_bytes n _ i size

-- another block stays
others : (n i j : ℕ) (old : History) {new : _} (bytes : _) → i ≢ j → length bytes ≡ block_length n j
    → length (stored_block n old.now.bytes i) ≡ block_length n i → new ≡ after_write old (full_block_length * j) bytes
    → stored_block n new.now.bytes i ≡ stored_block n old.now.bytes i
others n i j old [] apart size whole e = cc
others n i j old (x ∷ bytes) apart size whole e = ap (λ h. stored_block n h.now.bytes i) e ∙ other_bytes n _ _ i j apart size whole

-- also where the write failed
torn : (n i j : _) (old new : History) (bytes : _) → i ≢ j → length bytes ≡ block_length n j → length (stored_block n old.now.bytes i) ≡ block_length n i
    → AfterWriteFault (full_block_length * j) bytes old new → stored_block n new.now.bytes i ≡ stored_block n old.now.bytes i
torn n i j old new [] apart size whole e = cc
torn n i j old new (x ∷ bytes) apart size whole (inl e) = cc
torn n i j old new (x ∷ bytes) apart size whole (inr t) = ap (λ h. stored_block n h.now.bytes i) t.2 ∙ torn_bytes n i j apart size t.1 whole

apart_by : Some Missing ≡ Some Marked → ⊥
apart_by e = absurd cc

pub no_write : {at n to xs ys : _} → bytes_given at n xs ≡ bytes_written to ys → ⊥
no_write e = absurd cc

pub no_fault : {at n to xs ys : _} → bytes_given at n xs ≡ write_fault to ys → ⊥
no_fault e = absurd cc

-- the calls of a step leave a marked block of a file as it is
kept_block : (dig : Digest) {files : List FileState} {trees : List Facts} (file i : ℕ) {f : FileState} {k : Facts} {calls : DeviceCalls} (old new : History)
    → slice_get files file ≡ Some f → slice_get trees f.tree ≡ Some k → slice_get f.states i ≡ Some Marked → Touches files trees calls
    → AreAnswered old (calls_of file calls) new → length (stored_block k.file_length old.now.bytes i) ≡ block_length k.file_length i
    → stored_block k.file_length new.now.bytes i ≡ stored_block k.file_length old.now.bytes i
kept_block dig file i {k} {calls} old new at has_tree marked (keeping keep) answered whole =
    ap (λ xs. stored_block k.file_length xs i) (calls_keep old _ (λ c among. keep (file, c) (of_all calls among)) answered).same
kept_block dig {files} {trees} file i {f} {k} {calls} old new at has_tree marked (putting b bytes g l call there rooted missing size made is) answered whole =
    by _ refl
  where
    by : (t : Bool) → (b.file == file) ≡ t → stored_block k.file_length new.now.bytes i ≡ stored_block k.file_length old.now.bytes i
    by false e =
        let none : calls_of file calls ≡ [] = cc in
        let still = subst (λ cs. AreAnswered old cs new) none answered in
        ap (λ h. stored_block k.file_length h.now.bytes i) still
    by true e =
        let one : calls_of file calls ≡ call ∷ [] = cc in
        let a = subst (λ cs. AreAnswered old cs new) one answered in
        let same_file = eqb-true b.file file e in
        let g_is : g ≡ f = cc in
        let l_is : l ≡ k = cc in
        let gone : slice_get f.states b.block ≡ Some Missing = cc in
        let apart : i ≢ b.block = λ same. apart_by (cc) in
        let long : length bytes ≡ block_length k.file_length b.block = cc in
        let answer : IsAnswered old call new = rw a.2 a.1 in
        elim is [
          | inl wrote ↦ others _ i _ old bytes apart long whole (let x = subst (λ c. IsAnswered old c new) wrote answer in x)
          | inr failed ↦ torn _ i _ old new bytes apart long whole (let x = subst (λ c. IsAnswered old c new) failed answer in x)
        ]

-- what was read of a block, and is right, stands there
read_stands : {dig : Digest} (new : EngineState) {file i : ℕ} {k l : Facts} {bytes : List ℕ} (calls : DeviceCalls) (before after : History)
    → AllKeepBytes calls → AreAnswered before (calls_of file calls) after → tree_of new file ≡ Some k → tree_of new file ≡ Some l
    → Contains calls (file, call_of l.file_length (given i bytes)) → IsRight dig l i bytes → IsRight dig k i (stored_block k.file_length after.now.bytes i)
read_stands new {file} {i} {k} {l} {bytes} calls before after keep answered tree has_tree read right =
    let same : l ≡ k = cc in
    let reads = calls_keep _ _ (λ c among. keep (file, c) (of_all calls among)) answered in
    let there = reads.read _ _ bytes (among_file calls read) in
    let is : bytes ≡ stored_block k.file_length after.now.bytes i = cc in
    rw (← is) (rw (← same) right)

-- the marked blocks of one file are right on its device, where they were so, or were marked by this event
block_right : {dig : Digest} (old new : EngineState) (event : Event) {calls : DeviceCalls} (file : ℕ) {i : ℕ} {f : FileState} {k : Facts} (before after : History) → Tame dig old.files old.trees calls new
    → ((b : BlockId) → state_at new b ≡ Some Marked → (state_at old b ≡ Some Marked) ⊎ IsMarkedBy dig old event calls new b) → event ≢ Restart
    → slice_get new.files file ≡ Some f → slice_get new.trees f.tree ≡ Some k → AreAnswered before (calls_of file calls) after
    → ((g : FileState) (l : Facts) → slice_get old.files file ≡ Some g → slice_get old.trees g.tree ≡ Some l → AreRight dig l before.now.bytes g.states)
    → slice_get f.states i ≡ Some Marked → IsRight dig k i (stored_block k.file_length after.now.bytes i)
block_right {dig} old new event {calls} file {i} {f} {k} before after tame cases apart at has_tree answered sound marked =
    let grown = tame.0 file f k at has_tree in
    let b = block_id file i in
    let now : state_at new b ≡ Some Marked = cc in
    let tree : tree_of new file ≡ Some k = cc in
    elim (cases b now) [
      | inl was ↦
          let marked_before : slice_get grown.old_file.states i ≡ Some Marked = cc in
          let r = sound grown.old_file grown.old_tree grown.here grown.has_tree i marked_before in
          moved _ _ grown.same_length (grown.kept i)
          (kept_block dig file i _ after grown.here grown.has_tree marked_before tame.1 answered r.whole) r
      | inr (brought x) ↦
          let same : x.tree ≡ k = cc in
          let r : IsRight dig k i x.bytes = rw (← same) x.right in
          let one = ap (calls_of file) x.written ∙ one_true _ file (eq-eqb file file refl) in
          let a = subst (λ cs. AreAnswered before cs after) one answered in
          let is = stands _ i _ _ r.whole (a.2 ∙ a.1) in
          rw is r
      | inr (read_back x) ↦ read_right x.has_tree x.read x.right tree tame.1
      | inr (found x) ↦ read_right x.has_tree x.read x.right tree tame.1
      | inr (recovered is x) ↦ absurd (apart is)
    ]
  where
    read_right : {l bytes : _} → tree_of new file ≡ Some l → Contains calls (file, call_of l.file_length (given i bytes)) → IsRight dig l i bytes
        → tree_of new file ≡ Some k → Touches old.files old.trees calls → IsRight dig k i (stored_block k.file_length after.now.bytes i)
    read_right l_hung l_read l_right tree (keeping keep) = read_stands new calls before after keep answered tree l_hung l_read l_right
    read_right {l} {bytes} l_hung l_read l_right tree (putting c more g m call there rooted missing size made is) =
        let one = subst (λ cs. Contains cs (file, call_of l.file_length (given i bytes))) made l_read in
        elim (contains_cases {x = (c.file, call)} {y = (file, call_of l.file_length (given i bytes))} [] one) [
          | inl same ↦
              let call_is = ap (λ a. a.1) same in
              absurd (elim is [ inl wrote ↦ no_write (sym call_is ∙ wrote) | inr failed ↦ no_fault (sym call_is ∙ failed) ])
          | inr none ↦ absurd (contains_none none)
        ]

none_marked : (n i : ℕ) → slice_get (replicate n Missing) i ≡ Some Marked → ⊥
none_marked (suc n) (suc i) e = none_marked n i e
none_marked _ _ e = absurd cc

module _ {D : Type 0} (conduct : Conduct D) (dig : Digest) where
  -- where all is begun anew, what is marked was read
  pub anew_sound : {s new hints calls disks after : _} → Recovers dig s hints calls new → HaveCalls conduct disks calls after
      → IsSound conduct dig new after
  anew_sound {new = new} {calls = calls} r have file f k e is_file there honest_now i marked =
      let d = have.each file e there in
      let now : state_at new (block_id file i) ≡ Some Marked = state_is new (block_id file i) is_file.here marked in
      let tree : tree_of new file ≡ Some k = ap (option_and_then (λ g. slice_get new.trees g.tree)) is_file.here ∙ is_file.has_tree in
      let x = recovered_marks dig r (block_id file i) now in
      read_stands new calls _ _ (anew_reads dig r) (d.2.answered (d.2.as_honest.1 honest_now)) tree x.has_tree x.read x.right

  pub start_sound : StartsSound conduct dig
  start_sound torrent placed log first (bare_on no_log starts disks none) file f k d is_file there honest_now j marked =
      let lt : file < length torrent.files = rw (← starts.is_new.count) (some_below first.state.files file is_file.here) in
      let listed = get_some torrent.files file lt in
      let new = starts.is_new.each_file file listed.0 f listed.1 is_file.here in
      absurd (none_marked (block_count listed.0.length) j (cc))
  start_sound torrent placed log first (with_log_on l calls is same starts have log_is) file f k d is_file there honest_now j marked =
      anew_sound starts have file f k d is_file there honest_now j marked

  module _ (marks : AdoptMarksByBytes dig) where
    -- where each file's blocks are right by what becomes of one of them
    by_blocks : {old new : EngineState} {disks calls after : _} → HaveCalls conduct disks calls after → IsSound conduct dig old disks
        → ((file i : ℕ) (f : FileState) (k : Facts) (before now : History) → slice_get new.files file ≡ Some f → slice_get new.trees f.tree ≡ Some k
        → AreAnswered before (calls_of file calls) now
        → ((g : FileState) (l : Facts) → slice_get old.files file ≡ Some g → slice_get old.trees g.tree ≡ Some l → AreRight dig l before.now.bytes g.states)
        → slice_get f.states i ≡ Some Marked → IsRight dig k i (stored_block k.file_length now.now.bytes i)) → IsSound conduct dig new after
    by_blocks have sound right file f k e is_file there honest_now i marked =
        let d = have.each file e there in
        let was_honest = d.2.as_honest.1 honest_now in
        right file i f k _ _ is_file.here is_file.has_tree (d.2.answered was_honest)
        (λ g l at has_tree. sound file g l d.0 (record { here = at; has_tree = has_tree }) d.1 was_honest) marked

    restart_sound : {old new disks calls after : _} → IsRestart dig old calls new → HaveCalls conduct disks calls after
        → IsSound conduct dig old disks → IsSound conduct dig new after
    restart_sound (anew hints none recovers places) have sound = anew_sound recovers have
    restart_sound {old} {new} (as_before none made e) have sound = by_blocks have sound (λ file i f k before now.
        block_right old new Flush file before now (hints_tame dig old new made e) (λ b m. inl (ap (λ z. state_at z b) (sym e) ∙ m)) (λ x. absurd cc))

    pub step_sound : StepKeepsSound conduct dig
    step_sound old new event calls answer disks after step have sound = elim (restart_or event) [
      | inl is ↦ (let r = subst (λ x. Step dig old x calls answer new) is step in restart_sound (restart_is r.2) have sound)
      | inr apart ↦ by_blocks have sound (λ file i f k before now.
          block_right old new event file before now (step_tame dig old new event calls answer apart step) (λ b m. step_cases dig marks b old new event calls answer step m) apart)
    ]

    pub run_sound : (old new events calls answers : _) (disks after : List (Option D)) → RunOn conduct dig old disks events calls answers new after
        → IsSound conduct dig old disks → IsSound conduct dig new after
    run_sound old new [] [] [] disks after run sound = λ file f k e is_file there honest_now.
        sound file f k e (record { here = cc; has_tree = cc })
        (cc) honest_now
    run_sound old new (e ∷ es) (c ∷ calls) (a ∷ answers) disks after run sound =
        run_sound run.0 new es calls answers run.1 after run.4 (step_sound old run.0 e c a disks run.1 run.2 run.3 sound)
    run_sound old new _ _ _ disks after run sound = absurd run

module _ {D : Type 0} (conduct : Conduct D) (dig : Digest) where
  pub complete_stands : CompleteFilesStand conduct dig
  complete_stands s disks file f k d rooted sound is_file some marked there honest_now =
      complete_root k _ _ (rooted f.tree k is_file.has_tree) some marked (sound file f k d is_file there honest_now)
