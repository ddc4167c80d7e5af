-- What reads of honest devices gave, and how many calls failed.
use Rattle.bt_machine.proofs.Base.{[], ◌≡◌, ℕ, ◌*◌, ◌<◌, ◌≤◌, inl, inr, List, ◌∷◌, take, drop, Option, Some, None, refl, sym, ap, ◌∙◌, subst, arith, slice_get, Contains, Contains-append_cases, cases_lt, block_length, BlockRead, given, failed, block_of, call_of, Call, bytes_given, sync_made, AreAnswered, History}
use Rattle.bt_disk.specs.Limits.{one_more, max_count}
use Rattle.bt_disk.specs.Calls.{HasCalls, IsAnswered, IsRead, length_given, length_fault, read_fault, bytes_written, write_fault, length_set, resize_fault, sync_fault, count_after_call, count_after_calls}
use Rattle.bt_resume.specs.declared.hint.Hint.{Hint}
use Rattle.bt_machine.specs.declared.event.Event.{Event}
use Rattle.bt_machine.specs.declared.event.Answer.{Answer}
use Rattle.bt_machine.specs.State.{EngineState}
use Rattle.bt_machine.specs.Devices.{DeviceCalls, calls_of, HaveCalls}
use Rattle.bt_machine.specs.LogCalls.{EventCalls}
use Rattle.bt_machine.specs.Recovery.{RestoresFile, empty, restored, RestoresFiles}
use Rattle.bt_machine.specs.Stored.{stored_block}
use Rattle.bt_machine.specs.Sound.{RunOn}
use Rattle.bt_machine.proofs.Machine.{Digest}
use Rattle.bt_machine.proofs.Sound.{among_file}
use Rattle.bt_machine.proofs.Lists.{same_some, get_some, some_below, here, later, contains_none, contains_cases, contains_map}
use Rattle.bt_disk.specs.Conduct.{Conduct}

-- ---- reads

is_read : (n : ℕ) (r : BlockRead) → IsRead (call_of n r)
is_read n (given i bytes) = tt
is_read n (failed i) = tt

file_reads : {dig : Digest} {hints : List Hint} {file : ℕ} {s new : EngineState} {calls : DeviceCalls} → RestoresFile dig hints file s calls new
    → (other : ℕ) (c : Call) → Contains calls (other, c) → IsRead c
file_reads (empty f at none made same) other c among = absurd (contains_none (subst (λ cs. Contains cs (other, c)) made among))
file_reads {file = file} (restored f k rs is some order made after) other c among =
    let m = contains_map (λ read. (file, call_of k.file_length read)) rs (subst (λ cs. Contains cs (other, c)) made among) in
    subst IsRead (ap (λ x. x.1) m.2) (is_read k.file_length m.0)

pub files_read : (dig : Digest) (hints : List Hint) (files : List ℕ) (s new : EngineState) (calls : DeviceCalls) → RestoresFiles dig hints files s calls new
    → (other : ℕ) (c : Call) → Contains calls (other, c) → IsRead c
files_read dig hints [] s new calls r other c among = absurd (contains_none (subst (λ cs. Contains cs (other, c)) r.0 among))
files_read dig hints (file ∷ files) s new calls r other c among = elim (Contains-append_cases r.1 r.2 (other, c) (subst (λ cs. Contains cs (other, c)) r.5 among)) [
  | inl one ↦ file_reads r.3 other c one
  | inr more ↦ files_read dig hints files r.0 new r.2 r.4 other c more
]

read_same : (c : Call) (h g : History) → IsRead c → IsAnswered h c g → g ≡ h
read_same (length_given len) h g is a = a.1
read_same length_fault h g is a = a
read_same (bytes_given at wanted bytes) h g is a = a.1
read_same (read_fault at wanted) h g is a = a
read_same (bytes_written at bytes) h g is a = absurd is
read_same (write_fault at bytes) h g is a = absurd is
read_same (length_set len) h g is a = absurd is
read_same (resize_fault len) h g is a = absurd is
read_same sync_made h g is a = absurd is
read_same sync_fault h g is a = absurd is

-- reads change nothing
pub reads_same : (cs : List Call) (h g : History) → ((c : Call) → Contains cs c → IsRead c) → AreAnswered h cs g → g ≡ h
reads_same [] h g all a = a
reads_same (c ∷ cs) h g all a =
    reads_same cs a.0 g (λ x m. all x (later c cs m)) a.2 ∙ read_same c h a.0 (all c (here cs refl)) a.1

bytes_are : (cs : List Call) (h g : History) → ((c : Call) → Contains cs c → IsRead c) → AreAnswered h cs g → (at wanted : ℕ) (bytes : List ℕ)
    → Contains cs (bytes_given at wanted bytes) → bytes ≡ take wanted (drop at h.now.bytes)
bytes_are [] h g all a at wanted bytes among = absurd (contains_none among)
bytes_are (c ∷ cs) h g all a at wanted bytes among = elim (contains_cases cs among) [
  | inl same ↦ (subst (λ x. IsAnswered h x a.0) same a.1).0
  | inr more ↦
      let still = read_same c h a.0 (all c (here cs refl)) a.1 in
      bytes_are cs a.0 g (λ x m. all x (later c cs m)) a.2 at wanted bytes more
      ∙ ap (λ (z : History). take wanted (drop at z.now.bytes)) still
]

-- ---- failures

pub never_less : (n : ℕ) (c : Call) → n ≤ max_count → (n ≤ count_after_call n c) × (count_after_call n c ≤ max_count)
never_less n length_fault le = (omega arith, omega arith)
never_less n (read_fault at wanted) le = (omega arith, omega arith)
never_less n (write_fault at bytes) le = (omega arith, omega arith)
never_less n (resize_fault len) le = (omega arith, omega arith)
never_less n sync_fault le = (omega arith, omega arith)
never_less n (length_given len) le = (omega arith, le)
never_less n (bytes_given at wanted bytes) le = (omega arith, le)
never_less n (bytes_written at bytes) le = (omega arith, le)
never_less n (length_set len) le = (omega arith, le)
never_less n sync_made le = (omega arith, le)

pub all_never_less : (cs : List Call) (n : ℕ) → n ≤ max_count → n ≤ count_after_calls n cs
all_never_less [] n le = omega arith
all_never_less (c ∷ cs) n le = let one = never_less n c le in omega (arith, one.0, all_never_less cs (count_after_call n c) one.1)

fault_counts : (cs : List Call) (n at wanted : ℕ) → n < max_count → Contains cs (read_fault at wanted) → n < count_after_calls n cs
fault_counts [] n at wanted lt among = absurd (contains_none among)
fault_counts (c ∷ cs) n at wanted lt among = elim (contains_cases cs among) [
  | inl same ↦ subst (λ x. n < count_after_calls n (x ∷ cs)) (sym same) (omega (arith, lt, all_never_less cs (one_more n) (omega arith)))
  | inr more ↦
      let one = never_less n c (omega (arith, lt)) in
      elim (cases_lt n (count_after_call n c)) [
        | inl grown ↦ omega (arith, grown, all_never_less cs (count_after_call n c) one.1)
        | inr not_grown ↦
            let same : count_after_call n c ≡ n = omega (arith, not_grown, one.0) in
            omega (arith, same, fault_counts cs (count_after_call n c) at wanted (omega (arith, same, lt)) more)
      ]
]

module _ {D : Type 0} (conduct : Conduct D) where
  -- a device stays where it was one
  pub device_after : (old new : List (Option D)) (calls : DeviceCalls) (file : ℕ) {d : D} → HaveCalls conduct old calls new
      → slice_get old file ≡ Some (Some d) → (e : D) × (slice_get new file ≡ Some (Some e)) × HasCalls conduct d (calls_of file calls) e
  device_after old new calls file {d} have at = by new_at.0 new_at.1
    where
      new_at : (o : Option D) × (slice_get new file ≡ Some o)
      new_at = get_some new file (omega (arith, some_below old file at, have.count))

      by : (o : Option D) → slice_get new file ≡ Some o → (e : D) × (slice_get new file ≡ Some (Some e)) × HasCalls conduct d (calls_of file calls) e
      by None e = absurd (differ (same_some at ((have.none file).1 e)))
        where
          differ : Some d ≡ None → ⊥
          differ e = cc
      by (Some x) e =
          let one = have.each file x e in
          let same : one.0 ≡ d = inner (same_some one.1 at) in
          (x, e, subst (λ z. HasCalls conduct z (calls_of file calls) x) same one.2)
        where
          inner : {a b : D} → Some a ≡ Some b → a ≡ b
          inner e = cc

  pub devices_run : (dig : Digest) (events : List Event) (calls : List EventCalls) (answers : List Answer) (old new : EngineState) (disks after : List (Option D)) (file : ℕ) {d : D}
      → RunOn conduct dig old disks events calls answers new after → slice_get disks file ≡ Some (Some d)
      → (e : D) × (slice_get after file ≡ Some (Some e))
  devices_run dig [] [] [] old new disks after file {d} run at = (d, ap (λ l. slice_get l file) run.1 ∙ at)
  devices_run dig (x ∷ xs) (c ∷ cs) (a ∷ as_) old new disks after file run at =
      let one = device_after disks run.1 c.devices file run.3 at in
      devices_run dig xs cs as_ run.0 new run.1 after file run.4 one.1
  devices_run dig _ _ _ old new disks after file run at = absurd run

  -- ---- blocks

  -- where its count stayed, no read of a device failed
  pub none_failed : {old new : D} (calls : DeviceCalls) (file : ℕ) → conduct.faults old < max_count → conduct.faults new ≡ conduct.faults old
      → HasCalls conduct old (calls_of file calls) new → (at wanted : ℕ) → Contains calls (file, read_fault at wanted) → ⊥
  none_failed {old} calls file few same has at wanted among =
      let more = fault_counts (calls_of file calls) (conduct.faults old) at wanted few (among_file calls among) in
      omega (arith, more, has.counted, same)

  -- a read of a block that did not fail gave the bytes that an honest device has of it
  pub block_read : {old new : D} (calls : DeviceCalls) (file n i : ℕ) (read : BlockRead) → conduct.honest old
      → ((at wanted : ℕ) → Contains calls (file, read_fault at wanted) → ⊥)
      → HasCalls conduct old (calls_of file calls) new → ((c : Call) → Contains (calls_of file calls) c → IsRead c)
      → block_of read ≡ i → Contains calls (file, call_of n read)
      → (bytes : List ℕ) × (read ≡ given i bytes) × (bytes ≡ stored_block n (conduct.history old).now.bytes i)
  block_read {old} {new} calls file n i (given b bytes) is_honest fine has all block among =
      let at : Contains (calls_of file calls) (bytes_given (16384 * b) (block_length n b) bytes) = among_file calls among in
      let are = bytes_are (calls_of file calls) (conduct.history old) (conduct.history new) all (has.answered is_honest) (16384 * b) (block_length n b) bytes at in
      (bytes, ap (λ j. given j bytes) block, are ∙ ap (λ j. stored_block n (conduct.history old).now.bytes j) block)
  block_read calls file n i (failed b) is_honest fine has all block among = absurd (fine (16384 * b) (block_length n b) among)
