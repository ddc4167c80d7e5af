-- What is left to an engine where peers come and go, bytes come, peers are chosen, and devices and the log are synced.
use Rattle.bt_machine_checks.proofs.Base.{[], ◌≡◌, ◌≢◌, ℕ, zero, suc, ◌+◌, ◌*◌, ◌/◌, ◌%◌, ◌<◌, false, List, ◌∷◌, ◌++◌, length, get_or, None, Result, Ok, Err, alloc_error, refl, sym, ap, ◌∙◌, subst, arith, ◌==◌, All, Contains, range_with_len, Contains-append_right, sync_made, sync_fault, same_peer}
use Rattle.bt_machine_checks.proofs.Machine.{Digest, no_room_to_connect, EngineState, Hint, LogCall, EventCalls, hint_appended, append_fault, log_flushed, flush_fault, Sent, Output, bits_of, bits_in, without_peer, IsOurBitfield, StepConnect, joins, full, spent, no_room as no_memory, StepFeed, feeds, not_fed, no_room as no_room_to_feed, StepLost, goes, not_fed as not_lost, chokes_sent, rechoked, StepRechoke, rechokes, not_rechoked, data_files, syncs_of, appended, flush_error, StepFlush, syncs, writes, fails, unwritten, unflushed, IsOrderly, Answer, Connected, Fed, LostAnswer, Rechoked, Flushed, sent_by, other_frames}
use Rattle.std.specs.declared.alloc.AllocError.{AllocError}
use Rattle.bt_machine.specs.declared.error.EngineError.TheVariants.{OutOfMemory}
use Rattle.bt_machine.specs.declared.error.FlushError.{FlushError}
use Rattle.bt_machine.specs.declared.error.FlushError.TheVariants.{Device as SyncFault}
use Rattle.bt_machine.proofs.Lists.{contains_map, here, get_map}
use Rattle.bt_machine.proofs.Places.{RangesTell}
use Rattle.bt_machine_checks.proofs.DeterminedParts.{peer_one}
use Rattle.bt_machine_checks.proofs.DeterminedEvents.{split_one}
use Rattle.bt_machine_checks.proofs.DeterminedFollow.{other_append, each_one}
use Rattle.bt_machine_checks.proofs.DeterminedAsks.{AreOne, are_equal, asks_to, asks_behind, KeysApart, each_same, range_apart}

-- ---- bitfields

bit_one : (a b : ℕ) → a < 2 → b < 2 → (a == 1) ≡ (b == 1) → a ≡ b
bit_one zero (suc zero) p q e = absurd cc
bit_one (suc zero) zero p q e = absurd cc
bit_one (suc (suc a)) b p q e = absurd (omega arith)
bit_one a (suc (suc b)) p q e = absurd (omega arith)
bit_one _ _ p q e = refl

-- a byte is the sum of its bits
byte_sum : {x : ℕ} → x < 256
    → x ≡ 128 * (x / 128 % 2) + 64 * (x / 64 % 2) + 32 * (x / 32 % 2) + 16 * (x / 16 % 2) + 8 * (x / 8 % 2) + 4 * (x / 4 % 2) + 2 * (x / 2 % 2) + x / 1 % 2
byte_sum lt = omega arith

byte_one : {x y : ℕ} → x < 256 → y < 256 → bits_of x ≡ bits_of y → x ≡ y
byte_one {x} {y} p q e =
    let b0 = bit_one _ _ (omega arith) (omega arith) (ap (λ bs. get_or bs 0 false) e) in
    let b1 = bit_one _ _ (omega arith) (omega arith) (ap (λ bs. get_or bs 1 false) e) in
    let b2 = bit_one _ _ (omega arith) (omega arith) (ap (λ bs. get_or bs 2 false) e) in
    let b3 = bit_one _ _ (omega arith) (omega arith) (ap (λ bs. get_or bs 3 false) e) in
    let b4 = bit_one _ _ (omega arith) (omega arith) (ap (λ bs. get_or bs 4 false) e) in
    let b5 = bit_one _ _ (omega arith) (omega arith) (ap (λ bs. get_or bs 5 false) e) in
    let b6 = bit_one _ _ (omega arith) (omega arith) (ap (λ bs. get_or bs 6 false) e) in
    let b7 = bit_one _ _ (omega arith) (omega arith) (ap (λ bs. get_or bs 7 false) e) in
    omega (arith, byte_sum p, byte_sum q)

pub bytes_one : (xs ys : _) → All (λ byte. byte < 256) xs → All (λ byte. byte < 256) ys → length xs ≡ length ys → bits_in xs ≡ bits_in ys → xs ≡ ys
bytes_one [] [] p q size e = refl
bytes_one [] (y ∷ ys) p q size e = absurd (omega arith)
bytes_one (x ∷ xs) [] p q size e = absurd (omega arith)
bytes_one (x ∷ xs) (y ∷ ys) p q size e =
    let parts = split_one _ _ (cc) e in
    ap (λ z. z ∷ xs) (byte_one (p 0 x (omega arith)) (q 0 y (omega arith)) parts.0)
    ∙ ap (λ zs. y ∷ zs) (bytes_one xs ys (λ k d lt. p (suc k) d (omega arith)) (λ k d lt. q (suc k) d (omega arith)) (omega arith) parts.1)

bitfield_one : {s xs ys : _} → IsOurBitfield s xs → IsOurBitfield s ys → xs ≡ ys
bitfield_one {s} {xs} {ys} x y =
    let size : length xs ≡ length ys = cc in
    bytes_one xs ys x.are_bytes y.are_bytes size (cc)

-- ---- peers that come and go

pub connect_one : {s m n a b : _} → StepConnect s a m → StepConnect s b n → a ≢ Err no_room_to_connect → b ≢ Err no_room_to_connect
    → AreOne (Connected a) m (Connected b) n
connect_one (no_memory x y z w) q r t = absurd (r z)
connect_one q (no_memory x y z w) r t = absurd (t z)
connect_one {s} (joins key bytes lt below is bits e f) (joins other more lt2 below2 is2 bits2 e2 f2) r t =
    let keys = same_peer key other (cc) in
    let fields = bitfield_one bits bits2 in
    are_equal (ap Connected (cc))
    (cc)
connect_one (joins key bytes lt below is bits e f) (full x y z) r t = absurd (omega arith)
connect_one (joins key bytes lt below is bits e f) (spent x y z w) r t = absurd (omega arith)
connect_one (full x y z) (joins key bytes lt below is bits e f) r t = absurd (omega arith)
connect_one (full x y z) (full u v w) r t = are_equal (ap Connected (cc)) (cc)
connect_one (full x y z) (spent u v w o) r t = absurd (omega arith)
connect_one (spent x y z w) (joins key bytes lt below is bits e f) r t = absurd (omega arith)
connect_one (spent u v w o) (full x y z) r t = absurd (omega arith)
connect_one (spent x y z w) (spent u v o q) r t = are_equal (ap Connected (cc)) (cc)

pub feed_one : {s m n key bytes a b : _} → IsOrderly s → StepFeed s key bytes a m → StepFeed s key bytes b n → a ≢ Err OutOfMemory → b ≢ Err OutOfMemory
    → AreOne (Fed a) m (Fed b) n
feed_one o (no_room_to_feed i p x y z) q r t = absurd (r y)
feed_one o q (no_room_to_feed i p x y z) r t = absurd (t y)
feed_one {s} {bytes} o (feeds i p x y z) (feeds j q u v w) r t =
    let same = peer_one o x u in
    are_equal (ap Fed (cc)) (cc)
feed_one o (feeds i p x y z) (not_fed u v w) r t = absurd (u i p x)
feed_one o (not_fed u v w) (feeds i p x y z) r t = absurd (u i p x)
feed_one o (not_fed x y z) (not_fed u v w) r t = are_equal (ap Fed (cc)) (cc)

pub lost_one : {s m n key a b : _} → IsOrderly s → StepLost s key a m → StepLost s key b n → AreOne (LostAnswer a) m (LostAnswer b) n
lost_one {s} o (goes i p x y z) (goes j q u v w) = are_equal (ap LostAnswer (cc)) (z ∙ ap (λ k. without_peer k s) (peer_one o x u).0 ∙ sym w)
lost_one o (goes i p x y z) (not_lost u v w) = absurd (u i p x)
lost_one o (not_lost u v w) (goes i p x y z) = absurd (u i p x)
lost_one o (not_lost x y z) (not_lost u v w) = are_equal (ap LostAnswer (cc)) (cc)

-- ---- peers to serve

abbrev sends : EngineState → List Sent → Answer
sends s sent = Rechoked (Ok (record { send = chokes_sent s ++ sent; close = None; notes = [] }))

-- no two peers of an engine that events lead to have one key
apart_at_first : {s : _} → IsOrderly s → KeysApart (rechoked s)
apart_at_first {s} o i j p q x y e =
    let u = get_map _ _ i x in
    let v = get_map _ _ j y in
    (peer_one o
    (record { here = u.1; same_key = cc })
    (record { here = v.1; same_key = refl })).0

pub rechoke_one : {dig : Digest} {s m n : EngineState} {a b : Result Output AllocError} → RangesTell s.torrent → IsOrderly s
    → StepRechoke dig s a m → StepRechoke dig s b n → a ≢ Err alloc_error → b ≢ Err alloc_error → AreOne (Rechoked a) m (Rechoked b) n
rechoke_one tell o (not_rechoked x y) q r t = absurd (r x)
rechoke_one tell o q (not_rechoked x y) r t = absurd (t x)
rechoke_one {dig} {s} {m} {n} {a} {b} tell o (rechokes out x e) (rechokes other y f) r t =
    let each = each_one dig _ (rechoked s) (rechoked s) x.sent y.sent m n refl x.follows y.follows in
    let send = other_append (chokes_sent s) x.sent ∙ ap (λ zs. other_frames (chokes_sent s) ++ zs) each.0 ∙ sym (other_append (chokes_sent s) y.sent) in
    let own : Rechoked a ≡ sends s x.sent = cc in
    let their : Rechoked b ≡ sends s y.sent = cc in
    record {
      plain = cc;
      rest = each.1;
      whole = λ same. (
          let behind = asks_to (ap sent_by own) (ap sent_by their) same in
          let both = each_same dig (range_with_len 0 (length s.peers)) (rechoked s) tell (apart_at_first o) (range_apart 0 (length s.peers)) x.follows y.follows (asks_behind (chokes_sent s) refl behind) in
          (own ∙ ap (sends s) both.0 ∙ sym their, both.1)
          );
    }

-- ---- devices

no_fault_among : (files : _) {c : _} → Contains (syncs_of files) c → c.1 ≡ sync_fault → ⊥
no_fault_among files among e =
    let m = contains_map (λ file. (file, sync_made)) files among in
    absurd cc

synced_or_not : (files before file : _) → syncs_of files ≡ syncs_of before ++ (file, sync_fault) ∷ [] → ⊥
synced_or_not files before file e =
    no_fault_among files
    (subst (λ cs. Contains cs (file, sync_fault)) (sym e) (Contains-append_right (syncs_of before) ((file, sync_fault) ∷ []) (file, sync_fault) (here [] refl)))
    refl

-- what a flush answers, and what is pending then, by its calls of the log

abbrev answer_by : List LogCall → Result (Unit {0}) FlushError
answer_by [] = Ok tt
answer_by (hint_appended hint ∷ calls) = answer_by calls
answer_by (append_fault hint cause ∷ calls) = Err (flush_error cause)
answer_by (log_flushed ∷ calls) = Ok tt
answer_by (_ ∷ calls) = Err SyncFault

abbrev pending_by : List Hint → List LogCall → List Hint
pending_by pending [] = pending
pending_by pending (hint_appended hint ∷ calls) = pending_by pending calls
pending_by pending (log_flushed ∷ calls) = []
pending_by pending (_ ∷ calls) = pending

answer_behind : (hints : List Hint) (calls : List LogCall) → answer_by (appended hints ++ calls) ≡ answer_by calls
answer_behind [] calls = refl
answer_behind (hint ∷ hints) calls = answer_behind hints calls

pending_behind : (pending hints : List Hint) (calls : List LogCall) → pending_by pending (appended hints ++ calls) ≡ pending_by pending calls
pending_behind pending [] calls = refl
pending_behind pending (hint ∷ hints) calls = pending_behind pending hints calls

data FlushEnds (s : EngineState) (calls : EventCalls) (a : Result (Unit {0}) FlushError) (m : EngineState) : Type 0 where
  synced : calls.devices ≡ syncs_of (data_files s) → a ≡ answer_by calls.log → m ≡ record s { pending = pending_by s.pending calls.log } → FlushEnds s calls a m
  stopped : (before : List ℕ) (file : ℕ) → calls.devices ≡ syncs_of before ++ (file, sync_fault) ∷ [] → a ≡ Err SyncFault → m ≡ s → FlushEnds s calls a m

log_ends : {s m : EngineState} {calls : EventCalls} {a : _} (log : List LogCall) → calls ≡ record { devices = syncs_of (data_files s); log = log } → a ≡ answer_by log
    → m ≡ record s { pending = pending_by s.pending log } → FlushEnds s calls a m
log_ends {s} log made e f =
    synced (ap (λ c. c.devices) made) (e ∙ ap (λ c. answer_by c.log) (sym made)) (f ∙ ap (λ c. record s { pending = pending_by s.pending c.log }) (sym made))

ends : {s m calls a : _} → StepFlush s calls a m → FlushEnds s calls a m
ends (syncs none made e f) = log_ends [] made e f
ends {s} (writes logged made e f) =
    log_ends (appended s.pending ++ log_flushed ∷ []) made (e ∙ sym (answer_behind s.pending (log_flushed ∷ [])))
    (f ∙ ap (λ p. record s { pending = p }) (sym (pending_behind s.pending s.pending (log_flushed ∷ []))))
ends (fails before file after is made e f) = stopped before file (ap (λ c. c.devices) made) e f
ends {s} (unwritten before hint after cause logged is made e f) =
    log_ends (appended before ++ append_fault hint cause ∷ []) made (e ∙ sym (answer_behind before (append_fault hint cause ∷ [])))
    (f ∙ ap (λ p. record s { pending = p }) (sym (pending_behind s.pending before (append_fault hint cause ∷ []))))
ends {s} (unflushed logged made e f) =
    log_ends (appended s.pending ++ flush_fault ∷ []) made (e ∙ sym (answer_behind s.pending (flush_fault ∷ [])))
    (f ∙ ap (λ p. record s { pending = p }) (sym (pending_behind s.pending s.pending (flush_fault ∷ []))))

ends_one : {s m n calls a b : _} → FlushEnds s calls a m → FlushEnds s calls b n → AreOne (Flushed a) m (Flushed b) n
ends_one (synced made e f) (synced also g h) = are_equal (ap Flushed (e ∙ sym g)) (f ∙ sym h)
ends_one {s} (synced made e f) (stopped before file also g h) = absurd (synced_or_not (data_files s) before file (sym made ∙ also))
ends_one {s} (stopped before file made e f) (synced also g h) = absurd (synced_or_not (data_files s) before file (sym also ∙ made))
ends_one (stopped before file made e f) (stopped other place also g h) = are_equal (ap Flushed (e ∙ sym g)) (f ∙ sym h)

pub flush_one : {s m n calls a b : _} → StepFlush s calls a m → StepFlush s calls b n → AreOne (Flushed a) m (Flushed b) n
flush_one x y = ends_one (ends x) (ends y)
