-- How a block ceases to be marked.
use Rattle.bt_machine.proofs.Base.{[], ◌≡◌, ◌≢◌, ℕ, zero, suc, ◌+◌, ◌⊎◌, inl, inr, Bool, true, false, List, ◌∷◌, ◌++◌, map, Option, Some, refl, sym, ap, ◌∙◌, subst, arith, slice_get, slice_set, option_map, Contains, flat_map, ◌==◌, if◌then◌else◌, Result, Ok, option_and_then, eqb-true, eq-eqb, Contains-append_left, Contains-append_right, History, Call, AreAnswered, Facts, BlockRead, given, failed, block_of, call_of, is_right, judged, IsRight, Adopts, known, accepted, PutIsDue, states_after_put, Missing, Waiting, Marked, StoreError, Put, PutMarked, PutWaiting, Adopted, BlockId, PeerMessage as Sent, KeepAlive, Choke, Unchoke, Interested, NotInterested, Have, Bitfield, Request, Piece, Cancel, HashRequest, Hashes, HashReject, Hello, Message, Skipped, AdoptMarksByBytes}
use Rattle.bt_machine.proofs.Machine.{Digest, Event, Connect, Feed, Next, Lost, Rechoke, Adopt, Flush, Restart, FileState, EngineState, DeviceCalls, calls_of, state_at, tree_of, with_file, IsFile, FindsFault, damaged, fault, StopsAtFault, HandlesRequest, ignored, no_place, not_marked, served, stopped, HandlesPiece, stale, arrives, judged_file, SettlesIn, HandlesHashes, unknown_root, no_claim, refused, accepts_hashes, HandlesHave, in_range, out_of_range, HandlesBitfield, right, wrong, HandlesMessage, Handles, TakesEvent, StepNext, no_peer, waits, keeps_peer, closes, faulty, no_memory, StepConnect, joins, full, spent, no_room, StepFeed, feeds, not_fed, no_room as no_room_to_feed, StepLost, goes, not_fed as not_lost, FollowsEach, StepRechoke, rechokes, not_rechoked, AdoptsGroup, AdoptsGroups, StepAdopt, no_file, busy, empty, adopts, not_adopted, StepFlush, syncs, writes as logs, fails, unwritten, unflushed, Step, stored_block, RunOn, IsFoundWrong, StepUnmarksByBytes, StepKeepsMarks, RunKeepsMarks}
use Rattle.bt_store.specs.Adoption.{marked_group}
use Rattle.bt_machine.specs.Unmarks.{HasNoRestart}
use Rattle.bt_machine.proofs.Lists.{same_some, set_get, set_other, set_same, and_then_some, contains_none, contains_cases, here, later, map_contains}
use Rattle.bt_machine.proofs.Marks.{state_is, meant_then, right_true}
use Rattle.bt_machine.proofs.PeerChanges.{judged_other}
use Rattle.bt_machine.proofs.Adopting.{right_in, group_forward}
use Rattle.bt_machine.proofs.Tame.{Touches, keeping, putting, step_touches}
use Rattle.bt_machine.proofs.Sound.{no_write, no_fault, calls_keep, of_all, among_file, step_sound}
use Rattle.bt_disk.specs.Conduct.{Conduct}

-- ---- states

-- a read of the block gave bytes that are not right
abbrev GaveWrong : (List ℕ → List ℕ) → Facts → List BlockRead → ℕ → Type 0
GaveWrong dig k reads i = (bytes : List ℕ) × Contains reads (given i bytes) × (IsRight dig k i bytes → ⊥)

more_wrong : (dig : Digest) (k : _) (read : BlockRead) (reads i : _) → GaveWrong dig k reads i → GaveWrong dig k (read ∷ reads) i
more_wrong dig k read reads i g = (g.0, later read reads g.1, g.2)

judged_keeps : (dig : Digest) (k reads states i : _) → slice_get states i ≡ Some Marked
    → (slice_get (judged dig k true reads states) i ≡ Some Marked) ⊎ GaveWrong dig k reads i
judged_keeps dig k [] states i e = inl e
judged_keeps dig k (failed b ∷ reads) states i e = elim (judged_keeps dig k reads _ i e) [ inl kept ↦ inl kept | inr w ↦ inr (more_wrong dig k _ reads i w) ]
judged_keeps dig k (given b bytes ∷ reads) states i e = elim (set_get _ b i {y = if is_right dig k b bytes then Marked else Missing} e) [
  | inl now ↦ by _ refl now.0 now.1 (judged_keeps dig k reads _ i)
  | inr still ↦ on (judged_keeps dig k reads _ i still)
]
  where
    on : (slice_get (judged dig k true (given b bytes ∷ reads) states) i ≡ Some Marked) ⊎ GaveWrong dig k reads i
        → (slice_get (judged dig k true (given b bytes ∷ reads) states) i ≡ Some Marked) ⊎ GaveWrong dig k (given b bytes ∷ reads) i
    on (inl kept) = inl kept
    on (inr w) = inr (more_wrong dig k _ reads i w)

    by : (t : Bool) → is_right dig k b bytes ≡ t → i ≡ b
        → slice_get (slice_set states b (if is_right dig k b bytes then Marked else Missing)) i ≡ Some (if is_right dig k b bytes then Marked else Missing)
        → (slice_get (slice_set states b (if is_right dig k b bytes then Marked else Missing)) i ≡ Some Marked → (slice_get (judged dig k true (given b bytes ∷ reads) states) i ≡ Some Marked) ⊎ GaveWrong dig k reads i)
        → (slice_get (judged dig k true (given b bytes ∷ reads) states) i ≡ Some Marked) ⊎ GaveWrong dig k (given b bytes ∷ reads) i
    by true t same at rest = elim (rest (cc)) [ inl kept ↦ inl kept | inr w ↦ inr (more_wrong dig k _ reads i w) ]
    by false t same at rest = inr (
      bytes,
      here reads (cc),
      λ r. (let yes = right_true r in absurd cc),
    )

marked_keeps : (first count states i : _) → slice_get states i ≡ Some Marked → slice_get (marked_group first count states) i ≡ Some Marked
unfolding marked_group
marked_keeps first zero states i e = e
marked_keeps first (suc count) states i e = elim (set_get (marked_group first count states) (first + count) i {y = Marked} (marked_keeps first count states i e)) [ inl now ↦ now.1 | inr still ↦ still ]

module _ (dig : Digest) (b : BlockId) where
  abbrev Stays : EngineState → DeviceCalls → EngineState → Type 0
  Stays s calls mid = (state_at mid b ≡ Some Marked) ⊎ IsFoundWrong dig s calls b

  same_stays : {s mid : _} (calls : _) → mid ≡ s → state_at s b ≡ Some Marked → Stays s calls mid
  same_stays calls e m = inl (cc)

  found_in : {s t calls more : _} → tree_of t b.file ≡ tree_of s b.file → ((c : ℕ × Call) → Contains calls c → Contains more c)
      → IsFoundWrong dig s calls b → IsFoundWrong dig t more b
  found_in trees among w = record { tree = w.tree; bytes = w.bytes; has_tree = cc; read = among _ w.read; wrong = w.wrong }

  -- in a file that stands in the place of another
  file_stays : (R : Type 0) (s : EngineState) (file : ℕ) {f : _} (new : FileState) → slice_get s.files file ≡ Some f → state_at s b ≡ Some Marked
      → (b.file ≡ file → slice_get f.states b.block ≡ Some Marked → (slice_get new.states b.block ≡ Some Marked) ⊎ R)
      → (state_at (with_file s file new) b ≡ Some Marked) ⊎ R
  file_stays R s file {f} new at m keep = by _ refl
    where
      by : (t : Bool) → (b.file == file) ≡ t → (state_at (with_file s file new) b ≡ Some Marked) ⊎ R
      by true e =
          let same : b.file ≡ file = eqb-true b.file file e in
          let g = and_then_some (λ (q : FileState). slice_get q.states b.block) _ m in
          let is : g.0 ≡ f = cc in
          elim (keep same (cc)) [
            | inl kept ↦ inl (state_is (with_file s file new) b (ap (slice_get (slice_set s.files file new)) same ∙ set_same _ file at) kept)
            | inr r ↦ inr r
          ]
      by false e =
          let apart : b.file ≢ file = λ same. (let yes : (b.file == file) ≡ true = eq-eqb b.file file same in absurd cc) in
          inl (ap (option_and_then (λ (q : FileState). slice_get q.states b.block)) (set_other _ file _ new apart) ∙ m)

  hung_in : {s file f k : _} → IsFile s file f k → b.file ≡ file → tree_of s b.file ≡ Some k
  hung_in {s} is same = cc

  -- ---- wire events

  stop_stays : {s mid span calls effect : _} → StopsAtFault dig s span calls effect mid → state_at s b ≡ Some Marked → Stays s calls mid
  stop_stays {s} {mid} {span} {calls} {effect} x m = by x.finds
    where
      read_at_end : Contains calls (span.file, call_of x.tree.file_length x.read)
      read_at_end =
          rw x.made
          (map_contains (λ read. (span.file, call_of x.tree.file_length read)) (x.reads ++ x.read ∷ []) (Contains-append_right x.reads (x.read ∷ []) x.read (here [] refl)))

      by : FindsFault dig x.tree s span.file x.block x.file x.read effect mid → Stays s calls mid
      by (damaged bytes is wrong_bytes z e) = elim (file_stays (IsFoundWrong dig s calls b) s span.file (record x.file { states = slice_set x.file.states x.block Missing }) x.is_file.here m
          (λ same marked. elim (set_get x.file.states x.block b.block {y = Missing} marked) [
            | inl now ↦ inr (record {
              tree = x.tree;
              bytes = bytes;
              has_tree = hung_in x.is_file same;
              read = subst (λ r. Contains calls (b.file, call_of x.tree.file_length r)) (is ∙ ap (λ n. given n bytes) (sym now.0)) (rw same read_at_end);
              wrong = λ r. wrong_bytes (rw (← now.0) r);
            })
            | inr still ↦ inl still
          ])) [ inl kept ↦ inl (cc) | inr w ↦ inr w ]
      by (fault is y e) = same_stays calls e m

  request_stays : {s mid i p ask calls effect : _} → HandlesRequest dig s i p ask calls effect mid → state_at s b ≡ Some Marked → Stays s calls mid
  request_stays {calls} (ignored a c d e) m = same_stays calls e m
  request_stays {calls} (no_place a c d f e) m = same_stays calls e m
  request_stays {calls} (not_marked span a c d f g e) m = same_stays calls e m
  request_stays (served span a c d f) m = inl (cc)
  request_stays (stopped span a c d f) m = stop_stays f m

  put_stays : (k i bytes states j : _) (r : Result Put StoreError) → PutIsDue dig k i bytes states r → slice_get states j ≡ Some Marked
      → slice_get (states_after_put i r states) j ≡ Some Marked
  put_stays k i bytes states j (Ok PutMarked) due e = elim (set_get states i j {y = Marked} e) [ inl now ↦ now.1 | inr still ↦ still ]
  put_stays k i bytes states j (Ok PutWaiting) due e = elim (set_get states i j {y = Waiting} e) [
    | inl now ↦ absurd cc
    | inr still ↦ still
  ]
  put_stays k i bytes states j _ due e = e

  piece_stays : {s mid i p piece begin bytes calls effect : _} → HandlesPiece dig s i p piece begin bytes calls effect mid
      → state_at s b ≡ Some Marked → Stays s calls mid
  piece_stays {calls} (stale x y z e) m = same_stays calls e m
  piece_stays {s} {bytes} {calls} (arrives a) m =
      let q = a.puts in
      elim (file_stays (IsFoundWrong dig s calls b) s a.block.file (record q.file { states = states_after_put a.block.block q.result q.file.states }) q.is_file.here m
      (λ same marked. inl (put_stays q.tree a.block.block bytes q.file.states b.block q.result q.due marked))) [
        | inl kept ↦ inl (cc)
        | inr w ↦ inr w
      ]

  -- a marked block is not due
  settle_stays : {is_meant tree from count old new calls notes : _} → SettlesIn dig is_meant tree from count old calls notes new
      → state_at old b ≡ Some Marked → state_at new b ≡ Some Marked
  settle_stays {is_meant} {old} {new} s m =
      let f = and_then_some (λ q. slice_get q.states b.block) (slice_get old.files b.file) m in
      let unread : Contains (map block_of (s.reads b.file)) b.block → ⊥ = λ c. (
      let due = meant_then dig s.facts (is_meant b.file) (subst (λ xs. Contains xs b.block) (s.due b.file f.0 f.1) c) in
      let no = sym due.1.waited ∙ f.2 in absurd cc
      ) in
      state_is new b (s.files b.file ∙ ap (option_map (judged_file dig s.facts (s.reads b.file))) f.1)
      (judged_other dig s.facts false (s.reads b.file) f.0.states b.block unread ∙ f.2)

  hashes_stays : {s mid i p key digests calls effect : _} → HandlesHashes dig s i p key digests calls effect mid → state_at s b ≡ Some Marked
      → Stays s calls mid
  hashes_stays {calls} (unknown_root x y z e) m = same_stays calls e m
  hashes_stays {calls} (no_claim f x y c) m = same_stays calls c.after m
  hashes_stays {calls} (refused f t k c x y z g) m = same_stays calls g.after m
  hashes_stays (accepts_hashes l) m =
      inl (ap (λ z. state_at z b) l.after ∙ settle_stays l.settles m)

  have_stays : {s mid i p piece : _} (calls : _) {effect : _} → HandlesHave s i p piece effect mid → state_at s b ≡ Some Marked → Stays s calls mid
  have_stays calls (in_range x y e) m = inl (cc)
  have_stays calls (out_of_range x y e) m = same_stays calls e m

  bits_stays : {s mid i p bytes : _} (calls : _) {effect : _} → HandlesBitfield s i p bytes effect mid → state_at s b ≡ Some Marked → Stays s calls mid
  bits_stays calls (right x y e) m = inl (cc)
  bits_stays calls (wrong x y e) m = same_stays calls e m

  message_stays : (s mid i p : _) (msg : Sent) (calls effect : _) → HandlesMessage dig s i p msg calls effect mid → state_at s b ≡ Some Marked
      → Stays s calls mid
  message_stays s mid i p KeepAlive calls effect h m = inl (cc)
  message_stays s mid i p Choke calls effect h m = inl (cc)
  message_stays s mid i p Unchoke calls effect h m = inl (cc)
  message_stays s mid i p Interested calls effect h m = inl (cc)
  message_stays s mid i p NotInterested calls effect h m = inl (cc)
  message_stays s mid i p (Have piece) calls effect h m = have_stays calls h.1 m
  message_stays s mid i p (Bitfield bytes) calls effect h m = bits_stays calls h.1 m
  message_stays s mid i p (Request ask) calls effect h m = request_stays h m
  message_stays s mid i p (Piece piece begin bytes) calls effect h m = piece_stays h m
  message_stays s mid i p (Cancel ask) calls effect h m = inl (cc)
  message_stays s mid i p (HashRequest key) calls effect h m = inl (cc)
  message_stays s mid i p (Hashes key digests) calls effect h m = hashes_stays h m
  message_stays s mid i p (HashReject key) calls effect h m = inl (cc)

  event_stays : (s mid i p e calls effect : _) → Handles dig s i p e calls effect mid → state_at s b ≡ Some Marked → Stays s calls mid
  event_stays s mid i p (Hello h) calls effect t m = inl (cc)
  event_stays s mid i p (Message msg) calls effect t m = message_stays s mid i p msg calls _ t m
  event_stays s mid i p (Skipped kind) calls effect t m = inl (cc)

  -- ---- events

  taken_stays : {s mid : _} (new : _) {i p calls effect : _} → TakesEvent dig s i p calls effect mid → state_at new b ≡ state_at mid b
      → state_at s b ≡ Some Marked → Stays s calls new
  taken_stays {s} {mid} new {i} {p} {calls} {effect} t same m = elim (event_stays _ mid i _ _ calls _ t.handles m) [
    | inl kept ↦ inl (cc)
    | inr w ↦ inr (found_in refl (λ c among. among) w)
  ]

  next_stays : {s new key calls answer : _} → StepNext dig s key calls answer new → state_at s b ≡ Some Marked → Stays s calls new
  next_stays {calls} (no_peer x y z e) m = same_stays calls e m
  next_stays {calls} (waits i p x y z w e) m = same_stays calls e m
  next_stays {new} (keeps_peer i p out peer g x) m = taken_stays new g.takes (cc) m
  next_stays {new} (closes i p out peer g x) m = taken_stays new g.takes (cc) m
  next_stays (faulty i p out peer g x) m = inl (cc)
  next_stays (no_memory i p peer g x) m = inl (cc)

  connect_stays : {s new answer : _} → StepConnect s answer new → state_at new b ≡ state_at s b
  connect_stays (joins key bytes x y z w v e) = cc
  connect_stays (full x y e) = cc
  connect_stays (spent x y z e) = cc
  connect_stays (no_room x y z e) = cc

  feed_stays : {s new key bytes answer : _} → StepFeed s key bytes answer new → state_at new b ≡ state_at s b
  feed_stays (feeds i p x y e) = cc
  feed_stays (not_fed x y e) = cc
  feed_stays (no_room_to_feed i p x y e) = cc

  lost_stays : {s new key answer : _} → StepLost s key answer new → state_at new b ≡ state_at s b
  lost_stays (goes i p x y e) = cc
  lost_stays (not_lost x y e) = cc

  each_stays : (peers s new sent : _) → FollowsEach dig peers s sent new → state_at new b ≡ state_at s b
  each_stays [] s new sent f = cc
  each_stays (i ∷ peers) s new sent f = each_stays peers f.0 new f.2 f.4 ∙ ap (λ z. state_at z b) f.3.after

  rechoke_stays : {s new answer : _} → StepRechoke dig s answer new → state_at new b ≡ state_at s b
  rechoke_stays {new} (rechokes out r x) = each_stays _ _ new _ r.follows
  rechoke_stays (not_rechoked x e) = cc

  flush_stays : {s new calls answer : _} → StepFlush s calls answer new → state_at new b ≡ state_at s b
  flush_stays (syncs x y z e) = cc
  flush_stays (logs x y z e) = cc
  flush_stays (fails before file after x y z e) = cc
  flush_stays (unwritten before hint after cause x y z w e) = cc
  flush_stays (unflushed x y z e) = cc

  -- ---- a file that is taken in

  adopts_keep : {k grown from old new reads adopted : _} (i : ℕ) → Adopts dig k from old reads adopted grown new → slice_get old i ≡ Some Marked
      → (slice_get new i ≡ Some Marked) ⊎ GaveWrong dig k reads i
  adopts_keep {k} {old} i (known count rs group order) e = judged_keeps dig k rs old i e
  adopts_keep {old} i (accepted anchor first count rs g group whole accepts) e = inl (marked_keeps first count old i e)
  adopts_keep i _ e = inl e

  -- of a block of the file
  abbrev StaysIn : ℕ → EngineState → DeviceCalls → EngineState → Type 0
  StaysIn file s calls mid = (state_at mid b ≡ Some Marked) ⊎ ((b.file ≡ file) × IsFoundWrong dig s calls b)

  group_stays : {s new file from calls adopted : _} → AdoptsGroup dig s file from calls adopted new → state_at s b ≡ Some Marked → StaysIn file s calls new
  group_stays {s} {file} {calls} g m =
      elim (file_stays ((b.file ≡ file) × IsFoundWrong dig s calls b) s file (record g.state { states = g.states }) g.is_file.here m
      (λ same marked. elim (adopts_keep b.block g.adopts marked) [
        | inl kept ↦ inl kept
        | inr w ↦ inr (
          same,
          record {
            tree = g.tree;
            bytes = w.0;
            has_tree = hung_in g.is_file same;
            read = rw same (rw g.made (map_contains (λ read. (file, call_of g.tree.file_length read)) g.reads w.1));
            wrong = w.2;
          },
        )
      ])) [ inl kept ↦ inl (cc) | inr w ↦ inr w ]

  -- what is wrong by a tree that has grown was so before
  wrong_before : {s mid file from calls more adopted : _} → AdoptsGroup dig s file from calls adopted mid → b.file ≡ file
      → IsFoundWrong dig mid more b → IsFoundWrong dig s more b
  wrong_before {more} g same w =
      let h = group_forward dig g g.is_file in
      let tree = same_some w.has_tree (hung_in h.is_file same) in
      record {
        tree = g.tree;
        bytes = w.bytes;
        has_tree = hung_in g.is_file same;
        read = rw (← (ap (λ k. k.file_length) tree ∙ h.extends.file_length)) w.read;
        wrong = λ r. w.wrong (rw tree (right_in dig h.extends r));
      }

  groups_stays : (s new file from groups : _) (total : Adopted) → AdoptsGroups dig s file from groups total new → state_at s b ≡ Some Marked
      → StaysIn file s (flat_map (λ c. c) groups) new
  groups_stays s new file from [] total g m = inl (cc)
  groups_stays s new file from (calls ∷ groups) total g m = elim (group_stays g.3 m) [
    | inl mid ↦ elim (groups_stays g.1 new file g.0.next groups g.2 g.4 mid) [
      | inl kept ↦ inl kept
      | inr w ↦ inr (
        w.0,
        found_in refl (λ c among. Contains-append_right calls (flat_map (λ c. c) groups) c among)
            (wrong_before g.3 w.0 w.1),
      )
    ]
    | inr w ↦ inr (w.0, found_in refl (λ c among. Contains-append_left calls (flat_map (λ c. c) groups) c among) w.1)
  ]

  adopt_stays : {s new file calls answer : _} → StepAdopt dig s file calls answer new → state_at s b ≡ Some Marked → Stays s calls new
  adopt_stays {calls} (no_file x y z e) m = same_stays calls e m
  adopt_stays {calls} (busy x y z w e) m = same_stays calls e m
  adopt_stays {calls} (empty f x y z w v e) m = same_stays calls e m
  adopt_stays {s} {file} (adopts total x a y) m = elim (groups_stays s a.taken_in file 0 _ total a.adopts m) [
    | inl mid ↦ inl (ap (λ z. state_at z b) a.after ∙ settle_stays a.settles mid)
    | inr w ↦ inr (found_in refl (λ c among. rw a.made (Contains-append_left (flat_map (λ c. c) a.groups) a.settling c among)) w.1)
  ]
  adopt_stays {s} {new} {file} (not_adopted x a y) m = elim (groups_stays s new file 0 _ _ a.adopts m) [
    | inl kept ↦ inl kept
    | inr w ↦ inr (found_in refl (λ c among. rw a.made (Contains-append_left (flat_map (λ c. c) a.groups) _ c among)) w.1)
  ]

  step_stays : (s new e calls a : _) → e ≢ Restart → Step dig s e calls a new → state_at s b ≡ Some Marked → Stays s calls.devices new
  step_stays s new Connect calls a apart t m = inl (connect_stays t.3 ∙ m)
  step_stays s new (Feed key bytes) calls a apart t m = inl (feed_stays t.3 ∙ m)
  step_stays s new (Next key) calls a apart t m = next_stays t.3 m
  step_stays s new (Lost key) calls a apart t m = inl (lost_stays t.3 ∙ m)
  step_stays s new Rechoke calls a apart t m = inl (rechoke_stays t.3 ∙ m)
  step_stays s new (Adopt file) calls a apart t m = adopt_stays t.3 m
  step_stays s new Flush calls a apart t m = inl (flush_stays t.2 ∙ m)
  step_stays s new Restart calls a apart t m = absurd (apart refl)

pub step_unmarks : (dig : Digest) → StepUnmarksByBytes dig
step_unmarks dig s new e calls a apart step b before after = elim (step_stays dig b s new e calls a apart step before) [ inl kept ↦ absurd (after kept) | inr w ↦ w ]

-- ---- on an honest device

-- no event of the list is a restart
pub first_is : (event : Event) (events : List Event) → HasNoRestart (event ∷ events) → event ≢ Restart
first_is event events none = none 0 event (omega arith)

pub others_are : (event : Event) (events : List Event) → HasNoRestart (event ∷ events) → HasNoRestart events
others_are event events none i d lt = none (suc i) d (omega arith)

module _ {D : Type 0} (conduct : Conduct D) (dig : Digest) where
  -- what an honest device gave stands there
  given_stands : (s : EngineState) {calls file : _} (i n : ℕ) {bytes : _} (before after : History) → Touches s.files s.trees calls
      → AreAnswered before (calls_of file calls) after → Contains calls (file, call_of n (given i bytes)) → bytes ≡ stored_block n before.now.bytes i
  given_stands s {calls} {file} i n {bytes} before after (keeping keep) answered among =
      (calls_keep _ _ (λ c m. keep (file, c) (of_all calls m)) answered).read _ _ bytes (among_file calls among)
  given_stands s {file} i n {bytes} before after (putting b more g k call here has_tree missing whole only writes) answered among =
      elim (contains_cases [] (subst (λ cs. Contains cs (file, call_of n (given i bytes))) only among)) [
        | inl same ↦ (
            let call_is = ap (λ x. x.1) same in
            absurd (elim writes [ inl wrote ↦ no_write (sym call_is ∙ wrote) | inr torn ↦ no_fault (sym call_is ∙ torn) ])
            )
        | inr none_left ↦ absurd (contains_none none_left)
      ]

  pub marks_kept : StepKeepsMarks conduct dig
  marks_kept old new event calls answer disks after b e apart step have sound there honest_now before = elim (step_stays dig b old new event calls _ apart step before) [
    | inl kept ↦ kept
    | inr w ↦
        let d = have.each b.file e there in
        let honest_before = d.2.as_honest.1 honest_now in
        let f = and_then_some (λ q. slice_get q.states b.block) _ before in
        let has_tree : slice_get old.trees f.0.tree ≡ Some w.tree = cc in
        let there_before = sound b.file f.0 w.tree d.0 (record { here = f.1; has_tree = has_tree }) d.1 honest_before b.block f.2 in
        let stands = given_stands old _ _ _ _ (step_touches dig old new event calls _ step) (d.2.answered honest_before) w.read in
        absurd (w.wrong (rw stands there_before))
  ]

  -- the device was there before, and honest
  pub device_before : (old new events calls answers : _) (disks after : List (Option D)) (file : _) {e : D}
      → RunOn conduct dig old disks events calls answers new after → slice_get after file ≡ Some (Some e) → conduct.honest e
      → (d : D) × (slice_get disks file ≡ Some (Some d)) × conduct.honest d
  device_before old new [] [] [] disks after file {e} run there honest_now = (e, sym (cc) ∙ there, honest_now)
  device_before old new (x ∷ xs) (c ∷ calls) (a ∷ answers) disks after file run there honest_now =
      let mid = device_before run.0 new xs calls answers run.1 after file run.4 there honest_now in
      let d = run.3.each file mid.0 mid.1 in
      (d.0, d.1, d.2.as_honest.1 mid.2)
  device_before old new _ _ _ disks after file run there honest_now = absurd run

module _ {D : Type 0} (conduct : Conduct D) (dig : Digest) (marks : AdoptMarksByBytes dig) where
  pub run_marks_kept : RunKeepsMarks conduct dig
  run_marks_kept old new [] [] [] disks after b e none run sound there honest_now before = cc
  run_marks_kept old new (x ∷ xs) (c ∷ calls) (a ∷ answers) disks after b e none run sound there honest_now before =
      let mid = device_before conduct dig run.0 new xs calls answers run.1 after b.file run.4 there honest_now in
      let kept = marks_kept conduct dig old run.0 x c a disks run.1 b mid.0 (first_is x xs none) run.2 run.3 sound mid.1 mid.2 before in
      run_marks_kept run.0 new xs calls answers run.1 after b e (others_are x xs none) run.4 (step_sound conduct dig marks old run.0 x c a disks run.1 run.2 run.3 sound) there honest_now kept
  run_marks_kept old new _ _ _ disks after b e none run sound there honest_now before = absurd run
