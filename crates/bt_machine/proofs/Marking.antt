-- A step marks a block by bytes of that step alone.
use Rattle.bt_machine.proofs.Base.{[], ◌≡◌, ◌≢◌, ℕ, ◌+◌, ◌*◌, ◌<◌, ◌≤◌, ◌⊎◌, inl, inr, Bool, true, false, List, ◌∷◌, length, Some, refl, sym, ap, ◌∙◌, slice_get, slice_set, Contains, Result, Ok, Err, ◌==◌, if◌then◌else◌, option_and_then, range_with_len, eqb-true, full_block_length, Facts, Accepts, Claim, bytes_written, IsClaimBy, HashKey, AdoptMarksByBytes, IsRight, PutIsDue, states_after_put, Marked, StoreError, Put, Already, Wrong, PutMarked, PutWaiting, BlockId, PeerMessage as Sent, KeepAlive, Choke, Unchoke, Interested, NotInterested, Have, Bitfield, Request, Piece, Cancel, HashRequest, Hashes, HashReject, WireEvent, Hello, Message, Skipped}
use Rattle.bt_machine.proofs.Machine.{Digest, Event, Connect, Feed, Next, Lost, Rechoke, Adopt, Flush, Restart, PeerState, FileState, EngineState, DeviceCalls, state_at, tree_of, with_file, with_peer, with_tree, IsRangeOf, FindsFault, damaged, fault, HandlesRequest, ignored, no_place, not_marked, served, stopped, Arrives, HandlesPiece, stale, arrives, IsTreeOf, settled_count, HandlesHashes, unknown_root, no_claim, refused, accepts_hashes, HandlesHave, in_range, out_of_range, HandlesBitfield, right, wrong, HandlesMessage, Handles, IsPeer, TakesEvent, StepNext, no_peer, waits, keeps_peer, closes, faulty, no_memory, StepConnect, joins, full, spent, no_room, StepFeed, feeds, not_fed, no_room as no_room_to_feed, StepLost, goes, not_fed as not_lost, FollowsEach, StepRechoke, rechokes, not_rechoked, StepFlush, syncs, writes, fails, unwritten, unflushed, EventCalls, Answer, Step, Run, StepMarksByBytes, IsMarkedBy, brought, read_back, recovered, IsSoAt, IsMarkedIn}
use Rattle.bt_machine.proofs.Lists.{contains_none, range_limits, set_cases, set_same}
use Rattle.bt_machine.proofs.Marks.{state_is, file_marked, missing_marks, IsSettled, settle_marks}
use Rattle.bt_machine.specs.Law.{StartMarksByBytes}
use Rattle.bt_machine.proofs.Adopting.{adopt_marks}
use Rattle.bt_machine.proofs.Restarts.{IsRestart, anew, as_before as hints_alone, restart_is, recovered_marks}

block_is : {b c : BlockId} → b.file ≡ c.file → b.block ≡ c.block → b ≡ c
block_is {b} {c} e f = ap (λ n. record b { file = n }) e ∙ ap (λ n. record c { block = n }) f

-- only a run of leaves has blocks to be settled
leaves_only : (key : HashKey) {i : ℕ} → Contains (range_with_len key.index (settled_count key)) i
    → (key.base ≡ 0) × (key.index ≤ i) × (i < key.index + key.length)
leaves_only key {i} c = by _ refl c
  where
    by : (b : Bool) → (key.base == 0) ≡ b → Contains (range_with_len key.index (if b then key.length else 0)) i
        → (key.base ≡ 0) × (key.index ≤ i) × (i < key.index + key.length)
    by true e c = let limits = range_limits _ _ c in (eqb-true key.base 0 e, limits.0, limits.1)
    by false e c = absurd (contains_none c)

-- what marked a block in the course of a wire event
data IsSeen (dig : Digest) (s : EngineState) (p : PeerState) (e : WireEvent) (calls : DeviceCalls) (mid : EngineState) (b : BlockId) : Type 0 where
  came : (piece begin : ℕ) (bytes : List ℕ) (tree : Facts) → e ≡ Message (Piece piece begin bytes) → IsRangeOf s.torrent piece begin (length bytes) b → Contains p.asked b
      → tree_of mid b.file ≡ Some tree → calls ≡ (b.file, bytes_written (full_block_length * b.block) bytes) ∷ [] → IsRight dig tree b.block bytes → IsSeen dig s p e calls mid b
  waited : (key : HashKey) (digests : List ℕ) (tree : ℕ) (old new : Facts) (claim : Claim) → e ≡ Message (Hashes key digests) → IsTreeOf s key.root tree old
      → IsClaimBy key digests claim → Accepts dig old claim new
      → IsSettled dig (λ file. true) tree key.index (settled_count key) (with_tree s tree new) calls mid b → IsSeen dig s p e calls mid b

-- the block was marked before, or is seen to be right
abbrev Marks : (List ℕ → List ℕ) → EngineState → PeerState → WireEvent → DeviceCalls → EngineState → BlockId → Type 0
Marks dig s p e calls mid b = (state_at s b ≡ Some Marked) ⊎ IsSeen dig s p e calls mid b

module _ (dig : Digest) (marks : AdoptMarksByBytes dig) (b : BlockId) where
  -- the engine is one in which the same blocks are marked
  as_before : {m mid : _} → mid ≡ m → state_at mid b ≡ Some Marked → state_at m b ≡ Some Marked
  as_before e marked = rw (← e) marked

  have_marks : {s mid i p piece effect : _} → HandlesHave s i p piece effect mid → state_at mid b ≡ Some Marked → state_at s b ≡ Some Marked
  have_marks (in_range x y e) m = as_before e m
  have_marks (out_of_range x y e) m = as_before e m

  bits_marks : {s mid i p bytes effect : _} → HandlesBitfield s i p bytes effect mid → state_at mid b ≡ Some Marked → state_at s b ≡ Some Marked
  bits_marks (right x y e) m = as_before e m
  bits_marks (wrong x y e) m = as_before e m

  -- in a file that stands in the place of another
  in_file : (s : EngineState) (file : ℕ) {f : _} (new : _) → slice_get s.files file ≡ Some f → state_at (with_file s file new) b ≡ Some Marked
      → (slice_get new.states b.block ≡ Some Marked → slice_get f.states b.block ≡ Some Marked) → state_at s b ≡ Some Marked
  in_file s file new at marked kept = elim (file_marked s new b marked) [
    | inl now ↦ state_is s b (ap (slice_get s.files) now.0 ∙ at) (kept now.1)
    | inr old ↦ old
  ]

  fault_marks : {s : EngineState} {k mid file i f read effect : _} → slice_get s.files file ≡ Some f → FindsFault dig k s file i f read effect mid
      → state_at mid b ≡ Some Marked → state_at s b ≡ Some Marked
  fault_marks {s} {file} {i} {f} at (damaged bytes x y z e) m = in_file s file _ at (as_before e m) (λ now. missing_marks _ i _ now)
  fault_marks at (fault x y e) m = as_before e m

  request_marks : {s mid i p ask calls effect : _} → HandlesRequest dig s i p ask calls effect mid → state_at mid b ≡ Some Marked → state_at s b ≡ Some Marked
  request_marks (ignored a c d e) m = as_before e m
  request_marks (no_place a c d f e) m = as_before e m
  request_marks (not_marked span a c d f g e) m = as_before e m
  request_marks (served span a c d f) m = as_before f.after m
  request_marks (stopped span a c d f) m = fault_marks f.is_file.here f.finds m

  -- a block that is marked after one was put was marked, or is that one
  put_marks : (s : EngineState) {c : BlockId} {bytes f tree : _} → slice_get s.files c.file ≡ Some f → (r : Result Put StoreError)
      → PutIsDue dig tree c.block bytes f.states r
      → state_at (with_file s c.file (record f { states = states_after_put c.block r f.states })) b ≡ Some Marked
      → (state_at s b ≡ Some Marked) ⊎ ((c ≡ b) × (r ≡ Ok PutMarked) × IsRight dig tree c.block bytes)
  put_marks s {c} {f} at (Ok PutMarked) due m = elim (file_marked s (record f { states = slice_set f.states c.block Marked }) b m) [
    | inl now ↦ elim (set_cases f.states c.block b.block now.1) [
      | inl one ↦ inr (sym (block_is now.0 one.0), refl, record { whole = due.0.whole; leaf = due.2 })
      | inr old ↦ inl (state_is s b (ap (slice_get s.files) now.0 ∙ at) old)
    ]
    | inr old ↦ inl old
  ]
  put_marks s {c} {f} at (Ok PutWaiting) due m =
      inl (in_file s c.file _ at m (λ now. elim (set_cases f.states c.block b.block now) [ inl one ↦ absurd cc | inr old ↦ old ]))
  put_marks s {c} at (Ok Already) due m = inl (in_file s c.file _ at m (λ now. now))
  put_marks s {c} at (Ok Wrong) due m = inl (in_file s c.file _ at m (λ now. now))
  put_marks s {c} at (Err e) due m = inl (in_file s c.file _ at m (λ now. now))

  arrives_marks : {s mid i p piece begin bytes calls effect : _} → Arrives dig s i p piece begin bytes calls effect mid
      → state_at mid b ≡ Some Marked → Marks dig s p (Message (Piece piece begin bytes)) calls mid b
  arrives_marks {s} {mid} {p} {piece} {begin} {bytes} {calls} a m =
      let at = a.puts.is_file.here in
      let new : FileState = record a.puts.file { states = states_after_put a.block.block a.puts.result a.puts.file.states } in
      elim (put_marks s at a.puts.result a.puts.due (as_before a.puts.after (as_before a.after m))) [
        | inl old ↦ inl old
        | inr now ↦
            let has_tree =
            ap (option_and_then (λ q. slice_get s.trees q.tree)) (set_same s.files a.block.file at) ∙ a.puts.is_file.has_tree in
            let stored : tree_of a.stored a.block.file ≡ Some a.puts.tree = rw a.puts.after has_tree in
            let known : tree_of mid a.block.file ≡ Some a.puts.tree = cc in
            let made : calls ≡ (a.block.file, bytes_written (full_block_length * a.block.block) bytes) ∷ [] = cc in
            inr (rw (← now.0) (came piece begin bytes a.puts.tree refl a.whole a.asked known made now.2))
      ]

  piece_marks : {s mid i p piece begin bytes calls effect : _} → HandlesPiece dig s i p piece begin bytes calls effect mid
      → state_at mid b ≡ Some Marked → Marks dig s p (Message (Piece piece begin bytes)) calls mid b
  piece_marks (stale x y z e) m = inl (as_before e m)
  piece_marks (arrives a) m = arrives_marks a m

  -- a block that was settled in one engine was so in one that has the same trees
  settled_in : {tree from count s mid new calls : _} → tree_of new b.file ≡ tree_of mid b.file
      → IsSettled dig (λ file. true) tree from count s calls mid b → IsSettled dig (λ file. true) tree from count s calls new b
  settled_in trees r = record {
    facts = r.facts;
    file = r.file;
    bytes = r.bytes;
    meant = r.meant;
    here = r.here;
    of_tree = r.of_tree;
    known = r.known;
    in_run = r.in_run;
    waited = r.waited;
    has_tree = cc;
    read = r.read;
    right = r.right;
  }

  hashes_marks : {s mid i p key digests calls effect e : _} → HandlesHashes dig s i p key digests calls effect mid
      → e ≡ Message (Hashes key digests) → state_at mid b ≡ Some Marked → Marks dig s p e calls mid b
  hashes_marks (unknown_root x y z e) is m = inl (as_before e m)
  hashes_marks (no_claim f x y c) is m = inl (as_before c.after m)
  hashes_marks (refused f t k c x y z g) is m = inl (as_before g.after m)
  hashes_marks {key} {digests} (accepts_hashes l) is m =
      elim (settle_marks l.settles (as_before l.after m)) [
        | inl old ↦ inl old
        | inr r ↦ inr (waited key digests l.tree l.old l.new l.claim is l.here l.claims l.accepts (settled_in (cc) r))
      ]

  message_marks : (s mid i p : _) (msg : Sent) (calls effect : _) → HandlesMessage dig s i p msg calls effect mid → state_at mid b ≡ Some Marked
      → Marks dig s p (Message msg) calls mid b
  message_marks s mid i p KeepAlive calls effect h m = inl (as_before h.2 m)
  message_marks s mid i p Choke calls effect h m = inl (as_before h.2 m)
  message_marks s mid i p Unchoke calls effect h m = inl (as_before h.2 m)
  message_marks s mid i p Interested calls effect h m = inl (as_before h.2 m)
  message_marks s mid i p NotInterested calls effect h m = inl (as_before h.2 m)
  message_marks s mid i p (Have piece) calls effect h m = inl (have_marks h.1 m)
  message_marks s mid i p (Bitfield bytes) calls effect h m = inl (bits_marks h.1 m)
  message_marks s mid i p (Request ask) calls effect h m = inl (request_marks h m)
  message_marks s mid i p (Piece piece begin bytes) calls effect h m = piece_marks h m
  message_marks s mid i p (Cancel ask) calls effect h m = inl (as_before h.2 m)
  message_marks s mid i p (HashRequest key) calls effect h m = inl (as_before h.2 m)
  message_marks s mid i p (Hashes key digests) calls effect h m = hashes_marks h refl m
  message_marks s mid i p (HashReject key) calls effect h m = inl (as_before h.2.after m)

  event_marks : (s mid i p e calls effect : _) → Handles dig s i p e calls effect mid → state_at mid b ≡ Some Marked → Marks dig s p e calls mid b
  event_marks s mid i p (Hello h) calls effect t m = inl (as_before t.2 m)
  event_marks s mid i p (Message msg) calls effect t m = message_marks s mid i p msg calls _ t m
  event_marks s mid i p (Skipped kind) calls effect t m = inl (as_before t.2 m)

  -- a block that a taken event marked, in an engine that has the trees after it
  taken_marks : {s mid new key i p calls effect : _} → IsPeer s key i p → TakesEvent dig s i p calls effect mid
      → tree_of new b.file ≡ tree_of mid b.file → state_at mid b ≡ Some Marked → (state_at s b ≡ Some Marked) ⊎ IsMarkedBy dig s (Next key) calls new b
  taken_marks {s} {mid} {new} {key} {i} {p} {calls} {effect} peer t trees m =
      elim (event_marks _ mid i _ _ calls _ t.handles m) [
        | inl old ↦ inl old
        | inr seen ↦ inr (from seen)
      ]
    where
      from : IsSeen dig (with_peer s i (record p { stream = t.rest })) (record p { stream = t.rest }) t.event calls mid b
          → IsMarkedBy dig s (Next key) calls new b
      from (came piece begin bytes tree is whole asked has_tree written exact) =
          brought (record {
            key = key;
            place = i;
            peer = p;
            piece = piece;
            begin = begin;
            bytes = bytes;
            rest = t.rest;
            tree = tree;
            is_next = refl;
            is_peer = peer;
            takes = rw (sym is) t.takes;
            whole = whole;
            asked = asked;
            has_tree = cc;
            written = written;
            right = exact;
          })
      from (waited run digests tree before after claim is here claims accepts r) =
          let there : slice_get (slice_set s.trees tree after) tree ≡ Some after = set_same _ tree here.here in
          let facts : after ≡ r.facts = cc in
          let leaves = leaves_only run r.in_run in
          read_back (record {
            tree = r.facts;
            bytes = r.bytes;
            waited = r.waited;
            due = inl (record {
              key = key;
              place = i;
              peer = p;
              run = run;
              digests = digests;
              rest = t.rest;
              before = before;
              claim = claim;
              is_next = refl;
              is_peer = peer;
              takes = rw (sym is) t.takes;
              of_leaves = leaves.0;
              from = leaves.1;
              below = leaves.2;
              has_tree = cc;
              same_root = here.same_root;
              claims = claims;
              accepts = rw (← facts) accepts;
            });
            has_tree = cc;
            read = r.read;
            right = r.right;
          })

  -- the block was marked before, or is marked by this event
  abbrev Now : EngineState → Event → DeviceCalls → EngineState → Type 0
  Now s event calls new = (state_at s b ≡ Some Marked) ⊎ IsMarkedBy dig s event calls new b

  next_marks : {s new key calls answer : _} → StepNext dig s key calls answer new → state_at new b ≡ Some Marked → Now s (Next key) calls new
  next_marks (no_peer x y z e) m = inl (as_before e m)
  next_marks (waits i p x y z w e) m = inl (as_before e m)
  next_marks (keeps_peer i p out peer g x) m = taken_marks peer g.takes (cc) (as_before g.follows.after m)
  next_marks (closes i p out peer g x) m = taken_marks peer g.takes (cc) (as_before g.after m)
  next_marks (faulty i p out peer g x) m = inl (as_before g.after m)
  next_marks (no_memory i p peer g x) m = inl (as_before g.after m)

  connect_marks : {s new answer : _} → StepConnect s answer new → state_at new b ≡ Some Marked → state_at s b ≡ Some Marked
  connect_marks (joins key bytes x y z w v e) m = as_before e m
  connect_marks (full x y e) m = as_before e m
  connect_marks (spent x y z e) m = as_before e m
  connect_marks (no_room x y z e) m = as_before e m

  feed_marks : {s new key bytes answer : _} → StepFeed s key bytes answer new → state_at new b ≡ Some Marked → state_at s b ≡ Some Marked
  feed_marks (feeds i p x y e) m = as_before e m
  feed_marks (not_fed x y e) m = as_before e m
  feed_marks (no_room_to_feed i p x y e) m = as_before e m

  lost_marks : {s new key answer : _} → StepLost s key answer new → state_at new b ≡ Some Marked → state_at s b ≡ Some Marked
  lost_marks (goes i p x y e) m = as_before e m
  lost_marks (not_lost x y e) m = as_before e m

  each_marks : (peers s new sent : _) → FollowsEach dig peers s sent new → state_at new b ≡ Some Marked → state_at s b ≡ Some Marked
  each_marks [] s new sent f m = as_before f.1 m
  each_marks (i ∷ peers) s new sent f m = as_before f.3.after (each_marks peers f.0 new f.2 f.4 m)

  rechoke_marks : {s new answer : _} → StepRechoke dig s answer new → state_at new b ≡ Some Marked → state_at s b ≡ Some Marked
  rechoke_marks {new} (rechokes out r x) m = each_marks _ _ new _ r.follows m
  rechoke_marks (not_rechoked x e) m = as_before e m

  flush_marks : {s new calls answer : _} → StepFlush s calls answer new → state_at new b ≡ Some Marked → state_at s b ≡ Some Marked
  flush_marks (syncs x y z e) m = as_before e m
  flush_marks (writes x y z e) m = as_before e m
  flush_marks (fails before file after x y z e) m = as_before e m
  flush_marks (unwritten before hint after cause x y z w e) m = as_before e m
  flush_marks (unflushed x y z e) m = as_before e m

  restart_marks : {s new calls : _} → IsRestart dig s calls new → state_at new b ≡ Some Marked → Now s Restart calls new
  restart_marks (anew hints none recovers places) m = inr (recovered refl (recovered_marks dig recovers b m))
  restart_marks (hints_alone none made e) m = inl (as_before e m)

  pub step_cases : (s new e calls a : _) → Step dig s e calls a new → state_at new b ≡ Some Marked → Now s e calls.devices new
  step_cases s new Connect calls a t m = inl (connect_marks t.3 m)
  step_cases s new (Feed key bytes) calls a t m = inl (feed_marks t.3 m)
  step_cases s new (Next key) calls a t m = next_marks t.3 m
  step_cases s new (Lost key) calls a t m = inl (lost_marks t.3 m)
  step_cases s new Rechoke calls a t m = inl (rechoke_marks t.3 m)
  step_cases s new (Adopt file) calls a t m = adopt_marks dig marks b t.3 m
  step_cases s new Flush calls a t m = inl (flush_marks t.2 m)
  step_cases s new Restart calls a t m = restart_marks (restart_is t.2) m

pub start_marks : (dig : Digest) → StartMarksByBytes dig
start_marks dig torrent hints calls new starts b m = recovered_marks dig starts b m

pub step_marks : {dig : Digest} → AdoptMarksByBytes dig → StepMarksByBytes dig
step_marks {dig} marks s new e calls a t b m before = elim (step_cases dig marks b s new e calls a t m) [ inl old ↦ absurd (before old) | inr now ↦ now ]

-- one event further on
pub after_step : {dig P s mid last e es c calls a before answer after : _} → Step dig s e c a mid
    → IsSoAt dig mid es calls before answer after last P → IsSoAt dig s (e ∷ es) (c ∷ calls) (a ∷ before) answer after last P
after_step {mid} {e} {c} t i = record {
  events_before = e ∷ i.events_before;
  calls_before = c ∷ i.calls_before;
  old = i.old;
  event = i.event;
  calls_then = i.calls_then;
  new = i.new;
  events_after = i.events_after;
  calls_after = i.calls_after;
  events_are = cc;
  calls_are = cc;
  run = (mid, t, i.run);
  step = i.step;
  goes_on = i.goes_on;
  is_so = i.is_so;
}

-- at the first event
pub at_first : {dig : Digest} {P : EngineState → Event → DeviceCalls → EngineState → Type 0} {s : EngineState} (mid : _) {last : EngineState} {e : Event} {es : List Event} {c : EventCalls} {calls : List EventCalls} {a : Answer} {after : List Answer}
    → Step dig s e c a mid → Run dig mid es calls after last → P s e c.devices mid → IsSoAt dig s (e ∷ es) (c ∷ calls) [] a after last P
at_first {s} mid {e} {es} {c} {calls} t rest by = record {
  events_before = [];
  calls_before = [];
  old = s;
  event = e;
  calls_then = c;
  new = mid;
  events_after = es;
  calls_after = calls;
  events_are = refl;
  calls_are = refl;
  run = refl;
  step = t;
  goes_on = rest;
  is_so = by;
}

-- a block that is marked after a run was so before it, or became so within it
run_cases : {dig s new : _} → AdoptMarksByBytes dig → (es calls answers : _) → Run dig s es calls answers new → {b : _} → state_at new b ≡ Some Marked
    → (state_at s b ≡ Some Marked) ⊎ IsMarkedIn dig s es calls answers new b
run_cases marks [] [] [] run {b} m = inl (rw (← run) m)
run_cases {dig} {s} marks (e ∷ es) (c ∷ calls) (a ∷ answers) run {b} m = elim (run_cases marks es calls answers run.2 m) [
  | inl mid ↦ elim (step_cases dig marks b s run.0 e c a run.1 mid) [
    | inl old ↦ inl old
    | inr now ↦ inr (record {
      before = [];
      answer = a;
      after = answers;
      answers_are = refl;
      marked = at_first run.0 run.1 run.2 now;
    })
  ]
  | inr i ↦ inr (record {
    before = a ∷ i.before;
    answer = i.answer;
    after = i.after;
    answers_are = cc;
    marked = after_step run.1 i.marked;
  })
]
run_cases _ _ _ _ run m = absurd run

pub run_marks : {dig : _} → AdoptMarksByBytes dig → (s new es calls answers : _) → Run dig s es calls answers new
    → (b : _) → state_at new b ≡ Some Marked → state_at s b ≢ Some Marked → IsMarkedIn dig s es calls answers new b
run_marks marks s new es calls answers run b m before = elim (run_cases marks es calls _ run m) [ inl old ↦ absurd (before old) | inr now ↦ now ]
