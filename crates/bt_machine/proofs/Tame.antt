-- What a step does to trees, files and devices: trees grow, and it reads blocks, or syncs, or writes one missing block.
use Rattle.bt_machine.proofs.Base.{[], ◌≡◌, ◌≢◌, ℕ, ◌*◌, ◌⊎◌, inl, inr, List, ◌∷◌, ◌++◌, length, Some, Result, Ok, Err, refl, sym, ap, ◌∙◌, subst, slice_get, slice_set, flat_map, Contains-append_cases, full_block_length, block_length, Call, bytes_written, write_fault, sync_made, sync_fault, Facts, value_at, BlockRead, given, failed, call_of, PutIsDue, calls_of_put, states_after_put, Missing, StoreError, Range, DeviceFault, Put, Already, Wrong, PutMarked, PutWaiting, BlockId, PeerMessage as Sent, KeepAlive, Choke, Unchoke, Interested, NotInterested, Have, Bitfield, Request, Piece, Cancel, HashRequest, Hashes, HashReject, Hello, Message, Skipped}
use Rattle.bt_machine.proofs.Machine.{Digest, Connect, Feed, Next, Lost, Rechoke, Adopt, Flush, Restart, Event, Answer, FileState, EngineState, DeviceCalls, EventCalls, calls_at, reads_at, with_file, with_tree, SettlesIn, FindsFault, damaged, fault, HandlesRequest, ignored, no_place, not_marked, served, stopped, Arrives, HandlesPiece, stale, arrives, HandlesHashes, unknown_root, no_claim, refused, accepts_hashes, HandlesHave, in_range, out_of_range, HandlesBitfield, right, wrong, HandlesMessage, Handles, StepNext, no_peer, waits, keeps_peer, closes, faulty, no_memory, StepConnect, joins, full, spent, no_room, StepFeed, feeds, not_fed, no_room as no_room_to_feed, StepLost, goes, not_fed as not_lost, FollowsEach, StepRechoke, rechokes, not_rechoked, AdoptsGroup, AdoptsGroups, StepAdopt, no_file, busy, empty, adopts, not_adopted, StepFlush, syncs_of, data_files, syncs, writes as logs, fails, unwritten, unflushed, Recovers, Step, KeepsBytes, AllKeepBytes, IsWriteOfMissing, StepWritesMissing}
use Rattle.bt_resume.specs.declared.hint.Hint.{Hint}
use Rattle.bt_machine.specs.Recovery.{RestoresFile, empty as no_block, restored, RestoresFiles}
use Rattle.bt_machine.proofs.Lists.{set_cases, map_some, contains_none, contains_cases, contains_map, contains_flat_map}
use Rattle.bt_machine.proofs.Adopting.{value_kept, group_extends}
use Rattle.bt_machine.proofs.Restarts.{restart_or, IsRestart, anew, as_before, restart_is}

-- where a file's tree comes from
pub record GrownFrom (dig : Digest) (files : List FileState) (trees : List Facts) (file : ℕ) (new : Facts) : Type 0 where
  pub old_file : FileState
  pub old_tree : Facts
  pub here : slice_get files file ≡ Some old_file
  pub has_tree : slice_get trees old_file.tree ≡ Some old_tree
  pub same_length : new.file_length ≡ old_tree.file_length
  pub same_root : new.root ≡ old_tree.root
  pub kept : (i : ℕ) (d : List ℕ) → value_at dig old_tree 0 i ≡ Some d → value_at dig new 0 i ≡ Some d

abbrev pub Grows : (List ℕ → List ℕ) → List FileState → List Facts → EngineState → Type 0
Grows dig files trees mid = (file : ℕ) (f : FileState) (k : Facts) → slice_get mid.files file ≡ Some f → slice_get mid.trees f.tree ≡ Some k → GrownFrom dig files trees file k

-- which calls were made
pub data Touches (files : List FileState) (trees : List Facts) (calls : DeviceCalls) : Type 0 where
  keeping : AllKeepBytes calls → Touches files trees calls
  putting : (b : BlockId) (bytes : List ℕ) (f : FileState) (k : Facts) (call : Call) → slice_get files b.file ≡ Some f → slice_get trees f.tree ≡ Some k → slice_get f.states b.block ≡ Some Missing
      → length bytes ≡ block_length k.file_length b.block → calls ≡ (b.file, call) ∷ []
      → (call ≡ bytes_written (full_block_length * b.block) bytes) ⊎ (call ≡ write_fault (full_block_length * b.block) bytes) → Touches files trees calls

abbrev pub Tame : (List ℕ → List ℕ) → List FileState → List Facts → DeviceCalls → EngineState → Type 0
Tame dig files trees calls mid = Grows dig files trees mid × Touches files trees calls

no_calls : AllKeepBytes []
no_calls c among = absurd (contains_none among)

keep_is : {xs ys : _} → xs ≡ ys → AllKeepBytes ys → AllKeepBytes xs
keep_is e f = rw e f

read_keeps : (n : ℕ) (r : BlockRead) → KeepsBytes (call_of n r)
read_keeps n (given i bytes) = tt
read_keeps n (failed i) = tt

reads_keep : (file n reads : _) → AllKeepBytes (reads_at file n reads)
reads_keep file n reads c among =
    let m = contains_map (λ read. (file, call_of n read)) reads among in
    rw (← m.2) (read_keeps n m.0)

syncs_keep : (files : _) → AllKeepBytes (syncs_of files)
syncs_keep files c among =
    let m = contains_map (λ file. (file, sync_made)) files among in
    rw (← m.2) tt

all_synced : (s : EngineState) {files trees calls : _} → calls ≡ syncs_of (data_files s) → Touches files trees calls
all_synced s e = keeping (keep_is e (syncs_keep (data_files s)))

append_keeps : (xs ys : _) → AllKeepBytes xs → AllKeepBytes ys → AllKeepBytes (xs ++ ys)
append_keeps xs ys f g c among = elim (Contains-append_cases xs ys c among) [ inl one ↦ f c one | inr more ↦ g c more ]

module _ (dig : Digest) where
  same_tree : {files : List FileState} {trees : List Facts} {file : ℕ} {f : FileState} {k : Facts} → slice_get files file ≡ Some f
      → slice_get trees f.tree ≡ Some k → GrownFrom dig files trees file k
  same_tree {f} {k} at has_tree = record { old_file = f; old_tree = k; here = at; has_tree = has_tree; same_length = refl; same_root = refl; kept = λ i d e. e }

  -- the engine has the same files and trees
  stays : (s mid : EngineState) → mid.files ≡ s.files → mid.trees ≡ s.trees → Grows dig s.files s.trees mid
  stays s mid files trees file f k at has_tree = same_tree (sym (cc) ∙ at) (cc)

  -- one like another
  like : (files trees : _) (m mid : EngineState) → mid.files ≡ m.files → mid.trees ≡ m.trees → Grows dig files trees m → Grows dig files trees mid
  like files trees m mid sames sametrees g file f k at has_tree = g file f k (cc) (cc)

  quiet : (s mid : EngineState) {calls : _} → mid.files ≡ s.files → mid.trees ≡ s.trees → calls ≡ [] → Tame dig s.files s.trees calls mid
  quiet s mid files trees none = (stays s mid files trees, keeping (keep_is none no_calls))

  -- a file stands in the place of one with the same tree
  file_grows : (s : EngineState) (file : ℕ) {f : _} (new : FileState) → slice_get s.files file ≡ Some f → new.tree ≡ f.tree
      → Grows dig s.files s.trees (with_file s file new)
  file_grows s file new at same other g k there has_tree = elim (set_cases _ file other there) [
    | inl now ↦ same_tree (ap (slice_get s.files) now.0 ∙ at) (cc)
    | inr old ↦ same_tree old has_tree
  ]

  have_tame : {s mid i p piece calls effect : _} → calls ≡ [] → HandlesHave s i p piece effect mid → Tame dig s.files s.trees calls mid
  have_tame {s} {mid} none (in_range x y e) = quiet s mid (cc) (cc) none
  have_tame {s} {mid} none (out_of_range x y e) = quiet s mid (cc) (cc) none

  bits_tame : {s mid i p bytes calls effect : _} → calls ≡ [] → HandlesBitfield s i p bytes effect mid → Tame dig s.files s.trees calls mid
  bits_tame {s} {mid} none (right x y e) = quiet s mid (cc) (cc) none
  bits_tame {s} {mid} none (wrong x y e) = quiet s mid (cc) (cc) none

  fault_grows : {s : EngineState} {k mid file i f read effect : _} → slice_get s.files file ≡ Some f → FindsFault dig k s file i f read effect mid
      → Grows dig s.files s.trees mid
  fault_grows {s} {mid} {file} {i} {f} at (damaged bytes x y z e) =
      let new : FileState = record f { states = slice_set f.states i Missing } in
      like s.files s.trees (with_file s file new) mid (cc) (cc) (file_grows s file new at refl)
  fault_grows {s} {mid} at (fault x y e) = stays s mid (cc) (cc)

  request_tame : {s mid i p ask calls effect : _} → HandlesRequest dig s i p ask calls effect mid → Tame dig s.files s.trees calls mid
  request_tame {s} {mid} (ignored a c d e) = quiet s mid (cc) (cc) c
  request_tame {s} {mid} (no_place a c d f e) = quiet s mid (cc) (cc) d
  request_tame {s} {mid} (not_marked span a c d f g e) = quiet s mid (cc) (cc) f
  request_tame {s} {mid} (served span a c d f) = (stays s mid (cc) (cc), keeping (keep_is f.made (reads_keep _ _ _)))
  request_tame (stopped span a c d f) = (
    fault_grows f.is_file.here f.finds,
    keeping (keep_is f.made (reads_keep _ _ _)),
  )

  put_touches : {files : List FileState} {trees : List Facts} (c : BlockId) (bytes : _) {f : FileState} {k : Facts} {calls : DeviceCalls}
      → slice_get files c.file ≡ Some f → slice_get trees f.tree ≡ Some k → (r : Result Put StoreError) → PutIsDue dig k c.block bytes f.states r
      → calls ≡ calls_at c.file (calls_of_put c.block bytes r) → Touches files trees calls
  put_touches c bytes {f} {k} at has_tree (Ok PutMarked) due made = putting c bytes f k _ at has_tree due.1 due.0.whole made (inl refl)
  put_touches c bytes {f} {k} at has_tree (Ok PutWaiting) due made = putting c bytes f k _ at has_tree due.1 due.0.whole made (inl refl)
  put_touches c bytes {f} {k} at has_tree (Err DeviceFault) due made = putting c bytes f k _ at has_tree due.1 due.0.whole made (inr refl)
  put_touches c bytes at has_tree (Ok Already) due made = keeping (keep_is made no_calls)
  put_touches c bytes at has_tree (Ok Wrong) due made = keeping (keep_is made no_calls)
  put_touches c bytes at has_tree (Err Range) due made = keeping (keep_is made no_calls)

  arrives_tame : {s mid i p piece begin bytes calls effect : _} → Arrives dig s i p piece begin bytes calls effect mid → Tame dig s.files s.trees calls mid
  arrives_tame {s} {mid} {bytes} a =
      let q = a.puts in
      let new : FileState = record q.file { states = states_after_put a.block.block q.result q.file.states } in
      let stored = like s.files s.trees (with_file s a.block.file new) a.stored (cc) (cc) (file_grows s a.block.file new q.is_file.here refl) in (
        like s.files s.trees a.stored mid (cc) (cc) stored,
        put_touches a.block bytes q.is_file.here q.is_file.has_tree q.result q.due q.made,
      )

  piece_tame : {s mid i p piece begin bytes calls effect : _} → HandlesPiece dig s i p piece begin bytes calls effect mid → Tame dig s.files s.trees calls mid
  piece_tame {s} {mid} (stale x y z e) = quiet s mid (cc) (cc) y
  piece_tame (arrives a) = arrives_tame a

  -- a grown tree stands in the place of the one that it grew from
  tree_grows : (s : EngineState) (t : ℕ) {old : _} (new : Facts) → slice_get s.trees t ≡ Some old → new.file_length ≡ old.file_length → new.root ≡ old.root
      → ((i : ℕ) (d : List ℕ) → value_at dig old 0 i ≡ Some d → value_at dig new 0 i ≡ Some d) → Grows dig s.files s.trees (with_tree s t new)
  tree_grows s t {old} new at size root kept file f k there has_tree = elim (set_cases _ t _ has_tree) [
    | inl now ↦ rw now.1 (record {
      old_file = f;
      old_tree = old;
      here = there;
      has_tree = cc;
      same_length = size;
      same_root = root;
      kept = kept;
    })
    | inr before ↦ same_tree there before
  ]

  settled_grows : (files trees : _) {is_meant t from count old new calls notes : _} → SettlesIn dig is_meant t from count old calls notes new
      → Grows dig files trees old → Grows dig files trees new
  settled_grows files trees {old} s g file f k at has_tree =
      let m = map_some _ _ (sym (s.files file) ∙ at) in
      let tree : m.0.tree ≡ f.tree = cc in
      g file m.0 k m.1 (cc)

  settled_keeps : {is_meant t from count old new calls notes : _} → SettlesIn dig is_meant t from count old calls notes new → AllKeepBytes calls
  settled_keeps {old} s = keep_is s.made (λ c among.
      let m = contains_flat_map (λ file. reads_at file s.facts.file_length (s.reads file)) _ among in
      reads_keep m.0 _ _ c m.2)

  hashes_tame : {s mid i p key digests calls effect : _} → HandlesHashes dig s i p key digests calls effect mid → Tame dig s.files s.trees calls mid
  hashes_tame {s} {mid} (unknown_root x y z e) = quiet s mid (cc) (cc) y
  hashes_tame {s} {mid} (no_claim f x y c) = quiet s mid (cc) (cc) c.made
  hashes_tame {s} {mid} (refused f t k c x y z g) = quiet s mid (cc) (cc) g.made
  hashes_tame {s} {mid} (accepts_hashes l) =
      let settled = settled_grows s.files s.trees l.settles (tree_grows s l.tree l.new l.here.here l.accepts.joins.file_length l.accepts.joins.root (value_kept dig l.old l.new l.accepts.joins.file_length l.accepts.joins.kept 0)) in (
        like s.files s.trees l.settled mid (cc) (cc) settled,
        keeping (settled_keeps l.settles),
      )

  message_tame : (s mid i p : _) (m : Sent) (calls effect : _) → HandlesMessage dig s i p m calls effect mid → Tame dig s.files s.trees calls mid
  message_tame s mid i p KeepAlive calls effect h = quiet s mid (cc) (cc) h.0
  message_tame s mid i p Choke calls effect h = quiet s mid (cc) (cc) h.0
  message_tame s mid i p Unchoke calls effect h = quiet s mid (cc) (cc) h.0
  message_tame s mid i p Interested calls effect h = quiet s mid (cc) (cc) h.0
  message_tame s mid i p NotInterested calls effect h = quiet s mid (cc) (cc) h.0
  message_tame s mid i p (Have piece) calls effect h = have_tame h.0 h.1
  message_tame s mid i p (Bitfield bytes) calls effect h = bits_tame h.0 h.1
  message_tame s mid i p (Request ask) calls effect h = request_tame h
  message_tame s mid i p (Piece piece begin bytes) calls effect h = piece_tame h
  message_tame s mid i p (Cancel ask) calls effect h = quiet s mid (cc) (cc) h.0
  message_tame s mid i p (HashRequest key) calls effect h = quiet s mid (cc) (cc) h.0
  message_tame s mid i p (Hashes key digests) calls effect h = hashes_tame h
  message_tame s mid i p (HashReject key) calls effect h = quiet s mid (cc) (cc) h.0

  event_tame : (s mid i p e calls effect : _) → Handles dig s i p e calls effect mid → Tame dig s.files s.trees calls mid
  event_tame s mid i p (Hello h) calls effect t = quiet s mid (cc) (cc) t.0
  event_tame s mid i p (Message m) calls effect t = message_tame s mid i p m calls _ t
  event_tame s mid i p (Skipped kind) calls effect t = quiet s mid (cc) (cc) t.0

  next_tame : {s new key calls answer : _} → StepNext dig s key calls answer new → Tame dig s.files s.trees calls new
  next_tame {s} {new} (no_peer x y z e) = quiet s new (cc) (cc) y
  next_tame {s} {new} (waits i p x y z w e) = quiet s new (cc) (cc) z
  next_tame {s} {new} {calls} (keeps_peer i p out x g y) =
      let t = event_tame _ g.handled i _ _ calls _ g.takes.handles in
      (like _ _ g.handled new (cc) (cc) t.0, t.1)
  next_tame {s} {new} {calls} (closes i p out x g y) =
      let t = event_tame _ g.handled i _ _ calls _ g.takes.handles in
      (like _ _ g.handled new (cc) (cc) t.0, t.1)
  next_tame {s} {new} (faulty i p out x g y) = quiet s new (cc) (cc) g.made
  next_tame {s} {new} (no_memory i p x g y) = quiet s new (cc) (cc) g.made

  each_same : (peers s new sent : _) → FollowsEach dig peers s sent new → (new.files ≡ s.files) × (new.trees ≡ s.trees)
  each_same [] s new sent f = (ap (λ z. z.files) f.1, ap (λ z. z.trees) f.1)
  each_same (i ∷ peers) s new sent f =
      let r = each_same peers f.0 new f.2 f.4 in
      (r.0 ∙ ap (λ z. z.files) f.3.after, r.1 ∙ ap (λ z. z.trees) f.3.after)

  connect_tame : {s new calls answer : _} → calls ≡ [] → StepConnect s answer new → Tame dig s.files s.trees calls new
  connect_tame {s} {new} none (joins key bytes x y z w v e) = quiet s new (cc) (cc) none
  connect_tame {s} {new} none (full x y e) = quiet s new (cc) (cc) none
  connect_tame {s} {new} none (spent x y z e) = quiet s new (cc) (cc) none
  connect_tame {s} {new} none (no_room x y z e) = quiet s new (cc) (cc) none

  feed_tame : {s new key bytes calls answer : _} → calls ≡ [] → StepFeed s key bytes answer new → Tame dig s.files s.trees calls new
  feed_tame {s} {new} none (feeds i p x y e) = quiet s new (cc) (cc) none
  feed_tame {s} {new} none (not_fed x y e) = quiet s new (cc) (cc) none
  feed_tame {s} {new} none (no_room_to_feed i p x y e) = quiet s new (cc) (cc) none

  lost_tame : {s new key calls answer : _} → calls ≡ [] → StepLost s key answer new → Tame dig s.files s.trees calls new
  lost_tame {s} {new} none (goes i p x y e) = quiet s new (cc) (cc) none
  lost_tame {s} {new} none (not_lost x y e) = quiet s new (cc) (cc) none

  rechoke_tame : {s new calls answer : _} → calls ≡ [] → StepRechoke dig s answer new → Tame dig s.files s.trees calls new
  rechoke_tame {s} {new} none (rechokes out r x) = let same = each_same _ _ new _ r.follows in quiet s new same.0 same.1 none
  rechoke_tame {s} {new} none (not_rechoked x e) = quiet s new (cc) (cc) none

  -- a tree that comes from one that has grown
  grows_then : (s mid new : EngineState) → Grows dig s.files s.trees mid → Grows dig mid.files mid.trees new → Grows dig s.files s.trees new
  grows_then s mid new first second file f k at has_tree =
      let later = second file f k at has_tree in
      let before = first file later.old_file later.old_tree later.here later.has_tree in
      record {
        old_file = before.old_file;
        old_tree = before.old_tree;
        here = before.here;
        has_tree = before.has_tree;
        same_length = cc;
        same_root = cc;
        kept = λ i d e. later.kept i d (before.kept i d e);
      }

  group_tame : {s new file from calls adopted : _} → AdoptsGroup dig s file from calls adopted new → Grows dig s.files s.trees new × AllKeepBytes calls
  group_tame {s} {new} {file} g =
      let state : FileState = record g.state { states = g.states } in
      let extends = group_extends dig g in
      let placed = with_file s file state in (
        like s.files s.trees (with_tree placed g.state.tree g.grown) new (cc) (cc)
            (grows_then s placed (with_tree placed g.state.tree g.grown) (file_grows s file state g.is_file.here refl)
            (tree_grows placed g.state.tree g.grown g.is_file.has_tree extends.file_length extends.root (extends.values 0))),
        keep_is g.made (reads_keep file g.tree.file_length g.reads),
      )

  groups_tame : (s new file from groups total : _) → AdoptsGroups dig s file from groups total new
      → Grows dig s.files s.trees new × AllKeepBytes (flat_map (λ c. c) groups)
  groups_tame s new file from [] total g = (stays s new (cc) (cc), no_calls)
  groups_tame s new file from (calls ∷ groups) total g =
      let one = group_tame g.3 in
      let more = groups_tame g.1 new file g.0.next groups g.2 g.4 in
      (grows_then s g.1 new one.0 more.0, append_keeps calls (flat_map (λ c. c) groups) one.1 more.1)

  adopt_tame : {s new file calls answer : _} → StepAdopt dig s file calls answer new → Tame dig s.files s.trees calls new
  adopt_tame {s} {new} (no_file x y z e) = quiet s new (cc) (cc) y
  adopt_tame {s} {new} (busy x y z w e) = quiet s new (cc) (cc) z
  adopt_tame {s} {new} (empty f x y z w v e) = quiet s new (cc) (cc) w
  adopt_tame {s} {new} {file} (adopts total x a y) =
      let groups = groups_tame s a.taken_in file 0 a.groups total a.adopts in
      let settled = settled_grows s.files s.trees a.settles groups.0 in (
        like s.files s.trees a.settled new (cc) (cc) settled,
        keeping (keep_is a.made (append_keeps (flat_map (λ c. c) a.groups) a.settling groups.1 (settled_keeps a.settles))),
      )
  adopt_tame {s} {new} {file} (not_adopted x a y) =
      let groups = groups_tame s new file 0 a.groups a.done a.adopts in
      (groups.0, keeping (keep_is a.made (append_keeps (flat_map (λ c. c) a.groups) _ groups.1 (reads_keep file a.tree.file_length a.reads))))

  flush_tame : {s new calls answer : _} → StepFlush s calls answer new → Tame dig s.files s.trees calls.devices new
  flush_tame {s} {new} (syncs x y z e) = (stays s new (cc) (cc), all_synced s (ap (λ c. c.devices) y))
  flush_tame {s} {new} (logs x y z e) = (stays s new (cc) (cc), all_synced s (ap (λ c. c.devices) y))
  flush_tame {s} {new} (fails before file after x y z e) = (
    stays s new (cc) (cc),
    keeping (keep_is (ap (λ c. c.devices) y) (append_keeps (syncs_of before) ((file, sync_fault) ∷ []) (syncs_keep before) (λ c among. elim (contains_cases [] among) [
      | inl one ↦ rw (← one) tt
      | inr none ↦ absurd (contains_none none)
    ]))),
  )
  flush_tame {s} {new} (unwritten before hint after cause x y z w e) = (stays s new (cc) (cc), all_synced s (ap (λ c. c.devices) z))
  flush_tame {s} {new} (unflushed x y z e) = (stays s new (cc) (cc), all_synced s (ap (λ c. c.devices) y))

  -- every event but a restart
  pub step_tame : (s new e calls a : _) → e ≢ Restart → Step dig s e calls a new → Tame dig s.files s.trees calls.devices new
  step_tame s new Connect calls a apart t = connect_tame (ap (λ c. c.devices) t.2) t.3
  step_tame s new (Feed key bytes) calls a apart t = feed_tame (ap (λ c. c.devices) t.2) t.3
  step_tame s new (Next key) calls a apart t = next_tame t.3
  step_tame s new (Lost key) calls a apart t = lost_tame (ap (λ c. c.devices) t.2) t.3
  step_tame s new Rechoke calls a apart t = rechoke_tame (ap (λ c. c.devices) t.2) t.3
  step_tame s new (Adopt file) calls a apart t = adopt_tame t.3
  step_tame s new Flush calls a apart t = flush_tame t.2
  step_tame s new Restart calls a apart t = absurd (apart refl)

  -- ---- a restart only reads

  file_reads : {hints file s calls new : _} → RestoresFile dig hints file s calls new → AllKeepBytes calls
  file_reads (no_block f at nothing made e) = keep_is made no_calls
  file_reads (restored f k rs is some order made e) = keep_is made (reads_keep _ _ _)

  files_read : (hints : List Hint) (files : List ℕ) (s new : EngineState) (calls : DeviceCalls) → RestoresFiles dig hints files s calls new → AllKeepBytes calls
  files_read hints [] s new calls r = keep_is r.0 no_calls
  files_read hints (file ∷ files) s new calls r =
      keep_is r.5 (append_keeps r.1 r.2 (file_reads r.3) (files_read hints files r.0 new r.2 r.4))

  pub anew_reads : {s new hints calls : _} → Recovers dig s hints calls new → AllKeepBytes calls
  anew_reads {new = new} {hints = hints} {calls = calls} r = files_read hints _ _ new calls r.restores

  restart_reads : {s new calls : _} → IsRestart dig s calls new → AllKeepBytes calls
  restart_reads (anew hints none recovers places) = anew_reads recovers
  restart_reads (as_before none made e) = keep_is made no_calls

  -- where hints are read again and nothing else happens
  pub hints_tame : (s new : EngineState) {calls : _} → calls ≡ [] → new ≡ record s { hints = new.hints } → Tame dig s.files s.trees calls new
  hints_tame s new none e = quiet s new (ap (λ z. z.files) e) (ap (λ z. z.trees) e) none

  pub step_touches : (s new : EngineState) (e : Event) (calls : EventCalls) (a : Answer) → Step dig s e calls a new → Touches s.files s.trees calls.devices
  step_touches s new e calls a t = elim (restart_or e) [
    | inl is ↦ (let r = subst (λ x. Step dig s x calls a new) is t in keeping (restart_reads (restart_is r.2)))
    | inr apart ↦ (step_tame s new e calls a apart t).1
  ]

  writes_of : {s : EngineState} {calls : _} → Touches s.files s.trees calls → AllKeepBytes calls ⊎ IsWriteOfMissing s calls
  writes_of (keeping keep) = inl keep
  writes_of {s} (putting b bytes f k call here has_tree missing whole only writes) = inr (record {
    block = b;
    tree = k;
    bytes = bytes;
    call = call;
    missing = cc;
    has_tree = cc;
    whole = whole;
    only = only;
    writes = writes;
  })

  pub writes_missing : StepWritesMissing dig
  writes_missing s new e calls a step = writes_of (step_touches s new e calls a step)
