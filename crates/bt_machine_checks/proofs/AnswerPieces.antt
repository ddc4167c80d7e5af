-- Haves and completed files are told exactly where pieces became whole and files complete.
use Rattle.bt_machine_checks.proofs.Base.{[], ◌≡◌, ℕ, zero, suc, ◌+◌, ◌<◌, ◌⊎◌, inl, inr, ◌↔◌, Bool, true, false, ◌∷◌, ◌++◌, length, map, Some, None, Ok, refl, sym, ap, ◌∙◌, subst, arith, slice_get, Contains, not, ◌&&◌, range_with_len, Contains-append_left, Contains-append_right, Contains-append_cases, total_pieces, Adopted, PeerKey, Have}
use Rattle.bt_machine_checks.proofs.Machine.{Digest, Frame, message_frame, Complete, Connect, Feed, Next, Lost, Rechoke, Adopt, Flush, Restart, Restarted, PeerState, EngineState, DeviceCalls, with_peer, is_whole, is_complete, has_become, new_whole_pieces, new_complete_files, piece_numbers, file_numbers, Output, sent_to, haves, IsPeer, KeepsPeer, StepNext, no_peer, waits, keeps_peer, closes, faulty, no_memory, StepConnect, joins, full, spent, no_room, StepFeed, feeds, not_fed, no_room as no_room_to_feed, StepLost, goes, not_fed as not_lost, FollowsEach, StepRechoke, rechokes, not_rechoked, rechoked, AdoptsGroups, AdoptsFile, StepAdopt, no_file, busy, empty, adopts, not_adopted as adopt_memory, StepFlush, syncs, writes, fails, unwritten, unflushed, Answer, Connected, Fed, Stepped, LostAnswer, Rechoked, AdoptedAnswer, Flushed, Step, sent_by, output_of, IsConnected, BecomesSo, NotedBy, StepAnnouncesWholePieces, NextNotesCompleteFiles}
use Rattle.bt_machine.specs.Restart.{StepRestart, restarts, unread, no_memory as no_room_again}
use Rattle.bt_machine.proofs.Restarts.{recovered}
use Rattle.bt_machine.proofs.Lists.{filter_contains, contains_none, contains_cases, contains_map, contains_flat_map, contains_filter, map_contains, flat_map_contains, range_contains, and_true, set_cases, set_same}
use Rattle.bt_machine_checks.proofs.AnswerParts.{greets, replies, announces, NoComplete, Leaves, event_leaves}
use Rattle.bt_machine.proofs.Pairs.{contains_some, some_at}
use Rattle.bt_machine_checks.proofs.AnswerSends.{nat_cases, set_other, frame_to, follows_of, IsSentBy, alike, announced, followed, chosen, rechoked_then, all_chokes, step_sent}

-- ---- lists

range_below : (a n : ℕ) {x : ℕ} → Contains (range_with_len a n) x → x < a + n
range_below a zero c = absurd (contains_none c)
range_below a (suc n) c = elim (contains_cases (range_with_len (a + 1) n) c) [ inl same ↦ omega arith | inr more ↦ let below = range_below (a + 1) n more in omega arith ]

not_so : (b : Bool) → not b ≡ true → b ≡ false
not_so true e = absurd cc
not_so false e = refl

becomes : {now before : _} → now ≡ true → before ≡ false → (now && not before) ≡ true
becomes e f = rw e (rw f refl)

-- ---- where pieces and files are the same

whole_same : (s new : EngineState) (piece : ℕ) → new.files ≡ s.files → new.torrent ≡ s.torrent → is_whole new piece ≡ is_whole s piece
whole_same s new piece f t = ap (λ x. is_whole (record s { torrent = x; files = new.files }) piece) t ∙ ap (λ x. is_whole (record s { files = x }) piece) f

complete_same : (s new : EngineState) (file : ℕ) → new.files ≡ s.files → is_complete new file ≡ is_complete s file
complete_same s new file f = cc

-- what a step does to pieces and files
data Keeps (dig : Digest) (s : EngineState) (answer : Answer) (new : EngineState) : Type 0 where
  keeps : new.files ≡ s.files → new.torrent ≡ s.torrent → ((file : ℕ) → NotedBy answer (Complete file) → ⊥) → Keeps dig s answer new
  goes_further : (key : PeerKey) (i : ℕ) (p : PeerState) (calls : DeviceCalls) (out : Output) → IsPeer s key i p → KeepsPeer dig s i p calls out new
      → answer ≡ Stepped (Ok (Some out)) → Keeps dig s answer new

module _ (dig : Digest) (s new : EngineState) where
  -- an answer without an output, or with one without notes
  no_output : {a b : _} → a ≡ b → output_of b ≡ None → (file : ℕ) → NotedBy a (Complete file) → ⊥
  no_output e none file c = absurd cc

  no_note : {a b like : _} → a ≡ b → output_of b ≡ Some like → NoComplete like.notes → (file : ℕ) → NotedBy a (Complete file) → ⊥
  no_note {like} e is none file c =
      let same : c.0 ≡ like = cc in
      let wrong = none (Complete file) (rw (← same) c.2) in
      absurd cc

  same_state : {a b : _} → a ≡ b → output_of b ≡ None → new ≡ s → Keeps dig s a new
  same_state e none is = keeps (cc) (cc) (no_output e none)

  like_state : {like : EngineState} {a b : _} → a ≡ b → output_of b ≡ None → like.files ≡ s.files → like.torrent ≡ s.torrent → new ≡ like → Keeps dig s a new
  like_state e none f t is = keeps (cc) (cc) (no_output e none)

  no_notes : NoComplete []
  no_notes note c = absurd (contains_none c)

  next_keeps : {key calls r : _} → StepNext dig s key calls r new → Keeps dig s (Stepped r) new
  next_keeps (no_peer x y e z) = same_state (ap (λ x. Stepped x) e) refl z
  next_keeps (waits i p x y z e f) = same_state (ap (λ x. Stepped x) e) refl f
  next_keeps {key} {calls} (keeps_peer i p out x g e) = goes_further key i p calls out x g (cc)
  next_keeps {calls} (closes i p out x g e) =
      let rest = record p { stream = g.takes.rest } in
      let left = event_leaves dig _ i (set_same _ i x.here) _ calls g.takes.handles in
      keeps (ap (λ x. x.files) g.after ∙ left.closed g.why g.closed) (cc)
      (no_note (ap (λ x. Stepped x) (e ∙ ap (λ o. Ok (Some o)) g.is)) refl left.noted)
  next_keeps (faulty i p out x g e) =
      keeps (cc) (cc) (no_note (ap (λ x. Stepped x) (e ∙ ap (λ o. Ok (Some o)) g.is)) refl no_notes)
  next_keeps (no_memory i p x g e) = like_state (ap (λ x. Stepped x) e) refl refl refl g.after

  connect_keeps : {r : _} → StepConnect s r new → Keeps dig s (Connected r) new
  connect_keeps (joins key bytes x y z w e f) = keeps (cc) (cc) (no_note (ap (λ x. Connected x) e) refl no_notes)
  connect_keeps (full x e y) = same_state (ap (λ x. Connected x) e) refl y
  connect_keeps (spent x y e z) = same_state (ap (λ x. Connected x) e) refl z
  connect_keeps (no_room x y e z) = same_state (ap (λ x. Connected x) e) refl z

  feed_keeps : {key bytes r : _} → StepFeed s key bytes r new → Keeps dig s (Fed r) new
  feed_keeps (feeds i p x e y) = like_state (ap (λ x. Fed x) e) refl refl refl y
  feed_keeps (not_fed x e y) = same_state (ap (λ x. Fed x) e) refl y
  feed_keeps (no_room_to_feed i p x e y) = same_state (ap (λ x. Fed x) e) refl y

  lost_keeps : {key r : _} → StepLost s key r new → Keeps dig s (LostAnswer r) new
  lost_keeps (goes i p x e y) = like_state (ap (λ x. LostAnswer x) e) refl refl refl y
  lost_keeps (not_lost x e y) = same_state (ap (λ x. LostAnswer x) e) refl y

  flush_keeps : {calls r : _} → StepFlush s calls r new → Keeps dig s (Flushed r) new
  flush_keeps (syncs x y e z) = same_state (ap (λ x. Flushed x) e) refl z
  flush_keeps (writes x y e z) = like_state (ap (λ x. Flushed x) e) refl refl refl z
  flush_keeps (fails before file after x y e z) = same_state (ap (λ x. Flushed x) e) refl z
  flush_keeps (unwritten before hint after cause x y w e z) = same_state (ap (λ x. Flushed x) e) refl z
  flush_keeps (unflushed x y e z) = same_state (ap (λ x. Flushed x) e) refl z

  restart_keeps : {calls r : _} → StepRestart dig s calls r new → Keeps dig s (Restarted r) new ⊎ (new.peers ≡ [])
  restart_keeps (restarts hints reads recovers places e) = inr (ap (λ x. x.peers) (recovered dig recovers).is)
  restart_keeps (unread cause logged made e z) = inl (same_state (ap (λ x. Restarted x) e) refl z)
  restart_keeps (no_room_again hints reads made e z) = inl (like_state (ap (λ x. Restarted x) e) refl refl refl z)

each_keeps : (dig : Digest) (places s new sent : _) → FollowsEach dig places s sent new → (new.files ≡ s.files) × (new.torrent ≡ s.torrent)
each_keeps dig [] s new sent f = (ap (λ x. x.files) f.1, ap (λ x. x.torrent) f.1)
each_keeps dig (i ∷ places) s new sent f =
    let first = follows_of f.3 in
    let rest = each_keeps dig places f.0 new f.2 f.4 in
    (rest.0 ∙ first.files, rest.1 ∙ first.torrent)

rechoke_keeps : {dig s new r : _} → StepRechoke dig s r new → Keeps dig s (Rechoked r) new
rechoke_keeps {dig} {s} {new} (rechokes out x e) =
    let kept = each_keeps dig _ _ new _ x.follows in
    keeps kept.0 kept.1 (no_note dig s new (ap (λ x. Rechoked x) (e ∙ ap (λ o. Ok o) x.is)) refl (no_notes dig s new))
rechoke_keeps {dig} {s} {new} (not_rechoked e x) = same_state dig s new (ap (λ x. Rechoked x) e) refl x

keeps_as : {dig s new a b : _} → a ≡ b → Keeps dig s b new → Keeps dig s a new
keeps_as {dig} {s} {new} e k = rw e k

-- ---- taking in a file leaves no peer to tell

groups_peers : (dig : Digest) (s new file from groups : _) (total : Adopted) → AdoptsGroups dig s file from groups total new → new.peers ≡ s.peers
groups_peers dig s new file from [] total f = cc
groups_peers dig s new file from (calls ∷ more) total f = groups_peers dig f.1 new file _ more f.2 f.4 ∙ ap (λ x. x.peers) f.3.after

file_peers : {dig s new file calls total : _} → AdoptsFile dig s file calls total new → new.peers ≡ s.peers
file_peers {dig} {s} {file} f =
    ap (λ x. x.peers) f.after ∙ ap (λ x. x.peers) f.settles.others ∙ groups_peers dig s f.taken_in file 0 _ _ f.adopts

adopt_keeps : {dig s new file calls r : _} → StepAdopt dig s file calls r new → Keeps dig s (AdoptedAnswer r) new ⊎ (new.peers ≡ [])
adopt_keeps {dig} {s} {new} (no_file x y e z) = inl (same_state dig s new (ap (λ x. AdoptedAnswer x) e) refl z)
adopt_keeps {dig} {s} {new} (busy x y z e w) = inl (same_state dig s new (ap (λ x. AdoptedAnswer x) e) refl w)
adopt_keeps {dig} {s} {new} (empty f x y z w e v) = inl (same_state dig s new (ap (λ x. AdoptedAnswer x) e) refl v)
adopt_keeps (adopts total alone f e) = inr (file_peers f ∙ alone)
adopt_keeps {dig} {s} {new} {file} (adopt_memory alone f e) = inr (groups_peers dig s new file 0 _ _ f.adopts ∙ alone)

step_keeps : {dig s new : _} (e calls : _) {a : _} → Step dig s e calls a new → Keeps dig s a new ⊎ (new.peers ≡ [])
step_keeps {dig} {s} {new} Connect calls t = inl (keeps_as t.1 (connect_keeps dig s new t.3))
step_keeps {dig} {s} {new} (Feed key bytes) calls t = inl (keeps_as t.1 (feed_keeps dig s new t.3))
step_keeps {dig} {s} {new} (Next key) calls t = inl (keeps_as t.1 (next_keeps dig s new t.3))
step_keeps {dig} {s} {new} (Lost key) calls t = inl (keeps_as t.1 (lost_keeps dig s new t.3))
step_keeps Rechoke calls t = inl (keeps_as t.1 (rechoke_keeps t.3))
step_keeps (Adopt file) calls t = elim (adopt_keeps t.3) [ inl kept ↦ inl (keeps_as t.1 kept) | inr alone ↦ inr alone ]
step_keeps {dig} {s} {new} Flush calls t = inl (keeps_as t.1 (flush_keeps dig s new t.2))
step_keeps {dig} {s} {new} Restart calls t = elim (restart_keeps dig s new t.2) [ inl kept ↦ inl (keeps_as t.1 kept) | inr alone ↦ inr alone ]

-- ---- where a peer goes on

module _ {dig : Digest} {s new : EngineState} {key : PeerKey} {i : ℕ} {p : PeerState} {calls : DeviceCalls} {out : Output} (peer : IsPeer s key i p) (g : KeepsPeer dig s i p calls out new) where
  left : Leaves (with_peer s i (record p { stream = g.takes.rest })) i (record p { stream = g.takes.rest }) g.effect g.handled
  left = event_leaves dig _ i (set_same _ i peer.here) _ calls g.takes.handles

  files_are : new.files ≡ g.handled.files
  files_are = (follows_of g.follows).files

  torrent_is : new.torrent ≡ g.handled.torrent
  torrent_is = (follows_of g.follows).torrent

  -- the same keys are connected
  connected : {q : _} (j : ℕ) → slice_get g.handled.peers j ≡ Some q → IsConnected new q.key
  connected {q} j at =
      let f = follows_of g.follows in
      elim (nat_cases i j) [
        | inl e ↦
            let same : f.peer ≡ q = cc in
            (i, f.after, record { here = f.now; same_key = cc })
        | inr apart ↦ (j, q, record { here = ap (λ l. slice_get l j) f.peers ∙ set_other g.handled.peers i j f.after apart ∙ at; same_key = refl })
      ]

  was_connected : {k : _} → IsConnected new k → (q : PeerState) × Contains g.handled.peers q × (q.key ≡ k)
  was_connected c =
      let f = follows_of g.follows in
      elim (set_cases g.handled.peers i c.0 (subst (λ l. slice_get l c.0 ≡ Some c.1) f.peers c.2.here)) [
        | inl one ↦ (f.peer, contains_some g.handled.peers i f.was, sym f.same_key ∙ ap (λ x. x.key) (sym one.1) ∙ c.2.same_key)
        | inr old ↦ (c.1, contains_some g.handled.peers c.0 old, c.2.same_key)
      ]

  abbrev piece_in : Frame → ℕ
  piece_in (message_frame (Have piece)) = piece
  piece_in _ = 0

  have_told : (k : _) {piece : ℕ} → Contains (haves s g.handled) (frame_to k (Have piece))
      → IsConnected new k × (piece < total_pieces new.torrent) × BecomesSo is_whole s new piece
  have_told k {piece} c =
      let r = contains_flat_map (λ n. map (λ q. sent_to q (Have n)) g.handled.peers) (new_whole_pieces s g.handled) c in
      let q = contains_map (λ q. sent_to q (Have r.0)) g.handled.peers r.2 in
      let place = some_at g.handled.peers q.1 in
      let same = ap (λ x. piece_in x.1) q.2 in
      let listed = contains_filter (has_become is_whole s g.handled) (piece_numbers g.handled) (rw (← same) r.1) in
      let both = and_true (is_whole g.handled piece) listed.1 in
      let below : piece < total_pieces g.handled.torrent = (let lt = range_below 0 (total_pieces g.handled.torrent) listed.0 in omega arith) in (
        rw (← (ap (λ x. x.0) q.2)) (connected place.0 place.1),
        rw torrent_is below,
        record { before = not_so (is_whole s piece) both.1; after = whole_same g.handled new piece files_are torrent_is ∙ both.0 },
      )

  tells_have : (k : _) {piece : ℕ} → IsConnected new k → piece < total_pieces new.torrent → BecomesSo is_whole s new piece
      → Contains out.send (frame_to k (Have piece))
  tells_have k {piece} c below b =
      let q = was_connected c in
      let in_range : Contains (piece_numbers g.handled) piece = range_contains _ (rw (← torrent_is) below) in
      let whole : is_whole g.handled piece ≡ true = cc in
      let listed = filter_contains _ _ in_range (becomes whole b.before) in
      let told = map_contains (λ q. sent_to q (Have piece)) _ q.1 in
      let among =
      flat_map_contains (λ n. map (λ q. sent_to q (Have n)) g.handled.peers) _ listed (rw (← q.2) told) in
      rw g.send (Contains-append_left (g.effect.send ++ haves s g.handled) g.sent (frame_to k (Have piece)) (Contains-append_right g.effect.send (haves s g.handled) (frame_to k (Have piece)) among))

  complete_noted : {file : ℕ} → Contains out.notes (Complete file) → (file < length new.files) × BecomesSo is_complete s new file
  complete_noted {file} c =
      elim (Contains-append_cases g.effect.notes (map (λ n. Complete n) (new_complete_files s g.handled)) (Complete file) (rw (← g.notes) c)) [
        | inl one ↦ let wrong = left.noted (Complete file) one in absurd cc
        | inr more ↦
            let r = contains_map (λ n. Complete n) (new_complete_files s g.handled) more in
            let same : r.0 ≡ file = cc in
            let listed = contains_filter (has_become is_complete s g.handled) (file_numbers g.handled) (rw (← same) r.1) in
            let both = and_true (is_complete g.handled file) listed.1 in
            let below : file < length g.handled.files = (let lt = range_below 0 (length g.handled.files) listed.0 in omega arith) in
            (rw files_are below, record { before = not_so (is_complete s file) both.1; after = complete_same g.handled new file files_are ∙ both.0 })
      ]

  notes_complete : {file : ℕ} → file < length new.files → BecomesSo is_complete s new file → Contains out.notes (Complete file)
  notes_complete {file} below b =
      let in_range : Contains (file_numbers g.handled) file = range_contains _ (rw (← files_are) below) in
      let complete : is_complete g.handled file ≡ true = cc in
      let listed = filter_contains _ _ in_range (becomes complete b.before) in
      rw g.notes (Contains-append_right g.effect.notes (map (λ n. Complete n) (new_complete_files s g.handled)) (Complete file) (map_contains (λ n. Complete n) _ listed))

-- ---- the laws

-- nothing becomes so where nothing changes
becomes_nothing : {X : Type 0} {holds : EngineState → ℕ → Bool} {s new : EngineState} {x : ℕ} → holds new x ≡ holds s x → BecomesSo holds s new x → X
becomes_nothing same b = absurd cc

module _ (dig : Digest) where
  have_sent : {s new : _} (key : _) {piece : ℕ} → IsSentBy dig s new (frame_to key (Have piece))
      → IsConnected new key × (piece < total_pieces new.torrent) × BecomesSo is_whole s new piece
  have_sent key (alike part like e) = absurd (unlike like e)
    where
      unlike : {part : _} → (part ≡ greets) ⊎ (part ≡ replies) → announces ≡ part → ⊥
      unlike (inl x) e = absurd cc
      unlike (inr x) e = absurd cc
  have_sent key (announced other i p calls out peer g c) = have_told peer g key c
  have_sent key {piece} (followed other i p calls out peer g c) = absurd ((follows_of g.follows).no_have key piece c)
  have_sent {s} key (chosen sent f c) = let e = all_chokes s _ c in absurd cc
  have_sent {s} {new} key {piece} (rechoked_then sent f c) = absurd (no_have_in _ (rechoked s) sent f c)
    where
      no_have_in : (places t sent : _) → FollowsEach dig places t sent new → Contains sent (frame_to key (Have piece)) → ⊥
      no_have_in [] t sent f c = contains_none (subst (λ l. Contains l (frame_to key (Have piece))) f.0 c)
      no_have_in (i ∷ places) t sent f c = elim (Contains-append_cases f.1 f.2 (frame_to key (Have piece)) (rw (← f.5) c)) [
        | inl one ↦ (follows_of f.3).no_have key piece one
        | inr more ↦ no_have_in places f.0 f.2 f.4 more
      ]

  none_connected : {X : Type 0} (new : EngineState) (key : _) → new.peers ≡ [] → IsConnected new key → X
  none_connected new key none c = absurd (contains_none (contains_some [] c.0 (ap (λ l. slice_get l c.0) (sym none) ∙ c.2.here)))

  sends_have : {s new a : _} (key : _) {piece : ℕ} → Keeps dig s a new → IsConnected new key → piece < total_pieces new.torrent → BecomesSo is_whole s new piece
      → Contains (sent_by a) (frame_to key (Have piece))
  sends_have {s} {new} key {piece} (keeps f t x) c below b = becomes_nothing (whole_same s new piece f t) b
  sends_have key {piece} (goes_further other i p calls out peer g e) c below b =
      rw e (tells_have peer g key c below b)

  pub step_announces : StepAnnouncesWholePieces dig
  step_announces s new e calls a t key piece = (
    λ c. have_sent key (step_sent dig s new e calls a t _ c),
    λ c. elim (step_keeps e calls t) [ inl kept ↦ sends_have key kept c.0 c.1 c.2 | inr none ↦ none_connected new key none c.0 ],
  )

  complete_cases : {s new a file : _} → Keeps dig s a new → NotedBy a (Complete file) ↔ (file < length new.files) × BecomesSo is_complete s new file
  complete_cases {s} {new} {file} (keeps f t x) = (λ c. absurd (x file c), λ b. becomes_nothing (complete_same s new file f) b.1)
  complete_cases {file} (goes_further other i p calls out peer g e) = (
    λ c.
        let same : c.0 ≡ out = cc in
        complete_noted peer g (rw (← same) c.2),
    λ b. (out, ap output_of e, notes_complete peer g b.0 b.1),
  )

  pub next_notes : NextNotesCompleteFiles dig
  next_notes s new key calls a t file = complete_cases (keeps_as t.1 (next_keeps dig s new t.3))
