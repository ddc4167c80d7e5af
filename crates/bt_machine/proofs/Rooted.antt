-- Trees stay rooted, and with digests of 32 bytes.
use Rattle.bt_machine.proofs.Base.{[], ◌≡◌, arith, inl, inr, ◌∷◌, sym, ◌<◌, ◌∙◌, blocks_of, IsRooted, IsChecked, KeepsRooted, LayersAreSound, RootsAreSound, Metainfo, IsLawful, HeldIsChecked, value_covers, value_inside, CoversBlock, real_width, IsRight, PeerMessage as Sent, Have, Bitfield, Request, Piece, Hashes, HashReject, Message, ℕ, List, Some, slice_get, Facts, HashKey, Claim, Accepts, BlockState, BlockRead, Adopted, IsDigest}
use Rattle.bt_machine.proofs.Machine.{Digest, Connect, Feed, Next, Lost, Rechoke, Adopt, Flush, Restart, with_tree, FindsFault, damaged, fault, HandlesRequest, ignored, no_place, not_marked, served, stopped, HandlesPiece, stale, arrives, HandlesHashes, unknown_root, no_claim, refused, accepts_hashes, HandlesHave, in_range, out_of_range, HandlesBitfield, right, wrong, HandlesMessage, Handles, StepNext, no_peer, waits, keeps_peer, closes, faulty, no_memory, StepConnect, joins, full, spent, no_room, StepFeed, feeds, not_fed, no_room as no_room_to_feed, StepLost, goes, not_fed as not_lost, FollowsEach, StepRechoke, rechokes, not_rechoked, AdoptsGroup, AdoptsGroups, StepAdopt, no_file, busy, empty, adopts, not_adopted, StepFlush, syncs, writes, fails, unwritten, unflushed, Begins, bare, with_log, IsTorrentTree, Recovers, Run, AreRooted, StepKeepsRooted, AreChecked, EngineState, Event, Answer, EventCalls, Step}
use Rattle.bt_machine.proofs.Lists.{set_cases}
use Rattle.bt_sparse.specs.SparseTree.{IsSound}
use Rattle.bt_store.specs.Adoption.{Adopts, accepted}
use Rattle.bt_hashreq.specs.Claim.{IsClaimBy}
use Rattle.bt_machine.specs.Frames.{AreSparseTrees, StartsSparse, StepKeepsSparse}
use Rattle.bt_machine.specs.Law.{StartsRooted}
use Rattle.bt_machine.specs.Recovery.{claim_of_proof, IsProofFor}
use Rattle.bt_machine.proofs.Digests.{key_sound, group_sound, proof_sound}
use Rattle.bt_machine.proofs.Start.{torrent_sound}
use Rattle.bt_machine.proofs.Restarts.{IsRestart, anew, as_before as hints_alone, restart_is, hints_keep, has_base}
use Rattle.bt_machine.proofs.Shape.{step_torrent, torrent_at_first}

-- what claims that are accepted keep of a tree, every event keeps of all trees
module _ (dig : Digest) (P : Facts → Type 0)
    (by_key : (k new : Facts) (key : HashKey) (digests : List ℕ) (claim : Claim) → IsClaimBy key digests claim → Accepts dig k claim new → P k → P new)
    (by_group : (k grown : Facts) (from : ℕ) (old new : List BlockState) (reads : List BlockRead) (adopted : Adopted)
    → Adopts dig k from old reads adopted grown new → P k → P grown)
    (by_proof : (k new : Facts) (key : HashKey) (digests : List (List ℕ)) → IsProofFor dig k key digests → Accepts dig k (claim_of_proof key digests) new → P k → P new)
    (by_torrent : (torrent : Metainfo) → IsLawful torrent.piece_length torrent.files → (k : Facts) → IsTorrentTree dig torrent k → P k) where
  abbrev AllTrees : EngineState → Type 0
  AllTrees s = (t : ℕ) (k : Facts) → slice_get s.trees t ≡ Some k → P k

  -- the engine is one with the same trees
  as_before : {m new : _} → new ≡ m → AllTrees m → AllTrees new
  as_before e r = rw e r

  grown_keep : (s t : _) {k : _} → AllTrees s → P k → AllTrees (with_tree s t k)
  grown_keep s t r rooted u j e = elim (set_cases _ t u e) [ inl new ↦ rw new.1 rooted | inr old ↦ r u j old ]

  have_keep : {s mid i p piece effect : _} → HandlesHave s i p piece effect mid → AllTrees s → AllTrees mid
  have_keep (in_range a b e) r = as_before e r
  have_keep (out_of_range a b e) r = as_before e r

  bits_keep : {s mid i p bytes effect : _} → HandlesBitfield s i p bytes effect mid → AllTrees s → AllTrees mid
  bits_keep (right a b e) r = as_before e r
  bits_keep (wrong a b e) r = as_before e r

  fault_keep : {k s mid file i f read effect : _} → FindsFault dig k s file i f read effect mid → AllTrees s → AllTrees mid
  fault_keep (damaged bytes x y z e) r = as_before e r
  fault_keep (fault x y e) r = as_before e r

  request_keep : {s mid i p ask calls effect : _} → HandlesRequest dig s i p ask calls effect mid → AllTrees s → AllTrees mid
  request_keep (ignored a b c e) r = as_before e r
  request_keep (no_place a b c d e) r = as_before e r
  request_keep (not_marked span a b c d f e) r = as_before e r
  request_keep (served span a b c d) r = as_before d.after r
  request_keep (stopped span a b c d) r = fault_keep d.finds r

  piece_keep : {s mid i p piece begin bytes calls effect : _} → HandlesPiece dig s i p piece begin bytes calls effect mid → AllTrees s
      → AllTrees mid
  piece_keep (stale a b c e) r = as_before e r
  piece_keep (arrives a) r = as_before a.after (as_before a.puts.after r)

  hashes_keep : {s mid i p key digests calls effect : _} → HandlesHashes dig s i p key digests calls effect mid → AllTrees s → AllTrees mid
  hashes_keep (unknown_root a b c e) r = as_before e r
  hashes_keep (no_claim f a b c) r = as_before c.after r
  hashes_keep (refused f t k c a b d g) r = as_before g.after r
  hashes_keep {s} {key} {digests} (accepts_hashes l) r =
      let grown = grown_keep s _ r (by_key l.old l.new key digests l.claim l.claims l.accepts (r l.tree l.old l.here.here)) in
      as_before l.after (as_before l.settles.others grown)

  message_keep : (s mid i p : _) (m : Sent) (calls effect : _) → HandlesMessage dig s i p m calls effect mid → AllTrees s → AllTrees mid
  message_keep s mid i p (Have piece) calls effect h r = have_keep h.1 r
  message_keep s mid i p (Bitfield bytes) calls effect h r = bits_keep h.1 r
  message_keep s mid i p (Request ask) calls effect h r = request_keep h r
  message_keep s mid i p (Piece piece begin bytes) calls effect h r = piece_keep h r
  message_keep s mid i p (Hashes key digests) calls effect h r = hashes_keep h r
  message_keep s mid i p (HashReject key) calls effect h r = as_before h.2.after r
  message_keep s mid i p _ calls effect h r = as_before h.2 r

  event_keep : (s mid i p e calls effect : _) → Handles dig s i p e calls effect mid → AllTrees s → AllTrees mid
  event_keep s mid i p (Message m) calls effect t r = message_keep s mid i p m calls effect t r
  event_keep s mid i p _ calls effect t r = as_before t.2 r

  next_keep : {s new key calls answer : _} → StepNext dig s key calls answer new → AllTrees s → AllTrees new
  next_keep (no_peer a b c e) r = as_before e r
  next_keep (waits i p a b c d e) r = as_before e r
  next_keep {calls} (keeps_peer i p out a g b) r = as_before g.follows.after (event_keep _ g.handled i _ _ calls _ g.takes.handles r)
  next_keep {calls} (closes i p out a g b) r = as_before g.after (event_keep _ g.handled i _ _ calls _ g.takes.handles r)
  next_keep (faulty i p out a g b) r = as_before g.after r
  next_keep (no_memory i p a g b) r = as_before g.after r

  connect_keep : {s new answer : _} → StepConnect s answer new → AllTrees s → AllTrees new
  connect_keep (joins key bytes a b c d f e) r = as_before e r
  connect_keep (full a b e) r = as_before e r
  connect_keep (spent a b c e) r = as_before e r
  connect_keep (no_room a b c e) r = as_before e r

  feed_keep : {s new key bytes answer : _} → StepFeed s key bytes answer new → AllTrees s → AllTrees new
  feed_keep (feeds i p a b e) r = as_before e r
  feed_keep (not_fed a b e) r = as_before e r
  feed_keep (no_room_to_feed i p a b e) r = as_before e r

  lost_keep : {s new key answer : _} → StepLost s key answer new → AllTrees s → AllTrees new
  lost_keep (goes i p a b e) r = as_before e r
  lost_keep (not_lost a b e) r = as_before e r

  each_keep : (peers s new sent : _) → FollowsEach dig peers s sent new → AllTrees s → AllTrees new
  each_keep [] s new sent f r = as_before f.1 r
  each_keep (i ∷ peers) s new sent f r = each_keep peers f.0 new f.2 f.4 (as_before f.3.after r)

  rechoke_keep : {s new answer : _} → StepRechoke dig s answer new → AllTrees s → AllTrees new
  rechoke_keep {new} (rechokes out a b) r = each_keep _ _ new _ a.follows r
  rechoke_keep (not_rechoked a e) r = as_before e r

  group_keep : {s new file from calls adopted : _} → AdoptsGroup dig s file from calls adopted new → AllTrees s → AllTrees new
  group_keep {s} g r =
      as_before g.after (grown_keep s _ r (by_group g.tree g.grown _ g.state.states g.states g.reads _ g.adopts (r g.state.tree g.tree g.is_file.has_tree)))

  groups_keep : (s new file from groups total : _) → AdoptsGroups dig s file from groups total new → AllTrees s → AllTrees new
  groups_keep s new file from [] total g r = as_before g.1 r
  groups_keep s new file from (calls ∷ groups) total g r = groups_keep g.1 new file g.0.next groups g.2 g.4 (group_keep g.3 r)

  adopt_keep : {s new file calls answer : _} → StepAdopt dig s file calls answer new → AllTrees s → AllTrees new
  adopt_keep (no_file a b c e) r = as_before e r
  adopt_keep (busy a b c d e) r = as_before e r
  adopt_keep (empty f a b c d g e) r = as_before e r
  adopt_keep {s} {file} (adopts total a x b) r = as_before x.after (as_before x.settles.others (groups_keep s x.taken_in file 0 _ total x.adopts r))
  adopt_keep {s} {new} {file} (not_adopted a x b) r = groups_keep s new file 0 _ _ x.adopts r

  flush_keep : {s new calls answer : _} → StepFlush s calls answer new → AllTrees s → AllTrees new
  flush_keep (syncs a b c e) r = as_before e r
  flush_keep (writes a b c e) r = as_before e r
  flush_keep (fails before file after a b c e) r = as_before e r
  flush_keep (unwritten before hint after cause a b c d e) r = as_before e r
  flush_keep (unflushed a b c e) r = as_before e r

  abbrev IsOfLawful : EngineState → Type 0
  IsOfLawful s = IsLawful s.torrent.piece_length s.torrent.files

  anew_trees : {s new : EngineState} {hints calls : _} → IsOfLawful s → Recovers dig s hints calls new → AllTrees new
  anew_trees {s} {hints = hints} lawful r t k at =
      let base = has_base dig r t k at in
      hints_keep dig P by_proof hints base.base k base.takes (by_torrent s.torrent lawful base.base base.says)

  restart_keep : {s new : EngineState} {calls : _} → IsOfLawful s → IsRestart dig s calls new → AllTrees s → AllTrees new
  restart_keep lawful (anew hints none recovers places) r = anew_trees lawful recovers
  restart_keep lawful (hints_alone none made e) r = as_before e r

  step_trees : (s new : EngineState) (event : Event) (calls : EventCalls) (answer : Answer) → IsOfLawful s → Step dig s event calls answer new → AllTrees s → AllTrees new
  step_trees s new Connect calls a lawful t r = connect_keep t.3 r
  step_trees s new (Feed key bytes) calls a lawful t r = feed_keep t.3 r
  step_trees s new (Next key) calls a lawful t r = next_keep t.3 r
  step_trees s new (Lost key) calls a lawful t r = lost_keep t.3 r
  step_trees s new Rechoke calls a lawful t r = rechoke_keep t.3 r
  step_trees s new (Adopt file) calls a lawful t r = adopt_keep t.3 r
  step_trees s new Flush calls a lawful t r = flush_keep t.2 r
  step_trees s new Restart calls a lawful t r = restart_keep lawful (restart_is t.2) r

  run_trees : (s new es calls answers : _) → IsOfLawful s → Run dig s es calls answers new → AllTrees s → AllTrees new
  run_trees s new [] [] [] lawful run r = as_before run r
  run_trees s new (e ∷ es) (c ∷ calls) (a ∷ answers) lawful run r =
      let same = step_torrent dig s run.0 e c a run.1 in
      run_trees run.0 new es calls answers (rw same lawful) run.2 (step_trees s run.0 e c a lawful run.1 r)
  run_trees s new _ _ _ lawful run r = absurd run

  -- from the start of a torrent
  first_trees : {torrent : Metainfo} {s : EngineState} → IsLawful torrent.piece_length torrent.files → Begins dig torrent s → AllTrees s
  first_trees {torrent} lawful (bare starts) t k at = by_torrent torrent lawful k (starts.is_new.each_tree t k at)
  first_trees lawful (with_log hints calls starts) t k at = anew_trees lawful starts t k at

  from_first : {torrent : Metainfo} {s : EngineState} (new es calls answers : _) → IsLawful torrent.piece_length torrent.files → Begins dig torrent s → Run dig s es calls answers new → AllTrees new
  from_first new es calls answers lawful begins run =
      run_trees _ new es calls answers (rw (torrent_at_first dig begins) lawful) run (first_trees lawful begins)

-- ---- trees stay rooted

group_rooted : (dig : Digest) → KeepsRooted dig → (k grown : Facts) (from : ℕ) (old new : List BlockState) (reads : List BlockRead) (adopted : Adopted)
    → Adopts dig k from old reads adopted grown new → IsRooted dig k → IsRooted dig grown
group_rooted dig keeps k grown from old new reads adopted (accepted anchor first count rs g group whole accepts) r = keeps k grown _ accepts r
group_rooted dig keeps k grown from old new reads adopted _ r = r

module _ (dig : Digest) (keeps : KeepsRooted dig) (layers : LayersAreSound dig) (roots : RootsAreSound dig) where
  key_rooted : (k new : Facts) (key : HashKey) (digests : List ℕ) (claim : Claim) → IsClaimBy key digests claim → Accepts dig k claim new
      → IsRooted dig k → IsRooted dig new
  key_rooted k new key digests claim by a r = keeps k new claim a r

  proof_rooted : (k new : Facts) (key : HashKey) (digests : List (List ℕ)) → IsProofFor dig k key digests → Accepts dig k (claim_of_proof key digests) new
      → IsRooted dig k → IsRooted dig new
  proof_rooted k new key digests is a r = keeps k new _ a r

  torrent_rooted : (torrent : Metainfo) → IsLawful torrent.piece_length torrent.files → (k : Facts) → IsTorrentTree dig torrent k → IsRooted dig k
  torrent_rooted torrent lawful k tree = (torrent_sound layers roots torrent lawful k tree).rooted

  pub step_rooted : StepKeepsRooted dig
  step_rooted = step_trees dig (IsRooted dig) key_rooted (group_rooted dig keeps) proof_rooted torrent_rooted

  pub start_rooted : StartsRooted dig
  start_rooted torrent first lawful begins = first_trees dig (IsRooted dig) key_rooted (group_rooted dig keeps) proof_rooted torrent_rooted lawful begins

  pub run_rooted : {torrent : Metainfo} {s : EngineState} (new es calls answers : _) → IsLawful torrent.piece_length torrent.files → Begins dig torrent s → Run dig s es calls answers new
      → AreRooted dig new
  run_rooted = from_first dig (IsRooted dig) key_rooted (group_rooted dig keeps) proof_rooted torrent_rooted

  -- and what sparse trees are

  module _ (is : IsDigest dig) where
    pub step_sparse : StepKeepsSparse dig
    step_sparse = step_trees dig (IsSound dig) (key_sound dig is keeps) (group_sound dig is keeps) (proof_sound dig is keeps) (torrent_sound layers roots)

    pub start_sparse : StartsSparse dig
    start_sparse torrent first lawful begins =
        first_trees dig (IsSound dig) (key_sound dig is keeps) (group_sound dig is keeps) (proof_sound dig is keeps) (torrent_sound layers roots) lawful begins

    pub run_sparse : {torrent : Metainfo} {s : EngineState} (new es calls answers : _) → IsLawful torrent.piece_length torrent.files → Begins dig torrent s → Run dig s es calls answers new
        → AreSparseTrees dig new
    run_sparse = from_first dig (IsSound dig) (key_sound dig is keeps) (group_sound dig is keeps) (proof_sound dig is keeps) (torrent_sound layers roots)

pub rooted_checked : (dig : Digest) → HeldIsChecked dig → (s : _) → AreRooted dig s → AreChecked dig s
rooted_checked dig is_checked s rooted t k at layer i d held = is_checked k (rooted t k at) layer i d held

pub right_checked : {dig : _} → HeldIsChecked dig → (k i bytes : _) → IsRooted dig k → i < blocks_of k → IsRight dig k i bytes → IsChecked dig k 0 i (dig bytes)
right_checked {dig} is_checked k i bytes rooted lt exact =
    let real : real_width (blocks_of k) 0 ≡ blocks_of k = omega arith in
    let covers : CoversBlock (blocks_of k) 0 i = record { inside = value_inside dig k 0 i (dig bytes) exact.leaf; real = omega arith } in
    is_checked k rooted 0 i (dig bytes) (sym (value_covers dig k 0 i covers) ∙ exact.leaf)
