-- What each frame of an answer follows from.
use Rattle.bt_machine_checks.proofs.Base.{[], ◌≡◌, ℕ, zero, suc, ◌⊎◌, inl, inr, ◌↔◌, Bool, true, false, List, ◌∷◌, ◌++◌, length, Some, Ok, refl, sym, ap, ◌∙◌, subst, arith, slice_get, slice_set, Contains, range_with_len, Contains-append_cases, PeerKey, BlockId, Ask, PeerMessage, Interested, NotInterested, Have, Bitfield, Request, Cancel, Missing}
use Rattle.bt_machine_checks.proofs.Machine.{Digest, Frame, hello_frame, message_frame, Connect, Next, Rechoke, PeerState, EngineState, DeviceCalls, IsRangeOf, Sent, Output, sent_to, haves, FollowsUp, RequestsHashes, requests, rests, IsOpen, IsInteresting, RequestsBlock, RequestsEach, interest_sent, IsPeer, KeepsPeer, StepNext, no_peer, waits, keeps_peer, closes, faulty, no_memory, StepConnect, joins, full, spent, no_room, new_peer, our_handshake, greeting, FollowsEach, Rechokes, StepRechoke, rechokes, not_rechoked, choking_sent, chokes_sent, is_served, rechoked, Connected, Stepped, Rechoked, Step, sent_by, state_at}
use Rattle.bt_machine.proofs.Lists.{contains_none, contains_cases, contains_flat_map, here, later, set_same, set_other as stays_there}
use Rattle.bt_machine_checks.proofs.AnswerParts.{Part, greets, replies, interests, chokes, hashes, asks, part_of, AllOf, all_none, all_one, all_is, all_interest, all_hashes, all_asks, IsFollowing, in_interest, in_hash, in_block, following, event_leaves}

pub nat_cases : (i j : ℕ) → (i ≡ j) ⊎ (i ≡ j → ⊥)
nat_cases zero zero = inl refl
nat_cases zero (suc j) = inr (λ e. absurd (omega arith))
nat_cases (suc i) zero = inr (λ e. absurd (omega arith))
nat_cases (suc i) (suc j) = elim (nat_cases i j) [ inl e ↦ inl (cc) | inr apart ↦ inr (λ e. apart (omega arith)) ]

-- what stands elsewhere is not changed
pub set_other : {X : Type 0} (xs : List X) (i j : ℕ) (x : X) → (i ≡ j → ⊥) → slice_get (slice_set xs i x) j ≡ slice_get xs j
set_other xs i j x apart = stays_there xs i j x (λ e. apart (sym e))

-- ---- what follows for a peer

abbrev pub frame_to : PeerKey → PeerMessage → Sent
frame_to key m = (key, message_frame m)

-- what the peer is afterwards, why each message is sent, and that nothing else changes
pub record Follows (s : EngineState) (i : ℕ) (sent : List Sent) (new : EngineState) : Type 0 where
  pub peer : PeerState
  pub after : PeerState
  pub blocks : List BlockId
  pub was : slice_get s.peers i ≡ Some peer
  pub now : slice_get new.peers i ≡ Some after
  pub same_key : after.key ≡ peer.key
  pub same_choking : after.peer_choking ≡ peer.peer_choking
  pub same_has : after.has ≡ peer.has
  pub due : (after.am_interested ≡ true) ↔ IsInteresting s peer
  pub asked : after.asked ≡ peer.asked ++ blocks
  pub open_blocks : (b : BlockId) → Contains blocks b → IsOpen s peer b
  pub may_ask : (b : BlockId) → Contains blocks b → (after.peer_choking ≡ false) × (after.am_interested ≡ true)
  pub peers : new.peers ≡ slice_set s.peers i after
  pub files : new.files ≡ s.files
  pub torrent : new.torrent ≡ s.torrent
  pub requested : (key : PeerKey) (ask : Ask) → Contains sent (frame_to key (Request ask)) → (b : BlockId) × Contains blocks b × IsRangeOf s.torrent ask.piece ask.begin ask.length b × (after.key ≡ key)
  pub interested : (key : PeerKey) → Contains sent (frame_to key Interested) → (peer.am_interested ≡ false) × (after.am_interested ≡ true) × (peer.key ≡ key)
  pub uninterested : (key : PeerKey) → Contains sent (frame_to key NotInterested) → (peer.am_interested ≡ true) × (after.am_interested ≡ false) × (peer.key ≡ key)
  pub no_have : (key : PeerKey) (piece : ℕ) → Contains sent (frame_to key (Have piece)) → ⊥
  pub no_cancel : (key : PeerKey) (ask : Ask) → Contains sent (frame_to key (Cancel ask)) → ⊥

pub record SamePlan (p q : PeerState) : Type 0 where
  pub same_key : q.key ≡ p.key
  pub same_choking : q.peer_choking ≡ p.peer_choking
  pub same_interest : q.am_interested ≡ p.am_interested
  pub same_choke : q.am_choking ≡ p.am_choking
  pub same_has : q.has ≡ p.has
  pub same_asked : q.asked ≡ p.asked

pub same_plan : {dig s p q sent : _} → RequestsHashes dig s p sent q → SamePlan p q
same_plan (requests b k key x y z w e f) = record {
  same_key = cc;
  same_choking = cc;
  same_interest = cc;
  same_choke = cc;
  same_has = cc;
  same_asked = cc;
}
same_plan (rests x e f) = record {
  same_key = cc;
  same_choking = cc;
  same_interest = cc;
  same_choke = cc;
  same_has = cc;
  same_asked = cc;
}

open_with : {s : EngineState} {p q : PeerState} {b : BlockId} → q.has ≡ p.has → q.asked ≡ p.asked → IsOpen s q b → IsOpen s p b
open_with {s} {p} {b} e f o = record {
  has = rw (← e) o.has;
  missing = o.missing;
  new = rw (← f) o.new;
  room = o.room;
}

not_true : (b : Bool) → (b ≡ true → ⊥) → b ≡ false
not_true true never = absurd (never refl)
not_true false never = refl

not_false : (b : Bool) → (b ≡ false → ⊥) → b ≡ true
not_false true never = refl
not_false false never = absurd (never refl)

each_ask : {s p : _} (blocks sent : _) → RequestsEach s p blocks sent → {x : _} → Contains sent x → (b : BlockId) × Contains blocks b × RequestsBlock s p b x
each_ask [] sent r {x} c = absurd (contains_none (subst (λ l. Contains l x) r c))
each_ask {s} {p} (b ∷ blocks) sent r {x} c = elim (contains_cases r.1 (subst (λ l. Contains l x) r.4 c)) [
  | inl same ↦ (b, here blocks refl, subst (λ y. RequestsBlock s p b y) same r.2)
  | inr more ↦ let q = each_ask blocks r.1 r.3 more in (q.0, later b blocks q.1, q.2)
]

abbrev ask_in : Frame → Ask
ask_in (message_frame (Request ask)) = ask
ask_in _ = record { piece = 0; begin = 0; length = 0 }

told_interest : (p : _) (was now : Bool) {key : _} → Contains (interest_sent p was now) (frame_to key Interested) → (was ≡ false) × (now ≡ true) × (p.key ≡ key)
told_interest p false true c = elim (contains_cases [] c) [ inl same ↦ (refl, refl, ap (λ x. x.0) same) | inr none ↦ absurd (contains_none none) ]
told_interest p true false {key} c = elim (contains_cases [] c) [ inl same ↦ absurd (not_told same) | inr none ↦ absurd (contains_none none) ]
  where
    is_told : Frame → Bool
    is_told (message_frame Interested) = true
    is_told _ = false

    not_told : frame_to p.key NotInterested ≡ frame_to key Interested → ⊥
    not_told same = let wrong = ap (λ x. is_told x.1) same in absurd cc
told_interest p _ _ c = absurd (contains_none c)

told_no_interest : (p : _) (was now : Bool) {key : _} → Contains (interest_sent p was now) (frame_to key NotInterested)
    → (was ≡ true) × (now ≡ false) × (p.key ≡ key)
told_no_interest p true false c = elim (contains_cases [] c) [ inl same ↦ (refl, refl, ap (λ x. x.0) same) | inr none ↦ absurd (contains_none none) ]
told_no_interest p false true {key} c = elim (contains_cases [] c) [ inl same ↦ absurd (not_told same) | inr none ↦ absurd (contains_none none) ]
  where
    is_told : Frame → Bool
    is_told (message_frame Interested) = true
    is_told _ = false

    not_told : frame_to p.key Interested ≡ frame_to key NotInterested → ⊥
    not_told same = let wrong = ap (λ x. is_told x.1) same in absurd cc
told_no_interest p _ _ c = absurd (contains_none c)

module _ {dig : Digest} {s : EngineState} {i : ℕ} {sent : List Sent} {new : EngineState} (f : FollowsUp dig s i sent new) where
  abbrev stands : Sent → Type 0
  stands x = IsFollowing f.interest_frames f.hash_frames f.block_frames x

  place_in : {x : _} → Contains sent x → stands x
  place_in c = following f.all c

  of_interest : {x : _} → Contains f.interest_frames x → part_of x.1 ≡ interests
  of_interest {x} c = all_is interests f.interest.told (all_interest f.peer f.peer.am_interested f.interested.am_interested) x c

  of_hash : {x : _} → Contains f.hash_frames x → part_of x.1 ≡ hashes
  of_hash {x} c = all_hashes f.hashes x c

  of_block : {x : _} → Contains f.block_frames x → part_of x.1 ≡ asks
  of_block {x} c = all_asks s _ _ _ f.requests x c

  ask_sent : {key : _} (ask : Ask) → stands (frame_to key (Request ask))
      → (b : BlockId) × Contains f.blocks b × IsRangeOf s.torrent ask.piece ask.begin ask.length b × (f.planned.key ≡ key)
  ask_sent ask (in_interest c) = let e = of_interest c in absurd cc
  ask_sent ask (in_hash c) = let e = of_hash c in absurd cc
  ask_sent ask (in_block c) =
      let r = each_ask _ _ f.requests c in
      let same = ap (λ x. ask_in x.1) r.2.is in
      (r.0, r.1, subst (λ a. IsRangeOf s.torrent a.piece a.begin a.length r.0) (sym same) r.2.whole, ap (λ x. x.0) (sym r.2.is))

  interest_told : {key : _} → stands (frame_to key Interested) → (f.peer.am_interested ≡ false) × (f.interested.am_interested ≡ true) × (f.peer.key ≡ key)
  interest_told {key} (in_interest c) = told_interest f.peer _ _ (rw (← f.interest.told) c)
  interest_told (in_hash c) = let e = of_hash c in absurd cc
  interest_told (in_block c) = let e = of_block c in absurd cc

  no_interest_told : {key : _} → stands (frame_to key NotInterested) → (f.peer.am_interested ≡ true) × (f.interested.am_interested ≡ false) × (f.peer.key ≡ key)
  no_interest_told {key} (in_interest c) = told_no_interest f.peer _ _ (rw (← f.interest.told) c)
  no_interest_told (in_hash c) = let e = of_hash c in absurd cc
  no_interest_told (in_block c) = let e = of_block c in absurd cc

  have_not_told : (key piece : _) → stands (frame_to key (Have piece)) → ⊥
  have_not_told key piece (in_interest c) = let e = of_interest c in absurd cc
  have_not_told key piece (in_hash c) = let e = of_hash c in absurd cc
  have_not_told key piece (in_block c) = let e = of_block c in absurd cc

  cancel_not_told : (key : _) (ask : Ask) → stands (frame_to key (Cancel ask)) → ⊥
  cancel_not_told key ask (in_interest c) = let e = of_interest c in absurd cc
  cancel_not_told key ask (in_hash c) = let e = of_hash c in absurd cc
  cancel_not_told key ask (in_block c) = let e = of_block c in absurd cc

  pub follows_of : Follows s i sent new
  follows_of =
      let plan = same_plan f.hashes in
      let after : PeerState = record f.planned { asked = f.planned.asked ++ f.blocks } in
      let has : f.interested.has ≡ f.peer.has = cc in
      let key : f.interested.key ≡ f.peer.key = cc in
      let choking : f.interested.peer_choking ≡ f.peer.peer_choking = cc in
      let asked : f.interested.asked ≡ f.peer.asked = cc in
      let some_block : (b : BlockId) → Contains f.blocks b → f.blocks ≡ [] → ⊥ = λ b c e. contains_none (subst (λ l. Contains l b) e c) in
      record {
        peer = f.peer;
        after = after;
        blocks = f.blocks;
        was = f.here;
        now = ap (λ x. slice_get x.peers i) f.after ∙ set_same _ i f.here;
        same_key = cc;
        same_choking = cc;
        same_has = cc;
        due = (λ e. f.interest.interest.0 (cc), λ e. plan.same_interest ∙ f.interest.interest.1 e);
        asked = cc;
        open_blocks = λ b c. open_with (cc) (cc) (f.asks.are_open b c);
        may_ask = λ b c. (not_true _ (λ e. some_block b c (f.asks.shut (inl e))), not_false _ (λ e. some_block b c (f.asks.shut (inr e))));
        peers = cc;
        files = cc;
        torrent = cc;
        requested = λ k ask c. ask_sent ask (place_in c);
        interested = λ k c. let r = interest_told (place_in c) in (r.0, plan.same_interest ∙ r.1, r.2);
        uninterested = λ k c. let r = no_interest_told (place_in c) in (r.0, plan.same_interest ∙ r.1, r.2);
        no_have = λ k piece c. have_not_told k piece (place_in c);
        no_cancel = λ k ask c. cancel_not_told k ask (place_in c);
      }

-- ---- what a step sends

choking_part : (p : _) (choked served : Bool) → AllOf chokes (choking_sent p choked served)
choking_part p true false = all_none chokes
choking_part p false true = all_none chokes
choking_part p _ _ = all_one _ [] refl (all_none chokes)

pub all_chokes : (s : EngineState) → AllOf chokes (chokes_sent s)
all_chokes s x c =
    let q = contains_flat_map (λ p. choking_sent p p.am_choking (is_served s p)) s.peers c in
    choking_part q.0 _ _ x q.2

pub data IsSentBy (dig : Digest) (s new : EngineState) (x : Sent) : Type 0 where
  alike : (part : Part) → (part ≡ greets) ⊎ (part ≡ replies) → part_of x.1 ≡ part → IsSentBy dig s new x
  announced : (key : PeerKey) (i : ℕ) (p : PeerState) (calls : DeviceCalls) (out : Output) → IsPeer s key i p → (g : KeepsPeer dig s i p calls out new)
      → Contains (haves s g.handled) x → IsSentBy dig s new x
  followed : (key : PeerKey) (i : ℕ) (p : PeerState) (calls : DeviceCalls) (out : Output) → IsPeer s key i p → (g : KeepsPeer dig s i p calls out new)
      → Contains g.sent x → IsSentBy dig s new x
  chosen : (sent : List Sent) → FollowsEach dig (range_with_len 0 (length s.peers)) (rechoked s) sent new → Contains (chokes_sent s) x → IsSentBy dig s new x
  rechoked_then : (sent : List Sent) → FollowsEach dig (range_with_len 0 (length s.peers)) (rechoked s) sent new → Contains sent x → IsSentBy dig s new x

module _ (dig : Digest) where
  abbrev Sent_by : EngineState → EngineState → List Sent → Type 0
  Sent_by s new xs = (x : Sent) → Contains xs x → IsSentBy dig s new x

  nothing_sent : (s new : _) {a b : _} → a ≡ b → sent_by b ≡ [] → Sent_by s new (sent_by a)
  nothing_sent s new e none x c = absurd (contains_none (subst (λ l. Contains l x) (ap sent_by e ∙ none) c))

  sent_is : (s new : _) {xs ys : _} → xs ≡ ys → Sent_by s new ys → Sent_by s new xs
  sent_is s new e f = rw e f

  greeting_sent : (s new xs : _) → AllOf greets xs → Sent_by s new xs
  greeting_sent s new xs all x c = alike greets (inl refl) (all x c)

  goes_on_sent : {s new key i p calls out : _} → IsPeer s key i p → KeepsPeer dig s i p calls out new → Sent_by s new out.send
  goes_on_sent {s} {key} {i} {p} {calls} {out} peer g x c =
      let rest = record p { stream = g.takes.rest } in
      let left = event_leaves dig _ i (set_same _ i peer.here) _ calls g.takes.handles in
      elim (Contains-append_cases (g.effect.send ++ haves s g.handled) g.sent x (rw (← g.send) c)) [
        | inl front ↦ elim (Contains-append_cases g.effect.send (haves s g.handled) x front) [
          | inl one ↦ alike replies (inr refl) (left.replied x one)
          | inr two ↦ announced key i p calls out peer g two
        ]
        | inr three ↦ followed key i p calls out peer g three
      ]

  next_sent : {s new key calls r : _} → StepNext dig s key calls r new → Sent_by s new (sent_by (Stepped r))
  next_sent {s} {new} (no_peer x y e z) = nothing_sent s new (ap (λ x. Stepped x) e) refl
  next_sent {s} {new} (waits i p x y z e f) = nothing_sent s new (ap (λ x. Stepped x) e) refl
  next_sent {s} {new} (keeps_peer i p out peer g e) = sent_is s new (cc) (goes_on_sent peer g)
  next_sent {s} {new} (closes i p out x g e) = nothing_sent s new (ap (λ x. Stepped x) (e ∙ ap (λ o. Ok (Some o)) g.is)) refl
  next_sent {s} {new} (faulty i p out x g e) = nothing_sent s new (ap (λ x. Stepped x) (e ∙ ap (λ o. Ok (Some o)) g.is)) refl
  next_sent {s} {new} (no_memory i p x g e) = nothing_sent s new (ap (λ x. Stepped x) e) refl

  connect_sent : {s new r : _} → StepConnect s r new → Sent_by s new (sent_by (Connected r))
  connect_sent {s} {new} (joins key bytes x y z w e f) =
      sent_is s new (ap (λ x. sent_by (Connected x)) e)
      (greeting_sent s new (greeting s key bytes).send (all_one (key, hello_frame (our_handshake s.torrent.infohash)) (sent_to (new_peer s key) (Bitfield bytes) ∷ []) refl (all_one (sent_to (new_peer s key) (Bitfield bytes)) [] refl (all_none greets))))
  connect_sent {s} {new} (full x e y) = nothing_sent s new (ap (λ x. Connected x) e) refl
  connect_sent {s} {new} (spent x y e z) = nothing_sent s new (ap (λ x. Connected x) e) refl
  connect_sent {s} {new} (no_room x y e z) = nothing_sent s new (ap (λ x. Connected x) e) refl

  rechokes_sent : {s new out : _} → Rechokes dig s out new → Sent_by s new out.send
  rechokes_sent {s} r x c =
      elim (Contains-append_cases (chokes_sent s) r.sent x (subst (λ o. Contains o.send x) r.is c)) [
        | inl front ↦ chosen r.sent r.follows front
        | inr more ↦ rechoked_then r.sent r.follows more
      ]

  rechoke_sent : {s new r : _} → StepRechoke dig s r new → Sent_by s new (sent_by (Rechoked r))
  rechoke_sent {s} {new} (rechokes out x e) = sent_is s new (cc) (rechokes_sent x)
  rechoke_sent {s} {new} (not_rechoked e x) = nothing_sent s new (ap (λ x. Rechoked x) e) refl

  pub step_sent : (s new e calls a : _) → Step dig s e calls a new → Sent_by s new (sent_by a)
  step_sent s new Connect calls a t = sent_is s new (ap sent_by t.1) (connect_sent t.3)
  step_sent s new (Next key) calls a t = sent_is s new (ap sent_by t.1) (next_sent t.3)
  step_sent s new Rechoke calls a t = sent_is s new (ap sent_by t.1) (rechoke_sent t.3)
  step_sent s new event calls a t = nothing_sent s new t.1 refl

pub missing_in : (s new : EngineState) (b : _) → new.files ≡ s.files → state_at s b ≡ Some Missing → state_at new b ≡ Some Missing
missing_in s new b e m = rw e m
