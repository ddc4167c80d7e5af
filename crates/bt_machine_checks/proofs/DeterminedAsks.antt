-- Where two answers request the same blocks, what follows for peers is the same.
use Rattle.bt_machine_checks.proofs.Base.{[], ◌≡◌, ◌≢◌, ℕ, zero, suc, ◌+◌, inl, inr, Bool, true, false, List, ◌∷◌, ◌++◌, Some, refl, sym, ap, ◌∙◌, subst, arith, slice_get, slice_set, Contains, filter, range_with_len, append_cancel_left, filter-append, Contains-append_cases, Metainfo, BlockId, Ask, Request}
use Rattle.bt_machine_checks.proofs.Machine.{Digest, PeerState, EngineState, IsRangeOf, Sent, sent_to, interest_sent, RequestsHashes, requests, rests, AsksBlocks, RequestsEach, FollowsUp, FollowsEach, Answer, sent_by, is_block_request, plain_answer, asked_nothing, without_asked, LacksOneAtMost}
use Rattle.bt_machine.proofs.Lists.{heads, tails, here, later, contains_none, contains_cases, set_cases, range_limits}
use Rattle.bt_machine.proofs.Pairs.{Pairs}
use Rattle.bt_machine_checks.proofs.AnswerSends.{Follows, same_plan, follows_of, missing_in}
use Rattle.bt_machine.proofs.Places.{RangesTell, one_range}
use Rattle.bt_machine_checks.proofs.DeterminedFollow.{AlikePeers, interest_one, hash_one}

-- ---- why two answers request the same blocks

abbrev pub requests_in : List Sent → List Sent
requests_in sent = filter (λ x. is_block_request x.1) sent

-- their requests are the same, the first has none, or at most one block is missing
pub data SameAsks (m : EngineState) (f g : List Sent) : Type 0 where
  by_requests : requests_in f ≡ requests_in g → SameAsks m f g
  by_none : requests_in f ≡ [] → SameAsks m f g
  by_one : LacksOneAtMost m → SameAsks m f g

-- two answers and the engines after them: one but for the requests of blocks, and one where those are the same
pub record AreOne (a : Answer) (m : EngineState) (b : Answer) (n : EngineState) : Type 0 where
  pub plain : plain_answer a ≡ plain_answer b
  pub rest : without_asked m ≡ without_asked n
  pub whole : SameAsks m (sent_by a) (sent_by b) → (a ≡ b) × (m ≡ n)

pub are_equal : {a b m n : _} → a ≡ b → m ≡ n → AreOne a m b n
are_equal e f = record { plain = cc; rest = cc; whole = λ same. (e, f) }

pub asks_to : {m f g h k : _} → f ≡ h → g ≡ k → SameAsks m f g → SameAsks m h k
asks_to {m} {g} {h} e i same = rw (← i) (rw (← e) same)

requests_append : (xs ys : _) → requests_in (xs ++ ys) ≡ requests_in xs ++ requests_in ys
requests_append xs ys = filter-append (λ x. is_block_request x.1) xs ys

nil_of_append : {X : Type 0} (xs : List X) {ys : List X} → xs ++ ys ≡ [] → (xs ≡ []) × (ys ≡ [])
nil_of_append [] e = (refl, e)
nil_of_append (x ∷ xs) e = absurd cc

lacks_there : (s m : EngineState) → m.files ≡ s.files → LacksOneAtMost m → LacksOneAtMost s
lacks_there s m e one b c x y = one b c (missing_in s m b e x) (missing_in s m c e y)

-- after what both send
pub asks_behind : {s m : EngineState} (xs : _) {f g : _} → m.files ≡ s.files → SameAsks m (xs ++ f) (xs ++ g) → SameAsks s f g
asks_behind xs {f} {g} e (by_requests same) =
    by_requests (append_cancel_left (requests_in xs) (requests_in f) (requests_in g) (sym (requests_append xs f) ∙ same ∙ requests_append xs g))
asks_behind xs {f} e (by_none none) = by_none (nil_of_append _ (sym (requests_append xs f) ∙ none)).1
asks_behind {s} {m} xs e (by_one one) = by_one (lacks_there s m e one)

-- ---- a block and its request

pub range_one : {torrent : Metainfo} {a c : Ask} {b : BlockId} → IsRangeOf torrent a.piece a.begin a.length b
    → IsRangeOf torrent c.piece c.begin c.length b → a ≡ c
range_one x y = ap (λ r. record { piece = r.piece; begin = r.begin; length = r.length }) (one_range x y)

frames_one : (s p blocks : _) {f g : _} → RequestsEach s p blocks f → RequestsEach s p blocks g → f ≡ g
frames_one s p [] x y = cc
frames_one s p (b ∷ blocks) x y =
    x.4 ∙ ap (λ z. z ∷ x.1) (x.2.is ∙ ap (λ a. sent_to p (Request a)) (range_one x.2.whole y.2.whole) ∙ sym y.2.is)
    ∙ ap (λ zs. y.0 ∷ zs) (frames_one s p blocks x.3 y.3) ∙ sym y.4

ask_sent : (p : _) {a c : _} → sent_to p (Request a) ≡ sent_to p (Request c) → a ≡ c
ask_sent p e = let frames = ap (λ x. x.1) e in cc

blocks_one : (s : EngineState) (p bs cs f : _) → RangesTell s.torrent
    → RequestsEach s p bs f → RequestsEach s p cs f → bs ≡ cs
blocks_one s p [] [] f tell x y = refl
blocks_one s p [] (c ∷ cs) f tell x y = let no = sym x ∙ y.4 in absurd cc
blocks_one s p (b ∷ bs) [] f tell x y = let no = sym y ∙ x.4 in absurd cc
blocks_one s p (b ∷ bs) (c ∷ cs) f tell x y =
    let same = sym x.4 ∙ y.4 in
    let ask : x.2.ask ≡ y.2.ask = ask_sent p (cc) in
    let block = tell.block x.2.whole (rw ask y.2.whole) in
    ap (λ z. z ∷ bs) block ∙ ap (λ zs. c ∷ zs) (blocks_one s p bs cs x.1 tell x.3 (rw (tails same) y.3))

no_block : (s p bs : _) → RequestsEach s p bs [] → bs ≡ []
no_block s p [] x = refl
no_block s p (b ∷ bs) x = let no = x.4 in absurd cc

-- ---- which blocks are asked

-- where none is asked, none may be
asks_none : {s p : _} (bs : _) → AsksBlocks s p [] → AsksBlocks s p bs → bs ≡ []
asks_none [] x y = refl
asks_none {p} (b ∷ bs) x y = absurd (never _ _ refl refl)
  where
    never : (chokes interested : Bool) → p.peer_choking ≡ chokes → p.am_interested ≡ interested → ⊥
    never true interested e f = let no = y.shut (inl e) in absurd cc
    never false false e f = let no = y.shut (inr f) in absurd cc
    never false true e f = elim (x.all e f) [ inl full ↦ (let few = y.few in absurd (omega arith)) | inr every ↦ contains_none (every b (y.are_open b (here bs refl))) ]

-- where at most one block is missing, there is no choice
asks_one : {s p : _} (bs cs : _) → LacksOneAtMost s → AsksBlocks s p bs → AsksBlocks s p cs → bs ≡ cs
asks_one [] cs one x y = sym (asks_none cs x y)
asks_one (b ∷ bs) [] one x y = asks_none _ y x
asks_one {s} {p} (b ∷ bs) (c ∷ cs) one x y =
    ap (λ zs. b ∷ zs) (alone bs x) ∙ ap (λ z. z ∷ []) (one b c (x.are_open b (here bs refl)).missing (y.are_open c (here cs refl)).missing) ∙ ap (λ zs. c ∷ zs) (sym (alone cs y))
  where
    alone : {d : _} (ds : _) → AsksBlocks s p (d ∷ ds) → ds ≡ []
    alone [] x = refl
    alone {d} (e ∷ ds) x =
        absurd
        (x.distinct 0 1 d (omega arith) (omega arith) (one d e (x.are_open d (here (e ∷ ds) refl)).missing (x.are_open e (later d (e ∷ ds) (here ds refl))).missing))

-- ---- what is sent, by its parts

interest_no_request : (p : _) (was now : Bool) → requests_in (interest_sent p was now) ≡ []
interest_no_request p true true = refl
interest_no_request p true false = refl
interest_no_request p false true = refl
interest_no_request p false false = refl

only_requests : (s p blocks : _) {sent : _} → RequestsEach s p blocks sent → requests_in sent ≡ sent
only_requests s p [] r = cc
only_requests s p (b ∷ blocks) r =
    ap requests_in r.4 ∙ ap (λ x. requests_in (x ∷ r.1)) r.2.is ∙ ap (λ zs. sent_to p (Request r.2.ask) ∷ zs) (only_requests s p blocks r.3)
    ∙ ap (λ x. x ∷ r.1) (sym r.2.is) ∙ sym r.4

all_to : (s p blocks sent : _) {z : _} → RequestsEach s p blocks sent → Contains sent z
    → z.0 ≡ p.key
all_to s p [] sent {z} r c = absurd (contains_none (subst (λ l. Contains l z) r c))
all_to s p (b ∷ blocks) sent {z} r c = elim (contains_cases r.1 (subst (λ l. Contains l z) r.4 c)) [
  | inl one ↦ ap (λ x. x.0) (sym one ∙ r.2.is)
  | inr more ↦ all_to s p blocks r.1 r.3 more
]

hash_no_request : {dig s p q sent : _} → RequestsHashes dig s p sent q → requests_in sent ≡ []
hash_no_request (requests b k key x y z w e f) = cc
hash_no_request (rests x e f) = cc

-- no two peers have one key
abbrev pub KeysApart : EngineState → Type 0
KeysApart s = (i j : ℕ) (p q : PeerState) → slice_get s.peers i ≡ Some p → slice_get s.peers j ≡ Some q → p.key ≡ q.key → i ≡ j

module _ (dig : Digest) where
  requests_of : {s i f a : _} → (x : FollowsUp dig s i f a) → requests_in f ≡ x.block_frames
  requests_of {s} x =
      let interest = ap requests_in x.interest.told ∙ interest_no_request x.peer x.peer.am_interested x.interested.am_interested in
      let hash = hash_no_request x.hashes in
      ap requests_in x.all ∙ requests_append (x.interest_frames ++ x.hash_frames) x.block_frames
      ∙ ap (λ zs. zs ++ requests_in x.block_frames) (requests_append x.interest_frames x.hash_frames ∙ ap (λ zs. zs ++ requests_in x.hash_frames) interest ∙ hash) ∙ only_requests s x.planned x.blocks x.requests

  -- ---- what follows for one peer

  module _ {s : EngineState} {i : ℕ} {f g : List Sent} {a b : EngineState} (tell : RangesTell s.torrent) (x : FollowsUp dig s i f a) (y : FollowsUp dig s i g b) where
    peers : x.peer ≡ y.peer
    peers = cc

    interest : (x.interest_frames ≡ y.interest_frames) × AlikePeers x.interested y.interested
    interest = interest_one refl (ap asked_nothing peers) x.interest y.interest

    hash : (x.hash_frames ≡ y.hash_frames) × AlikePeers x.planned y.planned
    hash = hash_one dig refl interest.1 x.hashes y.hashes

    planned : x.planned ≡ y.planned
    planned =
        let asked : x.planned.asked ≡ y.planned.asked = (same_plan x.hashes).same_asked ∙ ap (λ (p : PeerState). p.asked) x.interest.others ∙ ap (λ (p : PeerState). p.asked) peers
        ∙ sym (cc) ∙ sym (same_plan y.hashes).same_asked in
        ap (λ l. record (asked_nothing x.planned) { asked = l }) asked ∙ ap (λ (p : PeerState). record p { asked = y.planned.asked }) hash.1

    theirs : AsksBlocks s x.planned y.blocks
    theirs = rw planned y.asks

    their_requests : RequestsEach s x.planned y.blocks y.block_frames
    their_requests = rw planned y.requests

    by_blocks : x.blocks ≡ y.blocks → x.block_frames ≡ y.block_frames
    by_blocks e = frames_one s _ _ x.requests (rw e their_requests)

    blocks : SameAsks s f g → (x.blocks ≡ y.blocks) × (x.block_frames ≡ y.block_frames)
    blocks (by_requests same) =
        let frames = sym (requests_of x) ∙ same ∙ requests_of y in
        (blocks_one s x.planned x.blocks y.blocks x.block_frames tell x.requests (rw frames their_requests), frames)
    blocks (by_none none) =
        let own = no_block s x.planned x.blocks (rw (← (sym (requests_of x) ∙ none)) x.requests) in
        let e = own ∙ sym (asks_none y.blocks (rw (← own) x.asks) theirs) in
        (e, by_blocks e)
    blocks (by_one one) = let e = asks_one x.blocks y.blocks one x.asks theirs in (e, by_blocks e)

    pub follows_same : SameAsks s f g → (f ≡ g) × (a ≡ b)
    follows_same same =
        let e = blocks same in (
          x.all ∙ ap (λ zs. zs ++ x.hash_frames ++ x.block_frames) interest.0 ∙ ap (λ zs. y.interest_frames ++ zs ++ x.block_frames) hash.0 ∙ ap (λ zs. y.interest_frames ++ y.hash_frames ++ zs) e.1 ∙ sym y.all,
          x.after ∙ ap (λ p. record s { peers = slice_set s.peers i (record p { asked = p.asked ++ x.blocks }) }) planned
              ∙ ap (λ bs. record s { peers = slice_set s.peers i (record y.planned { asked = y.planned.asked ++ bs }) }) e.0 ∙ sym y.after,
        )

  -- ---- what follows for each peer

  -- each peer afterwards was there, under its key
  before : {s new i : _} (j : ℕ) {sent q : _} → Follows s i sent new → slice_get new.peers j ≡ Some q
      → (p : PeerState) × (slice_get s.peers j ≡ Some p) × (q.key ≡ p.key)
  before {s} {i} j {q} f at = elim (set_cases _ i j (subst (λ l. slice_get l j ≡ Some q) f.peers at)) [
    | inl one ↦ (f.peer, ap (slice_get s.peers) one.0 ∙ f.was, ap (λ x. x.key) one.1 ∙ f.same_key)
    | inr old ↦ (q, old, refl)
  ]

  apart_after : {s new i sent : _} → Follows s i sent new → KeysApart s → KeysApart new
  apart_after f apart j k p q x y e =
      let u = before j f x in
      let v = before k f y in
      apart j k u.0 v.0 u.1 v.1 (cc)

  own_key : {s i sent new z : _} → (x : FollowsUp dig s i sent new) → Contains (requests_in sent) z
      → z.0 ≡ x.peer.key
  own_key {s} {z} x c =
      all_to s _ _ _ x.requests (subst (λ l. Contains l z) (requests_of x) c) ∙ (same_plan x.hashes).same_key ∙ ap (λ p. p.key) x.interest.others

  each_key : (is s sent new : _) {z : _} → FollowsEach dig is s sent new → Contains (requests_in sent) z
      → (j : ℕ) × Contains is j × (p : PeerState) × (slice_get s.peers j ≡ Some p) × (z.0 ≡ p.key)
  each_key [] s sent new {z} x c = absurd (contains_none (subst (λ l. Contains (requests_in l) z) x.0 c))
  each_key (i ∷ is) s sent new {z} x c = elim (Contains-append_cases (requests_in x.1) (requests_in x.2) z (rw (← (ap requests_in x.5 ∙ requests_append x.1 x.2)) c)) [
    | inl own ↦ (i, here is refl, x.3.peer, x.3.here, own_key x.3 own)
    | inr more ↦
        let r = each_key is x.0 x.2 new x.4 more in
        let p = before r.0 (follows_of x.3) r.3 in
        (r.0, later i is r.1, p.0, p.1, r.4 ∙ p.2)
  ]

  split_by : (P : Sent → Type 0) (xs ys : _) {us vs : _} → ((z : Sent) → Contains xs z → P z) → ((z : Sent) → Contains ys z → P z)
      → ((z : Sent) → Contains us z → ¬ P z) → ((z : Sent) → Contains vs z → ¬ P z) → xs ++ us ≡ ys ++ vs
      → (xs ≡ ys) × (us ≡ vs)
  split_by P [] [] p q r t e = (refl, e)
  split_by P [] (y ∷ ys) {vs} p q r t e = absurd (r y (rw e (here _ refl)) (q y (here ys refl)))
  split_by P (x ∷ xs) [] {us} p q r t e = absurd (t x (rw (← e) (here _ refl)) (p x (here xs refl)))
  split_by P (x ∷ xs) (y ∷ ys) p q r t e =
      let tail = split_by P xs ys (λ z c. p z (later x xs c)) (λ z c. q z (later y ys c)) r t (tails e) in
      (ap (λ z. z ∷ xs) (heads e) ∙ ap (λ zs. y ∷ zs) tail.0, tail.1)

  each_files : (is s sent new : _) → FollowsEach dig is s sent new → new.files ≡ s.files
  each_files [] s sent new x = cc
  each_files (i ∷ is) s sent new x = each_files is x.0 x.2 new x.4 ∙ ap (λ z. z.files) x.3.after

  pub each_same : (is : _) (s : EngineState) {f g a b : _} → RangesTell s.torrent → KeysApart s
      → Pairs (λ i j. i ≢ j) is → FollowsEach dig is s f a → FollowsEach dig is s g b → SameAsks a f g
      → (f ≡ g) × (a ≡ b)
  each_same [] s tell apart once x y same = (x.0 ∙ sym y.0, x.1 ∙ sym y.1)
  each_same (i ∷ is) s {f} {g} {a} {b} tell apart once x y same =
      let parts = split same in
      let first = follows_same tell x.3 y.3 parts.0 in
      let there : FollowsEach dig is x.0 y.2 b = rw first.1 y.4 in
      let rest = each_same is x.0 (rw own.torrent tell) (apart_after own apart) once.1 x.4 there parts.1 in
      (x.5 ∙ ap (λ zs. zs ++ x.2) first.0 ∙ ap (λ zs. y.1 ++ zs) rest.0 ∙ sym y.5, rest.1)
    where
      own : Follows s i x.1 x.0
      own = follows_of x.3

      peer_is : y.3.peer ≡ x.3.peer
      peer_is = cc

      -- what is asked of later peers goes to other keys
      others : {mid h : _} (k new : _) {z : _} → Follows s i h mid → FollowsEach dig is mid k new
          → Contains (requests_in k) z → z.0 ≡ x.3.peer.key → ⊥
      others {mid} k new fol each c e =
          let r = each_key is mid k new each c in
          let p = before r.0 fol r.3 in
          once.0 r.0 r.1 (sym (apart r.0 i p.0 x.3.peer p.1 x.3.here (cc)))

      parts_of : requests_in f ≡ requests_in x.1 ++ requests_in x.2
      parts_of = ap requests_in x.5 ∙ requests_append x.1 x.2

      split : SameAsks a f g → SameAsks s x.1 y.1 × SameAsks a x.2 y.2
      split (by_requests e) =
          let both = split_by (λ z. z.0 ≡ x.3.peer.key) _ _ (λ z c. own_key x.3 c) (λ z c. own_key y.3 c ∙ ap (λ p. p.key) peer_is)
          (λ z c. others x.2 a own x.4 c) (λ z c. others y.2 b (follows_of y.3) y.4 c) (sym parts_of ∙ e ∙ ap requests_in y.5 ∙ requests_append y.1 y.2) in
          (by_requests both.0, by_requests both.1)
      split (by_none e) = let none = nil_of_append _ (sym parts_of ∙ e) in (by_none none.0, by_none none.1)
      split (by_one one) = (by_one (lacks_there s a (each_files (i ∷ is) s f a x) one), by_one one)

-- places are no two the same
pub range_apart : (a n : ℕ) → Pairs (λ i j. i ≢ j) (range_with_len a n)
range_apart a zero = tt
range_apart a (suc n) = (λ j c e. absurd (let limits = range_limits (a + 1) n c in omega arith), range_apart (a + 1) n)
