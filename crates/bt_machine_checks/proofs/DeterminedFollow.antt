-- What follows for a peer is one and no other, but for the blocks that are requested.
use Rattle.bt_machine_checks.proofs.Base.{[], ◌≡◌, ℕ, zero, suc, inl, inr, Bool, true, false, not, List, ◌∷◌, ◌++◌, map, Some, refl, sym, ap, ◌∙◌, arith, slice_get, slice_set, ◌↔◌, option_and_then, cases_lt, filter-append, IsPlan, planned_key, BlockId, HashRequest}
use Rattle.bt_machine_checks.proofs.Machine.{Digest, Asked, PeerState, EngineState, state_at, tree_of, leaf_at, piece_of, Has, sent_to, IsInteresting, interest_sent, TellsInterest, NeedsLeaf, IsLeastNeed, RequestsHashes, requests, rests, RequestsEach, FollowsUp, FollowsEach, is_block_request, other_frames, asked_nothing, without_asked}
use Rattle.bt_machine.proofs.Lists.{same_some}
use Rattle.bt_machine_checks.proofs.DeterminedParts.{anchor_one}

-- two engines that are one but for what peers are asked for, and two such peers
abbrev pub Alike : EngineState → EngineState → Type 0
Alike s t = without_asked s ≡ without_asked t

abbrev pub AlikePeers : PeerState → PeerState → Type 0
AlikePeers p q = asked_nothing p ≡ asked_nothing q

has_in : (s t p q b : _) → Alike s t → AlikePeers p q → Has s p b → Has t q b
has_in s t p q b same peers has =
    ap (λ x. option_and_then (λ piece. slice_get x.has piece) (piece_of t.torrent b)) (sym peers)
    ∙ ap (λ x. option_and_then (λ piece. slice_get p.has piece) (piece_of x.torrent b)) (sym same) ∙ has

state_in : (s t b : _) → Alike s t → state_at t b ≡ state_at s b
state_in s t b same = ap (λ x. state_at x b) (sym same)

-- ---- interest

interesting_in : (s t p q : _) → Alike s t → AlikePeers p q → IsInteresting s p → IsInteresting t q
interesting_in s t p q same peers i = (i.0, has_in s t p q i.0 same peers i.1, state_in s t i.0 same ∙ i.2)

bool_one : (P Q : Type 0) (a b : Bool) → (P → Q) → (Q → P) → (a ≡ true) ↔ P → (b ≡ true) ↔ Q → a ≡ b
bool_one P Q true true f g x y = refl
bool_one P Q true false f g x y = sym (y.1 (f (x.0 refl)))
bool_one P Q false true f g x y = x.1 (g (y.0 refl))
bool_one P Q false false f g x y = refl

interest_plain : (p : _) (was now : Bool) → interest_sent p was now ≡ interest_sent (asked_nothing p) was now
interest_plain p true true = refl
interest_plain p _ _ = refl

pub interest_one : {s t p q f g a b : _} → Alike s t → AlikePeers p q → TellsInterest s p f a → TellsInterest t q g b → (f ≡ g) × AlikePeers a b
interest_one {s} {t} {p} {q} {a} {b} same peers x y =
    let now : a.am_interested ≡ b.am_interested
    = bool_one _ _ _ _ (interesting_in s t p q same peers) (interesting_in t s q p (sym same) (sym peers)) x.interest y.interest in (
      x.told ∙ interest_plain p _ _ ∙ ap (λ (z : PeerState). interest_sent z z.am_interested a.am_interested) peers
          ∙ ap (λ n. interest_sent (asked_nothing q) q.am_interested n) now ∙ sym (interest_plain q _ _) ∙ sym y.told,
      ap asked_nothing x.others ∙ ap (λ n. record (asked_nothing p) { am_interested = n }) now ∙ ap (λ (z : PeerState). record z { am_interested = b.am_interested }) peers ∙ sym (ap asked_nothing y.others),
    )

-- ---- the hash request

module _ (dig : Digest) where
  needs_in : {s t p q b : _} → Alike s t → AlikePeers p q → NeedsLeaf dig s p b → NeedsLeaf dig t q b
  needs_in {s} {t} {p} {q} {b} same peers x = record {
    has = has_in s t p q b same peers x.has;
    not_marked = elim x.not_marked [ inl e ↦ inl (state_in s t b same ∙ e) | inr e ↦ inr (state_in s t b same ∙ e) ];
    unknown = ap (λ z. leaf_at dig z b) (sym same) ∙ x.unknown;
  }

  least_one : {s t p q b c : _} → Alike s t → AlikePeers p q → IsLeastNeed dig s p b → IsLeastNeed dig t q c → b ≡ c
  least_one {b} {c} same peers x y =
      let not_first = y.least b (needs_in same peers x.needs) in
      let not_second = x.least c (needs_in (sym same) (sym peers) y.needs) in
      let file : b.file ≡ c.file = elim (cases_lt b.file c.file) [
        | inl lt ↦ absurd (not_first (inl lt))
        | inr le ↦ elim (cases_lt c.file b.file) [ inl lt ↦ absurd (not_second (inl lt)) | inr ge ↦ omega arith ]
      ] in
      let block : b.block ≡ c.block = elim (cases_lt b.block c.block) [
        | inl lt ↦ absurd (not_first (inr (file, lt)))
        | inr le ↦ elim (cases_lt c.block b.block) [ inl lt ↦ absurd (not_second (inr (sym file, lt))) | inr ge ↦ omega arith ]
      ] in
      ap (λ n. record b { file = n }) file ∙ ap (λ n. record c { block = n }) block

  plan_one : {k leaf a b : _} → IsPlan k leaf a → IsPlan k leaf b → a ≡ b
  plan_one {k} {leaf} x y =
      let anchor = anchor_one x.nearest y.nearest in
      x.key_is ∙ ap (planned_key k leaf) anchor ∙ sym y.key_is

  pub hash_one : {s t p q f g a b : _} → Alike s t → AlikePeers p q → RequestsHashes dig s p f a → RequestsHashes dig t q g b → (f ≡ g) × AlikePeers a b
  hash_one {t} {q} same peers (requests c k x idle least has_tree plan sent new) (requests d l y idle2 least2 hung2 plan2 sent2 new2) =
      let block : c ≡ d = least_one same peers least least2 in
      let there : tree_of t c.file ≡ Some k = ap (λ (z : EngineState). tree_of z c.file) (sym same) ∙ has_tree in
      let tree : k ≡ l = cc in
      let key : x ≡ y = plan_one (rw (← block) (rw (← tree) plan)) plan2 in (
        sent ∙ ap (λ (z : PeerState). sent_to z (HashRequest x) ∷ []) peers ∙ ap (λ h. sent_to q (HashRequest h) ∷ []) key ∙ sym sent2,
        ap asked_nothing new ∙ ap (λ (z : PeerState). record z { hash = Asked x }) peers ∙ ap (λ h. record (asked_nothing q) { hash = Asked h }) key ∙ sym (ap asked_nothing new2),
      )
  hash_one same peers (requests c k x idle least has_tree plan sent new) (rests none sent2 new2) =
      absurd (none (ap (λ (z : PeerState). z.hash) (sym peers) ∙ idle) c (needs_in same peers least.needs))
  hash_one same peers (rests none sent new) (requests d l y idle2 least2 hung2 plan2 sent2 new2) =
      absurd (none (ap (λ (z : PeerState). z.hash) peers ∙ idle2) d (needs_in (sym same) (sym peers) least2.needs))
  hash_one same peers (rests none sent new) (rests none2 sent2 new2) = (sent ∙ sym sent2, ap asked_nothing new ∙ peers ∙ sym (ap asked_nothing new2))

-- ---- requests of blocks

no_others : (s p blocks sent : _) → RequestsEach s p blocks sent → other_frames sent ≡ []
no_others s p [] sent r = cc
no_others s p (b ∷ blocks) sent r = ap other_frames r.4 ∙ ap (λ x. other_frames (x ∷ r.1)) r.2.is ∙ no_others s p blocks r.1 r.3

map_slice_set : {X Y : Type 0} (f : X → Y) (xs : List X) (i : ℕ) (x : X) → map f (slice_set xs i x) ≡ slice_set (map f xs) i (f x)
map_slice_set f [] i x = refl
map_slice_set f (y ∷ xs) zero x = refl
map_slice_set f (y ∷ xs) (suc i) x = ap (λ ys. f y ∷ ys) (map_slice_set f xs i x)

map_get : {X Y : Type 0} (f : X → Y) (xs : List X) (i : ℕ) {x : X} → slice_get xs i ≡ Some x → slice_get (map f xs) i ≡ Some (f x)
map_get f [] i e = absurd cc
map_get f (y ∷ xs) zero e = cc
map_get f (y ∷ xs) (suc i) e = map_get f xs i e

pub other_append : (xs ys : _) → other_frames (xs ++ ys) ≡ other_frames xs ++ other_frames ys
other_append xs ys = filter-append (λ x. not (is_block_request x.1)) xs ys

-- ---- all three

module _ (dig : Digest) where
  pub follows_one : {s t i f g a b : _} → Alike s t → FollowsUp dig s i f a → FollowsUp dig t i g b → (other_frames f ≡ other_frames g) × Alike a b
  follows_one {s} {t} {i} same x y =
      let peer : AlikePeers x.peer y.peer = same_some
      (ap (λ (z : EngineState). slice_get z.peers i) (sym same) ∙ map_get asked_nothing s.peers i x.here) (map_get asked_nothing t.peers i y.here) in
      let interest = interest_one same peer x.interest y.interest in
      let hash = hash_one dig same interest.1 x.hashes y.hashes in (
        ap other_frames x.all ∙ other_append (x.interest_frames ++ x.hash_frames) x.block_frames ∙ ap (λ zs. other_frames (x.interest_frames ++ x.hash_frames) ++ zs) (no_others s x.planned x.blocks x.block_frames x.requests)
            ∙ ap (λ zs. other_frames (zs ++ x.hash_frames) ++ []) interest.0 ∙ ap (λ zs. other_frames (y.interest_frames ++ zs) ++ []) hash.0
            ∙ ap (λ zs. other_frames (y.interest_frames ++ y.hash_frames) ++ zs) (sym (no_others t y.planned y.blocks y.block_frames y.requests)) ∙ sym (other_append (y.interest_frames ++ y.hash_frames) y.block_frames)
            ∙ sym (ap other_frames y.all),
        plain s x.planned x.blocks x.after ∙ ap (λ p. record (without_asked s) { peers = slice_set (map asked_nothing s.peers) i p }) hash.1
            ∙ ap (λ (z : EngineState). record z { peers = slice_set z.peers i (asked_nothing y.planned) }) same ∙ sym (plain t y.planned y.blocks y.after),
      )
    where
      plain : (r : EngineState) {m : _} (p : PeerState) (blocks : List BlockId)
          → m ≡ record r { peers = slice_set r.peers i (record p { asked = p.asked ++ blocks }) }
          → without_asked m ≡ record (without_asked r) { peers = slice_set (map asked_nothing r.peers) i (asked_nothing p) }
      plain r p blocks e =
          ap without_asked e ∙ ap (λ ps. record r { peers = ps }) (map_slice_set asked_nothing r.peers i (record p { asked = p.asked ++ blocks }))

  pub each_one : (peers s t f g a b : _) → Alike s t → FollowsEach dig peers s f a → FollowsEach dig peers t g b → (other_frames f ≡ other_frames g) × Alike a b
  each_one [] s t f g a b same x y = (ap other_frames (x.0 ∙ sym y.0), ap without_asked x.1 ∙ same ∙ sym (ap without_asked y.1))
  each_one (i ∷ peers) s t f g a b same x y =
      let one = follows_one same x.3 y.3 in
      let more = each_one peers x.0 y.0 x.2 y.2 a b one.1 x.4 y.4 in (
        ap other_frames x.5 ∙ other_append x.1 x.2 ∙ ap (λ zs. zs ++ other_frames x.2) one.0 ∙ ap (λ zs. other_frames y.1 ++ zs) more.0 ∙ sym (other_append y.1 y.2) ∙ sym (ap other_frames y.5),
        more.1,
      )
