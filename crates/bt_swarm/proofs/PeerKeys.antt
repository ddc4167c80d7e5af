-- The keys that an engine gives out, and whose they are: no event of a swarm takes one back, and nobody comes but by a
-- connect.
use Rattle.bt_machine.proofs.Base.{[], ◌≡◌, ◌≢◌, ℕ, zero, suc, ◌+◌, ◌<◌, ◌≤◌, inl, inr, List, ◌∷◌, ◌++◌, map, take, drop, Some, Option, Result, refl, sym, ap, ◌∙◌, subst, arith, slice_get, slice_set, Contains, PeerKey}
use Rattle.bt_machine.proofs.Machine.{Digest, PeerState, EngineState, DeviceCalls, Effect, with_peer, RequestsHashes, requests, rests, FollowsUp, without_peer, TakesEvent, StepNext, no_peer, waits, keeps_peer, closes, faulty, no_memory, new_peer, StepConnect, joins, full, spent, no_room, StepFeed, feeds, not_fed, no_room as no_room_to_feed, StepLost, goes, not_fed as not_lost, rechoked, rechoked_peer, FollowsEach, StepRechoke, rechokes, not_rechoked, StepFlush, syncs, writes, fails, unwritten, unflushed}
use Rattle.bt_machine.proofs.Lists.{set_same, same_some, contains_map, contains_cases, get_map}
use Rattle.bt_machine.proofs.Pairs.{Pairs, to_pairs, contains_some, contains_set, contains_without, some_at}
use Rattle.bt_machine.proofs.PeerChanges.{KeyBefore, PeerChange, with_left, event_change}
use Rattle.std.proofs.lemmas.List.Elements.{Contains-append_cases, Contains-push_cases}
use Rattle.std.specs.declared.alloc.AllocError.{AllocError}
use Rattle.bt_machine.specs.declared.error.ConnectError.{ConnectError}
use Rattle.bt_machine.specs.declared.error.EngineError.{EngineError}
use Rattle.bt_machine.specs.declared.error.FlushError.{FlushError}
use Rattle.bt_machine.specs.declared.event.Answer.TheVariants.{Connected}
use Rattle.bt_machine.specs.LogCalls.{EventCalls}
use Rattle.bt_machine.specs.Orderly.{IsOrderly}
use Rattle.bt_machine.specs.Output.{Output}
use Rattle.bt_machine.specs.Report.{all_complete}
use Rattle.bt_swarm.specs.Steps.{AreFrom, GivesKey}

-- no key is taken back, and nobody comes
abbrev KeepsKeys : EngineState → EngineState → Type 0
KeepsKeys s new = (s.next_key ≤ new.next_key) × AreFrom s new.peers

-- ---- peers that are replaced, or go

from_trans : (a b c : EngineState) → AreFrom a b.peers → AreFrom b c.peers → AreFrom a c.peers
from_trans a b c p q r among =
    let next = q r among in
    let first = p next.0 next.1 in
    (first.0, first.1, first.2 ∙ next.2)

same_from : (s new : EngineState) → new.peers ≡ s.peers → AreFrom s new.peers
same_from s new same p among = (p, subst (λ (l : List PeerState). Contains l p) same among, refl)

same_keys : (s new : EngineState) → new ≡ s → KeepsKeys s new
same_keys s new e = (let same = ap (λ (t : EngineState). t.next_key) e in omega arith, same_from s new (ap (λ (t : EngineState). t.peers) e))

set_from : (s : EngineState) (i : ℕ) (p q : PeerState) → slice_get s.peers i ≡ Some p → q.key ≡ p.key → AreFrom s (slice_set s.peers i q)
set_from s i p q at key r among = elim (contains_set s.peers i among) [
  | inl is ↦ (p, contains_some s.peers i at, sym key ∙ ap (λ (o : PeerState). o.key) (sym is))
  | inr other ↦ (r, contains_some s.peers other.0 other.2, refl)
]

without_from : (s : EngineState) (i : ℕ) → AreFrom s (without_peer i s).peers
without_from s i p among = (p, contains_without s.peers i among, refl)

change_from : (s m : EngineState) (i : ℕ) (p : PeerState) → slice_get s.peers i ≡ Some p → PeerChange s i p m → AreFrom s m.peers
change_from s m i p at c r among =
    elim (contains_set (map (with_left c.left) s.peers) i (subst (λ (l : List PeerState). Contains l r) c.peers among)) [
      | inl is ↦ (p, contains_some s.peers i at, sym c.key ∙ ap (λ (o : PeerState). o.key) (sym is))
      | inr other ↦
          let o = get_map (with_left c.left) s.peers other.0 other.2 in
          (o.0, contains_some s.peers other.0 o.1, ap (λ (q : PeerState). q.key) o.2)
    ]

-- ---- what follows

module _ (dig : Digest) where
  planned_key : (s : EngineState) (old : PeerState) (sent : _) (new : PeerState) → RequestsHashes dig s old sent new → new.key ≡ old.key
  planned_key s old sent new (requests b k key x y z w v e) = ap (λ (q : PeerState). q.key) e
  planned_key s old sent new (rests x y e) = ap (λ (q : PeerState). q.key) e

  follow_keys : (s : EngineState) (i : ℕ) (sent : _) (new : EngineState) → FollowsUp dig s i sent new → KeepsKeys s new
  follow_keys s i sent new f =
      let q : PeerState = record f.planned { asked = f.planned.asked ++ f.blocks } in
      let key : q.key ≡ f.peer.key = planned_key s f.interested f.hash_frames f.planned f.hashes ∙ ap (λ (o : PeerState). o.key) f.interest.others in
      let next = ap (λ (t : EngineState). t.next_key) f.after in
      (omega arith, subst (λ (l : List PeerState). AreFrom s l) (sym (ap (λ (t : EngineState). t.peers) f.after)) (set_from s i f.peer q f.here key))

  -- an event that is taken and handled
  taken_keys : (s handled : EngineState) (i : ℕ) (p : PeerState) (calls : DeviceCalls) (effect : Effect) → IsOrderly s
      → slice_get s.peers i ≡ Some p → TakesEvent dig s i p calls effect handled → KeepsKeys s handled
  taken_keys s handled i p calls effect o at t =
      let taken : PeerState = record p { stream = t.rest } in
      let mid : EngineState = with_peer s i taken in
      let c : PeerChange mid i taken handled = event_change dig t.event calls effect (set_same s.peers i at) (o.each p (contains_some s.peers i at)).pieces t.handles in
      let next = c.next in
      (omega (arith, next), from_trans s mid handled (set_from s i p taken at refl) (change_from mid handled i taken (set_same s.peers i at) c))

  pub next_keys : (s new : EngineState) (key : PeerKey) (calls : DeviceCalls) (r : Result (Option Output) EngineError) → IsOrderly s
      → StepNext dig s key calls r new → KeepsKeys s new
  next_keys s new key calls r o (no_peer nobody made v e) = same_keys s new e
  next_keys s new key calls r o (waits i p peer wait made v e) = same_keys s new e
  next_keys s new key calls r o (keeps_peer i p out peer g v) =
      let handled = taken_keys s g.handled i p calls g.effect o peer.here g.takes in
      let after = follow_keys _ i g.sent new g.follows in
      (omega (arith, handled.0, after.0), from_trans s g.handled new handled.1 after.1)
  next_keys s new key calls r o (closes i p out peer g v) =
      let handled = taken_keys s g.handled i p calls g.effect o peer.here g.takes in
      let next = ap (λ (t : EngineState). t.next_key) g.after in (
        omega (arith, handled.0, next),
        from_trans s g.handled new handled.1
            (subst (λ (l : List PeerState). AreFrom g.handled l) (sym (ap (λ (t : EngineState). t.peers) g.after)) (without_from g.handled i)),
      )
  next_keys s new key calls r o (faulty i p out peer g v) =
      let next = ap (λ (t : EngineState). t.next_key) g.after in
      (omega (arith, next), subst (λ (l : List PeerState). AreFrom s l) (sym (ap (λ (t : EngineState). t.peers) g.after)) (without_from s i))
  next_keys s new key calls r o (no_memory i p peer g v) =
      let next = ap (λ (t : EngineState). t.next_key) g.after in
      (omega (arith, next), subst (λ (l : List PeerState). AreFrom s l) (sym (ap (λ (t : EngineState). t.peers) g.after)) (without_from s i))

  each_keys : (places : List ℕ) (s : EngineState) (sent : _) (new : EngineState) → FollowsEach dig places s sent new → KeepsKeys s new
  each_keys [] s sent new f = same_keys s new f.1
  each_keys (i ∷ places) s sent new f =
      let one = follow_keys s i f.1 f.0 f.3 in
      let rest = each_keys places f.0 f.2 new f.4 in
      (omega (arith, one.0, rest.0), from_trans s f.0 new one.1 rest.1)

  pub rechoke_keys : (s new : EngineState) (r : Result Output AllocError) → StepRechoke dig s r new → KeepsKeys s new
  rechoke_keys s new r (rechokes out c v) =
      let rest = each_keys _ (rechoked s) c.sent new c.follows in
      (omega (arith, rest.0), from_trans s (rechoked s) new chosen rest.1)
    where
      chosen : AreFrom s (rechoked s).peers
      chosen p among =
          let o = contains_map (rechoked_peer s) s.peers among in
          (o.0, o.1, ap (λ (q : PeerState). q.key) o.2)
  rechoke_keys s new r (not_rechoked v e) = same_keys s new e

-- ---- the other events

only_one : {A : Type 0} (a b : A) → Contains (a ∷ []) b → a ≡ b
only_one a b h = elim (Contains-push_cases [] a b h) [ inl before ↦ absurd (let lt = before.1 in omega arith) | inr is ↦ is ]

pub connect_keys : (s new : EngineState) (r : Result (PeerKey × Output) ConnectError) → StepConnect s r new → GivesKey s (Connected r) new
connect_keys s new r (joins key bytes few below is field v e) =
    subst (λ (q : Result (PeerKey × Output) ConnectError). GivesKey s (Connected q) new) (sym v) (
      is,
      ap (λ (t : EngineState). t.next_key) e,
      λ p among. elim (Contains-append_cases s.peers (new_peer s key ∷ []) p (subst (λ (l : List PeerState). Contains l p) (ap (λ (t : EngineState). t.peers) e) among)) [
        | inl old ↦ inl (p, old, refl)
        | inr own ↦ inr (ap (λ (o : PeerState). o.key) (sym (only_one (new_peer s key) p own)))
      ],
    )
connect_keys s new r (full few v e) = subst (λ (q : Result (PeerKey × Output) ConnectError). GivesKey s (Connected q) new) (sym v) (same_keys s new e)
connect_keys s new r (spent few most v e) = subst (λ (q : Result (PeerKey × Output) ConnectError). GivesKey s (Connected q) new) (sym v) (same_keys s new e)
connect_keys s new r (no_room few below v e) = subst (λ (q : Result (PeerKey × Output) ConnectError). GivesKey s (Connected q) new) (sym v) (same_keys s new e)

pub feed_keys : (s new : EngineState) (key : PeerKey) (bytes : List ℕ) (r : Result (Unit {0}) EngineError) → StepFeed s key bytes r new → KeepsKeys s new
feed_keys s new key bytes r (feeds i p peer v e) =
    let next = ap (λ (t : EngineState). t.next_key) e in
    (omega (arith, next), subst (λ (l : List PeerState). AreFrom s l) (sym (ap (λ (t : EngineState). t.peers) e)) (set_from s i p _ peer.here refl))
feed_keys s new key bytes r (not_fed nobody v e) = same_keys s new e
feed_keys s new key bytes r (no_room_to_feed i p peer v e) = same_keys s new e

pub flush_keys : (s new : EngineState) (calls : EventCalls) (r : Result (Unit {0}) FlushError) → StepFlush s calls r new → KeepsKeys s new × (all_complete new ≡ all_complete s)
flush_keys s new calls r (syncs x y v e) = (same_keys s new e, ap all_complete e)
flush_keys s new calls r (writes x y v e) =
    let next = ap (λ (t : EngineState). t.next_key) e in
    ((omega (arith, next), same_from s new (ap (λ (t : EngineState). t.peers) e)), ap all_complete e)
flush_keys s new calls r (fails before file after x y v e) = (same_keys s new e, ap all_complete e)
flush_keys s new calls r (unwritten before hint after cause x y z v e) = (same_keys s new e, ap all_complete e)
flush_keys s new calls r (unflushed x y v e) = (same_keys s new e, ap all_complete e)

-- the one that was taken out has another key than all others
apart_without : (xs : List PeerState) (i : ℕ) (p q : PeerState) → Pairs KeyBefore xs → slice_get xs i ≡ Some p → Contains (take i xs ++ drop (i + 1) xs) q
    → q.key.0 ≢ p.key.0
apart_without [] i p q pairs at among same = absurd cc
apart_without (x ∷ xs) zero p q pairs at among same =
    let is : x ≡ p = same_some refl at in
    let lt : x.key.0 < q.key.0 = pairs.0 q among in
    let one : x.key.0 ≡ p.key.0 = ap (λ (o : PeerState). o.key.0) is in
    omega (arith, lt, one, same)
apart_without (x ∷ xs) (suc i) p q pairs at among same =
    let next : suc i + 1 ≡ suc (i + 1) = omega arith in
    let there : Contains (x ∷ (take i xs ++ drop (i + 1) xs)) q = subst (λ (n : ℕ). Contains (take (suc i) (x ∷ xs) ++ drop n (x ∷ xs)) q) next among in
    elim (contains_cases _ there) [
      | inl is ↦
          let lt : x.key.0 < p.key.0 = pairs.0 p (contains_some xs i at) in
          let one : x.key.0 ≡ q.key.0 = ap (λ (o : PeerState). o.key.0) is in
          omega (arith, lt, one, same)
      | inr more ↦ apart_without xs i p q pairs.1 at more same
    ]

pub lost_keys : (s new : EngineState) (key : PeerKey) (r : Result (Unit {0}) EngineError) → StepLost s key r new → KeepsKeys s new × (all_complete new ≡ all_complete s)
lost_keys s new key r (goes i p peer v e) =
    let next = ap (λ (t : EngineState). t.next_key) e in
    ((omega (arith, next), subst (λ (l : List PeerState). AreFrom s l) (sym (ap (λ (t : EngineState). t.peers) e)) (without_from s i)), ap all_complete e)
lost_keys s new key r (not_lost nobody v e) = (same_keys s new e, ap all_complete e)

-- no peer of this key is left
pub lost_away : (s new : EngineState) (key : PeerKey) (r : Result (Unit {0}) EngineError) → IsOrderly s → StepLost s key r new
    → (q : PeerState) → Contains new.peers q → q.key ≢ key
lost_away s new key r o (goes i p peer v e) q among is =
    apart_without s.peers i p q (to_pairs KeyBefore s.peers o.in_order) peer.here (subst (λ (l : List PeerState). Contains l q) (ap (λ (t : EngineState). t.peers) e) among)
    (ap (λ (k : PeerKey). k.0) (is ∙ sym peer.same_key))
lost_away s new key r o (not_lost nobody v e) q among is =
    let at = some_at s.peers (subst (λ (l : List PeerState). Contains l q) (ap (λ (t : EngineState). t.peers) e) among) in
    nobody at.0 q (record { here = at.1; same_key = is })
