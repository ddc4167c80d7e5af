-- What a message must lead to: the event that stands first is the one that is taken.
use Rattle.bt_machine_checks.proofs.Base.{[], ◌≡◌, ℕ, ◌⊎◌, inl, inr, List, ◌++◌, Some, Ok, ap, ◌∙◌, Contains, Contains-append_left, PeerKey, HashKey, Stream, Takes, Waits, WireEvent, Message, HashRequest, same_event, fault_alone}
use Rattle.bt_machine_checks.proofs.Machine.{Digest, Next, PeerState, EngineState, DeviceCalls, EventCalls, with_peer, Output, Effect, haves, IsAnswered, HandlesHashRequest, answered, rejected, Handles, IsPeer, KeepsPeer, Closes, ShowsFault, StepNext, no_peer, waits, keeps_peer, closes, faulty, no_memory, Answer, Stepped, Step, sent_by, IsOnlyPeer, AnswersHashes, unknown, NextAnswersHashRequest}
use Rattle.bt_machine_checks.specs.AnswerDue.{NextLacksMemory, known}
use Rattle.bt_machine.proofs.Lists.{here}

-- ---- a stream determines its event

pub record SameTaking (e f : WireEvent) (r s : Stream) : Type 0 where
  pub event_is : e ≡ f
  pub rest_is : r ≡ s

same_stream : {r s : Stream} → r.unread ≡ s.unread → r.greeted ≡ s.greeted → r.failed ≡ s.failed → r ≡ s
same_stream {r} {s} u g f = ap (λ x. record r { unread = x }) u ∙ ap (λ x. record s { greeted = x; failed = r.failed }) g ∙ ap (λ x. record s { failed = x }) f

pub same_taking : {old r s e f : _} → Takes old e r → Takes old f s → SameTaking e f r s
same_taking {old} {r} {s} {e} {f} t u =
    let same = same_event old.greeted e f t.bytes u.bytes r.unread s.unread t.event u.event (cc) in
    record { event_is = same.event_is; rest_is = same_stream same.rest_is (cc) (cc) }

-- ---- what the step does with it

abbrev pub HandlesAt : (List ℕ → List ℕ) → EngineState → ℕ → PeerState → Stream → WireEvent → DeviceCalls → Effect → EngineState → Type 0
HandlesAt dig s i p rest e calls effect mid = Handles dig (with_peer s i (record p { stream = rest })) i (record p { stream = rest }) e calls effect mid

pub data Taken (dig : Digest) (s : EngineState) (i : ℕ) (p : PeerState) (e : WireEvent) (rest : Stream) (calls : DeviceCalls) (answer : Answer) (new : EngineState) : Type 0 where
  no_room : NextLacksMemory answer → Taken dig s i p e rest calls answer new
  goes : (out : Output) (g : KeepsPeer dig s i p calls out new) → HandlesAt dig s i p rest e calls g.effect g.handled → answer ≡ Stepped (Ok (Some out)) → Taken dig s i p e rest calls answer new
  shuts : (out : Output) (g : Closes dig s i p calls out new) → HandlesAt dig s i p rest e calls g.effect g.handled → answer ≡ Stepped (Ok (Some out)) → Taken dig s i p e rest calls answer new

module _ (dig : Digest) {s : EngineState} (new : EngineState) {key : PeerKey} {i : ℕ} {p : PeerState} (calls : DeviceCalls) {e : WireEvent} {rest : Stream} (one : IsOnlyPeer s key i p) (takes : Takes p.stream e rest) where
  handled_as : {f r : _} (effect mid : _) → Takes p.stream f r → HandlesAt dig s i p r f calls effect mid → HandlesAt dig s i p rest e calls effect mid
  handled_as {r} effect mid took handles =
      let same = same_taking took takes in
      rw (← same.rest_is) (rw (← same.event_is) handles)

  by_peer : (P : ℕ → PeerState → Type 0) {j q : _} → IsPeer s key j q → P j q → P i p
  by_peer P {j} {q} is holds =
      let place = one.only j q is in
      let same : q ≡ p = cc in
      rw (← same) (rw (← place) holds)

  next_taken : {r : _} → StepNext dig s key calls r new → Taken dig s i p e rest calls (Stepped r) new
  next_taken (no_peer none x y z) = absurd (none i p one.is_peer)
  next_taken (waits j q is w x y z) = absurd ((by_peer (λ n x. Waits x.stream) is w).no_event e takes.bytes rest.unread takes.event takes.front)
  next_taken (keeps_peer j q out is g y) =
      let h = by_peer (λ n x. KeepsPeer dig s n x calls out new) is g in
      goes out h (handled_as _ h.handled h.takes.takes h.takes.handles) (cc)
  next_taken (closes j q out is g y) =
      let h = by_peer (λ n x. Closes dig s n x calls out new) is g in
      shuts out h (handled_as _ h.handled h.takes.takes h.takes.handles) (cc)
  next_taken (faulty j q out is g y) =
      let h = by_peer (λ n x. ShowsFault s n x calls out new) is g in
      absurd (fault_alone p.stream.greeted p.stream.unread h.fault h.fails.shown e takes.bytes rest.unread takes.event takes.front)
  next_taken (no_memory j q is g y) = no_room (cc)

pub step_taken : (dig : Digest) {s : EngineState} (new : EngineState) {key : PeerKey} {i : ℕ} {p : PeerState} (calls : EventCalls) {e : WireEvent} {rest : Stream}
    → IsOnlyPeer s key i p → Takes p.stream e rest → {a : Answer} → Step dig s (Next key) calls a new → Taken dig s i p e rest calls.devices a new
step_taken dig new calls one takes t = rw t.1 (next_taken dig new calls.devices one takes t.3)

-- what the event itself sends is sent
pub sent_with : {dig s new i p calls out a : _} (g : KeepsPeer dig s i p calls out new) → a ≡ Stepped (Ok (Some out))
    → {x : _} → Contains g.effect.send x → Contains (sent_by a) x
sent_with {s} g is {x} c =
    rw is (rw g.send (Contains-append_left (g.effect.send ++ haves s g.handled) g.sent x (Contains-append_left g.effect.send (haves s g.handled) x c)))

-- ---- hash requests

module _ (dig : Digest) {s : EngineState} (new : EngineState) {key : PeerKey} {i : ℕ} {p : PeerState} (calls : DeviceCalls) (asked : HashKey) (rest : Stream) (one : IsOnlyPeer s key i p) (a : Answer) where
  same_answers : {digests : _} → IsAnswered dig (with_peer s i (record p { stream = rest })) asked digests → IsAnswered dig s asked digests
  same_answers k = record { tree = k.tree; facts = k.facts; here = record { here = k.here.here; same_root = k.here.same_root }; request = k.request; answer = k.answer }

  same_unknown : {digests : _} → IsAnswered dig s asked digests → IsAnswered dig (with_peer s i (record p { stream = rest })) asked digests
  same_unknown k = record { tree = k.tree; facts = k.facts; here = record { here = k.here.here; same_root = k.here.same_root }; request = k.request; answer = k.answer }

  by_hashes : {out : _} (g : KeepsPeer dig s i p calls out new) → a ≡ Stepped (Ok (Some out))
      → HandlesHashRequest dig (with_peer s i (record p { stream = rest })) (record p { stream = rest }) asked g.effect
      → AnswersHashes dig s a key asked
  by_hashes g is (answered digests k e) = known digests (same_answers k) (sent_with g is
      (rw (ap (λ x. x.send) e) (here [] (cc))))
  by_hashes g is (rejected none e) = unknown (λ digests k. none digests (same_unknown k)) (sent_with g is
      (rw (ap (λ x. x.send) e) (here [] (cc))))

  -- such an event closes nobody
  not_shut : {X : Type 0} {out : _} (g : Closes dig s i p calls out new)
      → HandlesHashRequest dig (with_peer s i (record p { stream = rest })) (record p { stream = rest }) asked g.effect → X
  not_shut g (answered digests k e) = absurd cc
  not_shut g (rejected none e) = absurd cc

  hashes_answered : Taken dig s i p (Message (HashRequest asked)) rest calls a new → NextLacksMemory a ⊎ AnswersHashes dig s a key asked
  hashes_answered (no_room e) = inl e
  hashes_answered (goes out g h is) = inr (by_hashes g is h.1)
  hashes_answered (shuts out g h is) = not_shut g h.1

pub next_answers : (dig : Digest) → NextAnswersHashRequest dig
next_answers dig s new key i p calls a asked rest one takes t = hashes_answered dig new calls.devices asked rest one a (step_taken dig new calls one takes t)
