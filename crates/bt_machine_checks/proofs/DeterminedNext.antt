-- What is left to an engine where the next wire event of a peer is taken.
use Rattle.bt_machine_checks.proofs.Base.{[], ◌≡◌, ◌≢◌, ℕ, List, ◌++◌, map, Option, Some, None, refl, sym, ap, ◌∙◌, subst, Result, Ok, Err, slice_get, AllPairs, Facts, PeerKey, Takes}
use Rattle.bt_machine_checks.proofs.Machine.{Digest, Wire, Complete, EngineError, PeerState, EngineState, DeviceCalls, with_peer, new_complete_files, Sent, Output, Effect, haves, Handles, FollowsUp, IsPeer, without_peer, with_pending, TakesEvent, KeepsPeer, Closes, ShowsFault, StepNext, no_peer, waits, keeps_peer, closes, faulty, no_memory, IsOrderly, Answer, Stepped, other_frames, plain_answer, without_asked}
use Rattle.bt_machine.specs.declared.error.EngineError.TheVariants.{OutOfMemory}
use Rattle.bt_machine.proofs.Lists.{set_same}
use Rattle.bt_machine.proofs.Places.{RangesTell}
use Rattle.bt_machine_checks.proofs.AnswerParts.{event_leaves}
use Rattle.bt_machine_checks.proofs.DeterminedParts.{takes_one, takes_waits, takes_fails, waits_fails, fails_one, peer_one}
use Rattle.bt_machine_checks.proofs.DeterminedEvents.{event_one}
use Rattle.bt_machine_checks.proofs.DeterminedFollow.{other_append, follows_one}
use Rattle.bt_machine_checks.proofs.DeterminedAsks.{AreOne, are_equal, asks_to, asks_behind, follows_same}

out_is : {a b : Output} → a.send ≡ b.send → a.close ≡ b.close → a.notes ≡ b.notes → a ≡ b
out_is {a} {b} e f g =
    ap (λ l. record a { send = l }) e ∙ ap (λ c. record { send = b.send; close = c; notes = a.notes }) f
    ∙ ap (λ n. record { send = b.send; close = b.close; notes = n }) g

module _ (dig : Digest) where
  module _ {s : EngineState} (key : PeerKey) (calls : DeviceCalls) (tell : RangesTell s.torrent) (roots : AllPairs (λ (j k : Facts). j.root ≢ k.root) s.trees) (o : IsOrderly s) where
    taken_one : {i p e f m n : _} → TakesEvent dig s i p calls e m → TakesEvent dig s i p calls f n → (e ≡ f) × (m ≡ n)
    taken_one {i} {p} {f} {n} x y =
        let same = takes_one x.takes y.takes in
        let handles : Handles dig (with_peer s i (record p { stream = x.rest })) i (record p { stream = x.rest }) x.event calls f n
        = rw same.1 (rw same.0 y.handles) in
        event_one dig (with_peer s i (record p { stream = x.rest })) tell roots i (record p { stream = x.rest }) x.event calls x.handles handles

    move_on : {i j p q out new : _} → (i ≡ j) × (p ≡ q) → KeepsPeer dig s i p calls out new → KeepsPeer dig s j q calls out new
    move_on {j} {p} {out} {new} same g = rw (← same.1) (rw (← same.0) g)

    move_close : {i j p q out new : _} → (i ≡ j) × (p ≡ q) → Closes dig s i p calls out new → Closes dig s j q calls out new
    move_close {j} {p} {out} {new} same g = rw (← same.1) (rw (← same.0) g)

    move_fault : {i j p q out new : _} → (i ≡ j) × (p ≡ q) → ShowsFault s i p calls out new → ShowsFault s j q calls out new
    move_fault {j} {p} {out} {new} same g = rw (← same.1) (rw (← same.0) g)

    close_one : {i p out other new old : _} → Closes dig s i p calls out new → Closes dig s i p calls other old → (out ≡ other) × (new ≡ old)
    close_one {i} x y =
        let same = taken_one x.takes y.takes in
        let why : Some x.why ≡ Some y.why = cc in (
          x.is ∙ ap (λ w. record { send = []; close = w; notes = x.effect.notes }) why ∙ ap (λ e. record { send = []; close = Some y.why; notes = e.notes }) same.0 ∙ sym y.is,
          x.after ∙ ap (without_peer i) same.1 ∙ sym y.after,
        )

    fault_one : {i p out other new old : _} → ShowsFault s i p calls out new → ShowsFault s i p calls other old → (out ≡ other) × (new ≡ old)
    fault_one x y =
        (x.is ∙ ap (λ f. record { send = []; close = Some (Wire f); notes = [] }) (fails_one x.fails y.fails) ∙ sym y.is, x.after ∙ sym y.after)

    -- an event stands there that keeps its peer, and it is taken
    pub record GoesWith (i : ℕ) (effect : Effect) (mid : EngineState) (another : Result (Option Output) EngineError) (other : EngineState) : Type 0 where
      pub sent : List Sent
      pub follows : FollowsUp dig (with_pending s mid effect.proofs) i sent other
      pub is : another ≡ Ok (Some (record { send = effect.send ++ haves s mid ++ sent; close = None; notes = effect.notes ++ map (λ file. Complete file) (new_complete_files s mid) }))

    pub next_goes : {i p effect mid another other : _} → IsPeer s key i p → TakesEvent dig s i p calls effect mid → effect.close ≡ None
        → StepNext dig s key calls another other → another ≢ Err OutOfMemory → GoesWith i effect mid another other
    next_goes {i} {p} is takes stays (no_peer h c a e) room = absurd (h i p is)
    next_goes is takes stays (waits j q q_is w c a e) room = absurd (takes_waits takes.takes (rw (← (peer_one o q_is is).1) w))
    next_goes {i} {effect} {other} is takes stays (keeps_peer j q out q_is g a) room =
        let h = move_on (peer_one o q_is is) g in
        let same = taken_one takes h.takes in
        record {
          sent = h.sent;
          follows = rw same.1 (rw same.0 h.follows);
          is = a ∙ ap (λ z. Ok (Some z)) (out_is
              (cc) h.close
              (cc));
        }
    next_goes is takes stays (closes j q out q_is g a) room =
        let h = move_close (peer_one o q_is is) g in
        let same = taken_one takes h.takes in
        absurd cc
    next_goes is takes stays (faulty j q out q_is g a) room =
        let h = move_fault (peer_one o q_is is) g in
        absurd (takes_fails takes.takes h.fails)
    next_goes is takes stays (no_memory j q q_is g a) room = absurd (room a)

    -- two that go on from it
    module _ {i : ℕ} {p : PeerState} {effect : Effect} {mid : EngineState} (there : slice_get s.peers i ≡ Some p) (takes : TakesEvent dig s i p calls effect mid)
        {a b : Result (Option Output) EngineError} {m n : EngineState} (x : GoesWith i effect mid a m) (y : GoesWith i effect mid b n) where
      abbrev first : List Sent
      first = effect.send ++ haves s mid

      abbrev state : EngineState
      state = with_pending s mid effect.proofs

      abbrev output : List Sent → Answer
      output sent = Stepped (Ok (Some (record { send = sent; close = None; notes = effect.notes ++ map (λ file. Complete file) (new_complete_files s mid) })))

      tells : RangesTell state.torrent
      tells =
          let peer = record p { stream = takes.rest } in
          let left = event_leaves dig (with_peer s i peer) i (set_same s.peers i there) takes.event calls takes.handles in
          rw left.torrent tell

      rest : (other_frames x.sent ≡ other_frames y.sent) × (without_asked m ≡ without_asked n)
      rest = follows_one dig refl x.follows y.follows

      on_one : AreOne (Stepped a) m (Stepped b) n
      on_one = record {
        plain = ap (λ r. plain_answer (Stepped r)) x.is ∙ ap output (other_append first x.sent ∙ ap (λ zs. other_frames first ++ zs) rest.0 ∙ sym (other_append first y.sent)) ∙ sym (cc);
        rest = rest.1;
        whole = λ same. (
            let asks = asks_to (cc) (cc) same in
            let both = follows_same dig tells x.follows y.follows (asks_behind first (cc) asks) in
            (ap Stepped x.is ∙ ap (λ zs. output (first ++ zs)) both.0 ∙ sym (ap Stepped y.is), both.1)
            );
      }

    pub next_one : {answer another new other : _} → StepNext dig s key calls answer new → StepNext dig s key calls another other
        → answer ≢ Err OutOfMemory → another ≢ Err OutOfMemory → AreOne (Stepped answer) new (Stepped another) other
    next_one (no_memory i p is g a) y memory room = absurd (memory a)
    next_one x (no_memory i p is g a) memory room = absurd (room a)
    next_one (keeps_peer i p out is g a) y memory room =
        on_one is.here g.takes
        (next_goes is g.takes g.stays (keeps_peer i p out is g a) memory) (next_goes is g.takes g.stays y room)
    next_one x (keeps_peer i p out is g a) memory room =
        on_one is.here g.takes
        (next_goes is g.takes g.stays x memory) (next_goes is g.takes g.stays (keeps_peer i p out is g a) room)
    next_one (no_peer xh xc xa xe) (no_peer yh yc ya ye) memory room = are_equal (ap Stepped (cc)) (cc)
    next_one (no_peer xh xc xa xe) (waits yi yp yq yw yc ya ye) memory room = absurd (xh yi yp yq)
    next_one (no_peer xh xc xa xe) (closes yi yp yo yq yg ya) memory room = absurd (xh yi yp yq)
    next_one (no_peer xh xc xa xe) (faulty yi yp yo yq yg ya) memory room = absurd (xh yi yp yq)
    next_one (waits xi xp xq xw xc xa xe) (no_peer yh yc ya ye) memory room = absurd (yh xi xp xq)
    next_one (waits xi xp xq xw xc xa xe) (waits yi yp yq yw yc ya ye) memory room = are_equal (ap Stepped (cc)) (cc)
    next_one (waits xi xp xq xw xc xa xe) (closes yi yp yo yq yg ya) memory room = absurd (takes_waits yg.takes.takes (rw (← (peer_one o xq yq).1) xw))
    next_one (waits xi xp xq xw xc xa xe) (faulty yi yp yo yq yg ya) memory room = absurd (waits_fails (rw (← (peer_one o xq yq).1) xw) yg.fails)
    next_one (closes xi xp xo xq xg xa) (no_peer yh yc ya ye) memory room = absurd (yh xi xp xq)
    next_one (closes xi xp xo xq xg xa) (waits yi yp yq yw yc ya ye) memory room = absurd (takes_waits xg.takes.takes (rw (← (peer_one o yq xq).1) yw))
    next_one (closes xi xp xo xq xg xa) (closes yi yp yo yq yg ya) memory room = (let r = close_one xg (move_close (peer_one o yq xq) yg) in are_equal (ap Stepped (cc)) r.1)
    next_one (closes xi xp xo xq xg xa) (faulty yi yp yo yq yg ya) memory room =
        absurd (takes_fails (subst (λ p. Takes p.stream xg.takes.event xg.takes.rest) (peer_one o xq yq).1 xg.takes.takes) yg.fails)
    next_one (faulty xi xp xo xq xg xa) (no_peer yh yc ya ye) memory room = absurd (yh xi xp xq)
    next_one (faulty xi xp xo xq xg xa) (waits yi yp yq yw yc ya ye) memory room = absurd (waits_fails (rw (← (peer_one o yq xq).1) yw) xg.fails)
    next_one (faulty xi xp xo xq xg xa) (closes yi yp yo yq yg ya) memory room =
        absurd (takes_fails (subst (λ p. Takes p.stream yg.takes.event yg.takes.rest) (peer_one o yq xq).1 yg.takes.takes) xg.fails)
    next_one (faulty xi xp xo xq xg xa) (faulty yi yp yo yq yg ya) memory room = (let r = fault_one xg (move_fault (peer_one o yq xq) yg) in are_equal (ap Stepped (cc)) r.1)
