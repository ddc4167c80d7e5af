-- What follows for peers, one after the other.
use Rattle.bt_machine.proofs.Base.{[], ◌≡◌, ℕ, ◌+◌, List, ◌∷◌, ◌++◌, length, map, range_with_len, append-nil, length-map, refl, sym, ap, ◌∙◌, arith, subst, Metainfo, Ok, None}
use Rattle.std.proofs.Common.{append_assoc}
use Rattle.bt_store.proofs.Reviews.{range_split}
use Rattle.bt_machine.specs.Output.{Sent, Output}
use Rattle.bt_machine.specs.State.{EngineState}
use Rattle.bt_machine.specs.Shape.{IsShaped}
use Rattle.bt_machine.specs.FollowUp.{FollowsUp}
use Rattle.bt_machine.specs.Rechoke.{FollowsEach, rechoked, rechoked_peer, chokes_sent, StepRechoke, rechokes}
use Rattle.bt_machine.specs.declared.answer.Note.{Note}
use Rattle.bt_engine_state.specs.Parts.{state_of, disks_of}
use Rattle.bt_engine_state.specs.Ties.{IsTied}
use Rattle.bt_engine_state.specs.declared.peer.Peer.{Peer}
use Rattle.bt_engine_state.specs.declared.parts.Parts.{Parts}
use Rattle.bt_engine_after.specs.ServingSteps.{SendsAllFollowUps}
use Rattle.bt_engine_after.specs.AfterEvent.{SendsFollowUp}
use Rattle.bt_engine_after.proofs.FollowUps.{shaped_again}

module _ (dig : List ℕ → List ℕ) where
  each_more : (is : List ℕ) (i : ℕ) (s mid next : EngineState) (sent one : List Sent) → FollowsEach dig is s sent mid → FollowsUp dig mid i one next
      → FollowsEach dig (is ++ i ∷ []) s (sent ++ one) next
  each_more [] i s mid next sent one f g = (
    next,
    one,
    [],
    subst (λ s. FollowsUp dig s i one next) f.1 g,
    (refl, refl),
    ap (λ xs. xs ++ one) f.0 ∙ sym (append-nil one),
  )
  each_more (j ∷ is) i s mid next sent one f g =
      (f.0, f.1, f.2 ++ one, f.3, each_more is i f.0 mid next f.2 one f.4 g, ap (λ xs. xs ++ one) f.5 ∙ append_assoc f.1 f.2 one)

  pub shape_begun : {torrent : Metainfo} (s new : EngineState) → new ≡ rechoked s → IsShaped torrent s → IsShaped torrent new
  shape_begun {torrent} s new begun shaped =
      subst (λ s. IsShaped torrent s) (sym begun) (record { same = shaped.same; roots = shaped.roots; count = shaped.count; each = shaped.each })

  -- chokes and unchokes, and then what follows
  pub rechokes_so : (old mid new : EngineState) (first begun after : List Sent) (notes : List Note) → first ≡ [] → mid ≡ rechoked old
      → begun ≡ first ++ chokes_sent old → SendsAllFollowUps dig mid begun after new → notes ≡ []
      → StepRechoke dig old (Ok (record { send = after; close = None; notes = notes })) new
  rechokes_so old mid new first begun after notes none is sent all silent =
      let count : length (rechoked old).peers ≡ length old.peers = length-map old.peers (rechoked_peer old) in
      let follows : FollowsEach dig (range_with_len 0 (length (rechoked old).peers)) (rechoked old) all.sent new =
      subst (λ (s : EngineState). FollowsEach dig (range_with_len 0 (length s.peers)) s all.sent new) is all.follows in
      rechokes (record { send = after; close = None; notes = notes }) (record {
        sent = all.sent;
        follows = subst (λ n. FollowsEach dig (range_with_len 0 n) (rechoked old) all.sent new) count follows;
        is = ap {A = List Sent} {B = Output} (λ send. record { send = send; close = None; notes = notes })
            (all.behind ∙ ap (λ xs. xs ++ all.sent) (sent ∙ ap (λ xs. xs ++ chokes_sent old) none))
            ∙ ap {A = List Note} {B = Output} (λ ns. record { send = chokes_sent old ++ all.sent; close = None; notes = ns }) silent;
      }) refl

  module _ {D H : Type 0} where
    -- it was done for the peers before i
    pub record AreFollowedBelow (old : Parts D H) (before : List Sent) (i : ℕ) (now : Parts D H) (after : List Sent) : Type 0 where
      pub sent : List Sent
      pub follows : FollowsEach dig (range_with_len 0 i) (state_of old) sent (state_of now)
      pub behind : after ≡ before ++ sent
      pub devices : disks_of now ≡ disks_of old
      pub torrent : now.torrent ≡ old.torrent
      pub log : now.log ≡ old.log
      pub count : length now.peers.items ≡ length old.peers.items
      pub shaped : IsShaped now.torrent (state_of now)
      pub tied : IsTied now

    module _ (old : Parts D H) (before : List Sent) where
      pub none_followed : IsTied old → IsShaped old.torrent (state_of old) → AreFollowedBelow old before 0 old before
      none_followed tied shaped = record {
        sent = [];
        follows = (refl, refl);
        behind = sym (append-nil before);
        devices = refl;
        torrent = refl;
        log = refl;
        count = refl;
        shaped = shaped;
        tied = tied;
      }

      pub one_followed : (i : ℕ) (mid new : Parts D H) (so_far after : List Sent) → AreFollowedBelow old before i mid so_far
          → SendsFollowUp dig (state_of mid) i so_far after (state_of new) → disks_of new ≡ disks_of mid → new.torrent ≡ mid.torrent
          → new.log ≡ mid.log
          → map (λ p. p.key) new.peers.items ≡ map (λ p. p.key) mid.peers.items → IsTied new → AreFollowedBelow old before (i + 1) new after
      one_followed i mid new so_far after below sends devices torrent log keys tied =
          let place : 0 + i ≡ i = omega arith in
          record {
            sent = below.sent ++ sends.sent;
            follows = subst (λ is. FollowsEach dig is (state_of old) (below.sent ++ sends.sent) (state_of new))
                (sym (range_split 0 i 1 ∙ ap (λ n. range_with_len 0 i ++ n ∷ []) place)) (each_more (range_with_len 0 i) i (state_of old) (state_of mid) (state_of new) below.sent sends.sent below.follows sends.follows);
            behind = sends.behind ∙ ap (λ xs. xs ++ sends.sent) below.behind ∙ append_assoc before below.sent sends.sent;
            devices = devices ∙ below.devices;
            torrent = torrent ∙ below.torrent;
            log = log ∙ below.log;
            count = sym (length-map new.peers.items (λ (p : Peer). p.key)) ∙ ap (λ ks. length ks) keys ∙ length-map mid.peers.items (λ (p : Peer). p.key) ∙ below.count;
            shaped = shaped_again i _ below.shaped sends.follows.after;
            tied = tied;
          }

      pub all_followed : (i : ℕ) (now : Parts D H) (after : List Sent) → i ≡ length (state_of old).peers → AreFollowedBelow old before i now after
          → SendsAllFollowUps dig (state_of old) before after (state_of now)
      all_followed i now after all below = record {
        sent = below.sent;
        follows = subst (λ n. FollowsEach dig (range_with_len 0 n) (state_of old) below.sent (state_of now)) all below.follows;
        behind = below.behind;
      }
