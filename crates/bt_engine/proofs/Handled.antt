-- What an event did not do, a peer that is lost, and how many notes an event may have.
use Rattle.bt_machine.proofs.Base.{[], ◌≡◌, ℕ, inl, inr, List, Option, Some, Ok, Err, Result, refl, sym, ap, ◌∙◌, subst, slice_get, PeerKey, WireEvent}
use Rattle.std.specs.Prelude.{IfOk, IfErr}
use Rattle.std.proofs.lemmas.Bool.{cases_eq}
use Rattle.bt_machine.specs.declared.error.EngineError.{EngineError}
use Rattle.bt_machine.specs.State.{PeerState, EngineState}
use Rattle.bt_machine.specs.Devices.{HaveCalls}
use Rattle.bt_machine.specs.Next.{without_peer}
use Rattle.bt_machine.specs.Peers.{StepLost, goes, no_peer}
use Rattle.bt_machine.proofs.Lists.{get_map}
use Rattle.bt_engine_state.specs.Parts.{state_of, disks_of, peer_of}
use Rattle.bt_engine_state.specs.Ties.{IsTied}
use Rattle.bt_engine_state.specs.declared.peer.Peer.{Peer}
use Rattle.bt_engine_state.specs.declared.parts.Parts.{Parts}
use Rattle.bt_engine_state.proofs.DeviceCalls.{have_none}
use Rattle.bt_engine_state.proofs.Lists.{get_mapped}
use Rattle.bt_engine_state.proofs.PeerLists.{keys_apart}
use Rattle.bt_engine.specs.RoomSteps.{IsMessageBound, IsNoteBound}
use Rattle.bt_engine_state.specs.declared.open_log.OpenLog.{OpenLog}
use Rattle.bt_wire.specs.declared.event.WireEvent.TheVariants.{Message}
use Rattle.bt_wire.specs.declared.message.Message.{Message as PeerMessage}
use Rattle.bt_wire.specs.declared.message.Message.TheVariants.{Hashes}
use Rattle.bt_disk.specs.Conduct.{Conduct}

pub if_ok : {A E : Type 0} (P Q : A → Type 0) (r : Result A E) → IfOk r P → ((x : A) → P x → Q x) → IfOk r Q
if_ok P Q (Ok x) p f = f x p
if_ok P Q (Err e) p f = p

pub if_err : {A E : Type 0} (P Q : E → Type 0) (r : Result A E) → IfErr r P → ((x : E) → P x → Q x) → IfErr r Q
if_err P Q (Ok x) p f = p
if_err P Q (Err e) p f = f e p

-- no device was called
pub no_calls : {D H : Type 0} (conduct : Conduct D) (old mid : Parts D H) → disks_of mid ≡ disks_of old → HaveCalls conduct (disks_of old) [] (disks_of mid)
no_calls {D} conduct old mid same =
    subst (λ (ds : List (Option D)). HaveCalls conduct (disks_of old) [] ds) (sym same) (have_none conduct (disks_of old))

-- the peer that is lost is the one that stands there
pub lost_at : {D H : Type 0} (parts : Parts D H) (i : ℕ) {p : Peer} {r : Result (Unit {0}) EngineError} {new : EngineState} → IsTied parts
    → slice_get parts.peers.items i ≡ Some p → StepLost (state_of parts) p.key r new → new ≡ without_peer i (state_of parts)
lost_at parts i {p} tied at (goes j q is e after) = elim (cases_eq j i) [
  | inl same ↦ after ∙ ap (λ n. without_peer n (state_of parts)) same
  | inr apart ↦ (
      let m = get_map (peer_of parts.book) parts.peers.items j is.here in
      absurd (keys_apart parts.peers.items i j tied.in_order at m.1 apart (ap (λ (k : PeerKey). k.0) (ap (λ (p : PeerState). p.key) m.2 ∙ is.same_key)))
      )
]
lost_at parts i {p} tied at (no_peer none e after) =
    absurd (none i (peer_of parts.book p) (record { here = get_mapped (peer_of parts.book) parts.peers.items i at; same_key = refl }))

-- how many notes there may be is not a matter of the log
module _ {D H : Type 0} (parts : Parts D H) (log : Option (OpenLog D)) where
  message_logged : (message : PeerMessage) (bound : ℕ) → IsMessageBound parts message bound → IsMessageBound (record parts { log = log }) message bound
  message_logged (Hashes key digests) bound is = record {
    known = λ tree k has. is.known tree k (record { here = has.here; same_root = has.same_root });
    unknown = λ none. is.unknown (λ tree k has. none tree k (record { here = has.here; same_root = has.same_root }));
  }
  message_logged _ bound is = is

  pub bound_logged : (event : WireEvent) (bound : ℕ) → IsNoteBound parts event bound → IsNoteBound (record parts { log = log }) event bound
  bound_logged (Message message) bound is = message_logged message bound is
  bound_logged _ bound is = is
