-- What a wire event comes to by itself, and what the machine does then.
use Rattle.std.specs.Prelude.{[], ◌≡◌, ℕ, true, List, ◌∷◌, map, IfSome, Option, Some, None, slice_get, vec_len}
use Rattle.std.specs.Option.{option_to_list}
use Rattle.bt_disk.specs.Conduct.{Conduct}
use Rattle.bt_book.specs.declared.names.PeerKey.{PeerKey}
use Rattle.bt_resume.specs.Hint.{CanBeRead}
use Rattle.bt_wire.specs.declared.event.WireEvent.{WireEvent}
use Rattle.bt_wire.specs.declared.message.Ask.{Ask}
use Rattle.bt_wire.specs.declared.message.Message.TheVariants.{Cancel}
use Rattle.bt_machine.specs.declared.answer.Frame.TheVariants.{Message as message_frame}
use Rattle.bt_machine.specs.declared.answer.Note.{Note}
use Rattle.bt_machine.specs.State.{PeerState, Hint}
use Rattle.bt_machine.specs.Devices.{DeviceCalls, HaveCalls}
use Rattle.bt_machine.specs.Output.{Sent, Effect, sent_to, closing}
use Rattle.bt_machine.specs.WireEvents.{Handles}
use Rattle.bt_engine_state.specs.Parts.{state_of, disks_of}
use Rattle.bt_engine_state.specs.declared.parts.Parts.{Parts}
use Rattle.bt_engine_messages.specs.declared.outcome.Outcome.{Outcome}
use Rattle.bt_engine_messages.specs.declared.outcome.Outcome.TheVariants.{Closed, Stays}
use Rattle.bt_engine_messages.specs.declared.outcome.Reply.{Reply}
use Rattle.bt_engine_messages.specs.declared.outcome.Reply.TheVariants.{Nothing, Sends, Noted, Stored, Settled}

-- a cancel of the range to each of these peers
abbrev pub cancels_to : Ask → List PeerKey → List Sent
cancels_to ask keys = map (λ key. (key, message_frame (Cancel ask))) keys

-- what the peer is sent, or others where they get a cancel
abbrev pub sent_by : PeerState → Reply → List Sent
sent_by p Nothing = []
sent_by p (Sends message) = sent_to p message ∷ []
sent_by p (Noted note) = []
sent_by p (Stored note ask others) = cancels_to ask others.items
sent_by p (Settled notes) = []

abbrev pub notes_in : Reply → List Note
notes_in Nothing = []
notes_in (Sends message) = []
notes_in (Noted note) = note ∷ []
notes_in (Stored note ask others) = note ∷ []
notes_in (Settled notes) = notes.items

-- how many notes these are
abbrev pub reply_count : Reply → ℕ
reply_count Nothing = 0
reply_count (Sends message) = 0
reply_count (Noted note) = 1
reply_count (Stored note ask others) = 1
reply_count (Settled notes) = vec_len notes

abbrev pub note_count : Outcome → ℕ
note_count (Closed why) = 0
note_count (Stays reply proof) = reply_count reply

-- the proof that is left for a log, if there is one
abbrev pub proof_in : Outcome → Option Hint
proof_in (Closed why) = None
proof_in (Stays reply proof) = proof

-- the machine's effect, of an event that left these proofs
abbrev pub effect_of : PeerState → Outcome → List Hint → Effect
effect_of p (Closed why) proofs = closing why
effect_of p (Stays reply proof) proofs = record {
  send = sent_by p reply;
  close = None;
  notes = notes_in reply;
  proofs = proofs;
}

-- With a log the hint is the proof that the machine keeps, if it keeps one. Without a log there is none. It can
-- be read back.
pub record KeepsProofs {D H : Type 0} (parts : Parts D H) (hint : Option Hint) (proofs : List Hint)
    : Type 0 where
  pub logged : (state_of parts).logged ≡ true → proofs ≡ option_to_list hint
  pub unlogged : parts.log ≡ None → hint ≡ None
  pub readable : IfSome hint CanBeRead

-- By these calls of the devices the machine handles the event of the peer at i, has the effect of this outcome
-- and comes to the new parts. The outcome has the proofs that it keeps.
pub record IsHandled {D H : Type 0} (conduct : Conduct D)
    (dig : List ℕ → List ℕ) (old : Parts D H) (i : ℕ) (event : WireEvent) (outcome : Outcome)
    (new : Parts D H) : Type 0 where
  pub calls : DeviceCalls
  pub proofs : List Hint
  pub made : HaveCalls conduct (disks_of old) calls (disks_of new)
  pub handles : (p : PeerState) → slice_get (state_of old).peers i ≡ Some p
      → Handles dig (state_of old) i p event calls (effect_of p outcome proofs) (state_of new)
  pub keeps : KeepsProofs old (proof_in outcome) proofs
