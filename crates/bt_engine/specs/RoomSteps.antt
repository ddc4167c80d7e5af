-- Room for what a wire event sends and notes.
use Rattle.std.specs.Prelude.{[], ◌≡◌, ℕ, ◌+◌, ◌*◌, length, vec_capacity}
use Rattle.bt_book.specs.Book.{max_askers}
use Rattle.bt_wire.specs.declared.message.Message.{Message as Sent}
use Rattle.bt_wire.specs.declared.message.Message.TheVariants.{Request, Piece, Hashes}
use Rattle.bt_wire.specs.declared.event.WireEvent.{WireEvent}
use Rattle.bt_wire.specs.declared.event.WireEvent.TheVariants.{Message}
use Rattle.bt_engine_after.specs.AfterEvent.{max_frames}
use Rattle.bt_engine_state.specs.declared.parts.Parts.{Parts}
use Rattle.bt_engine_messages.specs.Hashes.{IsNoteRoom}
use Rattle.bt_engine.specs.PendingSteps.{HasHintRoom}
use Rattle.bt_engine.specs.declared.room.EventLists.{EventLists}

-- a message has at most this many notes: hashes as many as blocks may have waited for them
abbrev pub IsMessageBound : {D H : Type 0} → Parts D H → Sent → ℕ → Type 0
IsMessageBound parts (Request ask) bound = bound ≡ 1
IsMessageBound parts (Piece piece begin bytes) bound = bound ≡ 1
IsMessageBound parts (Hashes key digests) bound = IsNoteRoom parts key bound
IsMessageBound parts _ bound = bound ≡ 0

-- as an event has
abbrev pub IsNoteBound : {D H : Type 0} → Parts D H → WireEvent → ℕ → Type 0
IsNoteBound parts (Message message) bound = IsMessageBound parts message bound
IsNoteBound parts _ bound = bound ≡ 0

-- nothing is sent or noted yet, and there is room for an event of `bound` notes, with `peers` peers, and for
-- no more
pub record HasRoom (bound peers : ℕ) (room : EventLists) : Type 0 where
  pub nothing_sent : room.send.items ≡ []
  pub nothing_noted : room.notes.items ≡ []
  pub send_room : vec_capacity room.send ≡ bound * peers + max_askers + max_frames
  pub note_room : vec_capacity room.notes ≡ bound + bound

-- the same for such an event, and with a log for its hints: a proof and a mark for each note
abbrev pub HasRoomFor : {D H : Type 0} → Parts D H → WireEvent → EventLists → Type 0
HasRoomFor parts event room = (bound : ℕ) × IsNoteBound parts event bound
    × HasRoom bound (length parts.peers.items) room × HasHintRoom (bound + 1) parts.log
