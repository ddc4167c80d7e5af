-- The frames that are sent to one peer, and how they are spelled.
use Rattle.std.specs.Prelude.{ℕ, ◌≢◌, ◌==◌, List, [], map, filter, flat_map, Bool, Option, Contains, Result, Ok, Err}
use Rattle.std.specs.Io.KnownBytes.{Appends, Keeps}
use Rattle.bt_book.specs.declared.names.PeerKey.{PeerKey}
use Rattle.bt_wire.specs.Handshake.{handshake_spelling}
use Rattle.bt_wire.specs.Message.{message_spelling}
use Rattle.bt_machine.specs.declared.answer.Frame.{Frame}
use Rattle.bt_machine.specs.declared.answer.Frame.TheVariants.{Hello, Message}
use Rattle.bt_machine.specs.Output.{Sent}
use Rattle.bt_machine.specs.Frames.{CanBeWritten}
use Rattle.bt_session.specs.declared.end.SessionEnd.{SessionEnd}
use Rattle.bt_session.specs.declared.end.SessionEnd.TheVariants.{Memory, WriteFault}

abbrev pub spelling : Frame → List ℕ
spelling (Hello handshake) = handshake_spelling handshake
spelling (Message message) = message_spelling message

-- one after the other
abbrev pub spellings : List Frame → List ℕ
spellings frames = flat_map spelling frames

abbrev pub is_to : PeerKey → Sent → Bool
is_to key sent = sent.0.0 == key.0

-- those that are sent to the peer
abbrev pub frames_to : PeerKey → List Sent → List Frame
frames_to key sent = map (λ s. s.1) (filter (is_to key) sent)

-- each of them can be written
abbrev pub AllFit : List Sent → Type 0
AllFit sent = (s : Sent) → Contains sent s → CanBeWritten s.1

-- The frames are written after what the writer held. Out of memory there are some, of which nothing is; of a
-- writer that failed nothing is known.
abbrev pub AreWritten : Option (List ℕ) → Option (List ℕ) → List Frame → Result (Unit {0}) SessionEnd → Type 0
AreWritten old new frames (Ok _) = Appends old new (spellings frames)
AreWritten old new frames (Err Memory) = Keeps old new × (frames ≢ [])
AreWritten old new frames (Err WriteFault) = Unit {0}
AreWritten old new frames (Err _) = ⊥
