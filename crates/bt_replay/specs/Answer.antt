-- The lines that tell what an event answered, and how far the files are.
use Rattle.std.specs.Prelude.{[], ℕ, ◌++◌, ◌∷◌, if◌then◌else◌, List, Option, Some, None, Ok, Err, Contains, codes, flat_map}
use Rattle.std.specs.Fmt.{decimal}
use Rattle.hex.specs.Hex.{encode_lower}
use Rattle.bt_book.specs.declared.names.PeerKey.{PeerKey}
use Rattle.bt_book.specs.declared.names.BlockId.{BlockId}
use Rattle.bt_wire.specs.Message.{message_spelling}
use Rattle.bt_machine.specs.declared.answer.Frame.{Frame}
use Rattle.bt_machine.specs.declared.answer.Frame.TheVariants.{Hello, Message}
use Rattle.bt_machine.specs.declared.answer.Note.{Note}
use Rattle.bt_machine.specs.declared.answer.Note.TheVariants.{Marked, Waiting, Freed, Damaged, Device, Stale, Complete}
use Rattle.bt_machine.specs.declared.answer.Why.{Why}
use Rattle.bt_machine.specs.declared.error.ConnectError.{ConnectError}
use Rattle.bt_machine.specs.declared.error.ConnectError.TheVariants.{Full, SerialsSpent, OutOfMemory as no_peer_memory}
use Rattle.bt_machine.specs.declared.error.EngineError.{EngineError}
use Rattle.bt_machine.specs.declared.error.EngineError.TheVariants.{NoPeer, OutOfMemory as no_event_memory}
use Rattle.bt_machine.specs.declared.error.AdoptError.{AdoptError}
use Rattle.bt_machine.specs.declared.error.AdoptError.TheVariants.{NoFile, Busy, OutOfMemory as no_group_memory}
use Rattle.bt_machine.specs.declared.error.FlushError.{FlushError}
use Rattle.bt_machine.specs.declared.error.FlushError.TheVariants.{Device as device_failed, LogFull}
use Rattle.bt_machine.specs.declared.error.RestartError.{RestartError}
use Rattle.bt_machine.specs.declared.error.RestartError.TheVariants.{Log, OutOfMemory as no_restart_memory}
use Rattle.bt_machine.specs.declared.event.Answer.{Answer}
use Rattle.bt_machine.specs.declared.event.Answer.TheVariants.{Connected, Fed, Stepped, Lost, Rechoked, Adopted, Flushed, Restarted}
use Rattle.bt_machine.specs.declared.report.FileReport.{FileReport}
use Rattle.bt_machine.specs.Blocks.{file_numbers}
use Rattle.bt_machine.specs.Frames.{CanBeWritten}
use Rattle.bt_machine.specs.Output.{Sent, Output}
use Rattle.bt_machine.specs.Report.{report}
use Rattle.bt_machine.specs.State.{EngineState}
use Rattle.bt_machine.specs.Why.{code_of}

-- a line with its end, one line feed
abbrev pub line_text : List ℕ → List ℕ
line_text line = line ++ 10 ∷ []

-- ---- an output

-- a handshake, or the bytes of a message
abbrev pub frame_words : Frame → List ℕ
frame_words (Hello handshake) = codes "hello"
frame_words (Message message) = encode_lower (message_spelling message)

-- the peer that a frame is sent to, and the frame
abbrev pub send_line : Sent → List ℕ
send_line sent = line_text (codes "send " ++ decimal sent.0.0 ++ codes " " ++ frame_words sent.1)

abbrev pub close_text : Option Why → List ℕ
close_text None = []
close_text (Some why) = line_text (codes "close " ++ code_of why)

-- a file, and a block of it
abbrev pub block_words : BlockId → List ℕ
block_words block = decimal block.file ++ codes " " ++ decimal block.block

abbrev pub note_words : Note → List ℕ
note_words (Marked block) = codes "marked " ++ block_words block
note_words (Waiting block) = codes "waiting " ++ block_words block
note_words (Freed block) = codes "freed " ++ block_words block
note_words (Damaged block) = codes "damaged " ++ block_words block
note_words (Device file) = codes "device " ++ decimal file
note_words Stale = codes "stale"
note_words (Complete file) = codes "complete " ++ decimal file

abbrev pub note_line : Note → List ℕ
note_line note = line_text (note_words note)

-- what is sent, then why the peer is closed, then the notes
abbrev pub output_text : Output → List ℕ
output_text out = flat_map send_line out.send ++ close_text out.close ++ flat_map note_line out.notes

-- ---- an answer

-- the name of the refusal
abbrev pub refused_text : List ℕ → List ℕ
refused_text name = line_text (codes "refused " ++ name)

abbrev pub connect_refusal : ConnectError → List ℕ
connect_refusal Full = codes "Full"
connect_refusal SerialsSpent = codes "SerialsSpent"
connect_refusal no_peer_memory = codes "OutOfMemory"

abbrev pub event_refusal : EngineError → List ℕ
event_refusal NoPeer = codes "NoPeer"
event_refusal no_event_memory = codes "OutOfMemory"

abbrev pub adopt_refusal : AdoptError → List ℕ
adopt_refusal NoFile = codes "NoFile"
adopt_refusal Busy = codes "Busy"
adopt_refusal no_group_memory = codes "OutOfMemory"

abbrev pub flush_refusal : FlushError → List ℕ
flush_refusal device_failed = codes "Device"
flush_refusal LogFull = codes "LogFull"

-- of a log that could not be read again only that is told
abbrev pub restart_refusal : RestartError → List ℕ
restart_refusal (Log cause) = codes "Log"
restart_refusal no_restart_memory = codes "OutOfMemory"

-- what each event answered
abbrev pub answer_text : Answer → List ℕ
answer_text (Connected (Ok joined)) = line_text (codes "peer " ++ decimal joined.0.0) ++ output_text joined.1
answer_text (Connected (Err error)) = refused_text (connect_refusal error)
answer_text (Fed (Ok _)) = line_text (codes "fed")
answer_text (Fed (Err error)) = refused_text (event_refusal error)
answer_text (Stepped (Ok (Some out))) = line_text (codes "step") ++ output_text out
answer_text (Stepped (Ok None)) = line_text (codes "none")
answer_text (Stepped (Err error)) = refused_text (event_refusal error)
answer_text (Lost (Ok _)) = line_text (codes "done")
answer_text (Lost (Err error)) = refused_text (event_refusal error)
answer_text (Rechoked (Ok out)) = line_text (codes "step") ++ output_text out
answer_text (Rechoked (Err _)) = refused_text (codes "OutOfMemory")
answer_text (Adopted (Ok adopted)) = line_text (codes "adopted " ++ decimal adopted.marked)
answer_text (Adopted (Err error)) = refused_text (adopt_refusal error)
answer_text (Flushed (Ok _)) = line_text (codes "done")
answer_text (Flushed (Err error)) = refused_text (flush_refusal error)
answer_text (Restarted (Ok _)) = line_text (codes "done")
answer_text (Restarted (Err error)) = refused_text (restart_refusal error)

-- each of these frames can be written
abbrev pub AllFit : List Sent → Type 0
AllFit sent = (s : Sent) → Contains sent s → CanBeWritten s.1

-- ---- a report

-- how many blocks of a file are marked, of all, and whether it is complete
abbrev pub file_words : FileReport → List ℕ
file_words told =
    decimal told.marked ++ codes " of " ++ decimal told.blocks
    ++ (if told.complete then codes " complete" else [])

abbrev pub file_line : ℕ → Option FileReport → List ℕ
file_line file None = []
file_line file (Some told) =
    line_text (codes "file " ++ decimal file ++ codes " " ++ file_words told)

-- a line for each file, in their order
abbrev pub report_text : EngineState → List ℕ
report_text s = flat_map (λ file. file_line file (report s file)) (file_numbers s)

-- ---- parts of lines

-- the line of a frame that is told by these words
abbrev pub sent_with : PeerKey → List ℕ → List ℕ
sent_with key words = line_text (codes "send " ++ decimal key.0 ++ codes " " ++ words)

-- a word and a block
abbrev pub block_line : List ℕ → BlockId → List ℕ
block_line word block = line_text (word ++ codes " " ++ block_words block)
