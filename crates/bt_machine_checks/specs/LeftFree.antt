-- What is left to an engine: which blocks it requests, and nothing else.
use Rattle.std.specs.Prelude.{[], ◌≡◌, ◌⊎◌, Bool, true, false, not, ℕ, List, map, filter, Some, Ok, Err, All}
use Rattle.bt_meta.specs.Torrent.{Metainfo, IsLawful}
use Rattle.bt_store.specs.declared.block_states.BlockState.TheVariants.{Missing}
use Rattle.bt_book.specs.declared.names.BlockId.{BlockId}
use Rattle.bt_wire.specs.declared.message.Message.TheVariants.{Request}
use Rattle.bt_machine.specs.declared.answer.Frame.{Frame}
use Rattle.bt_machine.specs.declared.answer.Frame.TheVariants.{Message as message_frame}
use Rattle.bt_machine.specs.declared.error.ConnectError.TheVariants.{OutOfMemory as no_room_to_connect}
use Rattle.bt_machine.specs.declared.error.EngineError.TheVariants.{OutOfMemory}
use Rattle.bt_machine.specs.declared.error.AdoptError.TheVariants.{OutOfMemory as no_room_to_adopt}
use Rattle.bt_machine.specs.declared.error.RestartError.TheVariants.{OutOfMemory as no_room_to_restart}
use Rattle.bt_machine.specs.declared.event.Event.{Event}
use Rattle.bt_machine.specs.State.{PeerState, EngineState}
use Rattle.bt_machine.specs.LogCalls.{EventCalls}
use Rattle.bt_machine.specs.Blocks.{state_at}
use Rattle.bt_machine.specs.Output.{Sent, Output}
use Rattle.bt_machine.specs.Opening.{Begins}
use Rattle.bt_machine.specs.declared.event.Answer.{Answer}
use Rattle.bt_machine.specs.declared.event.Answer.TheVariants.{Connected, Fed, Stepped, Rechoked, Adopted as AdoptedAnswer, Restarted}
use Rattle.bt_machine.specs.Step.{Step, Run}
use Rattle.bt_machine.specs.Law.{sent_by}

abbrev pub is_block_request : Frame → Bool
is_block_request (message_frame (Request ask)) = true
is_block_request _ = false

-- what is sent but for requests of blocks
abbrev pub other_frames : List Sent → List Sent
other_frames sent = filter (λ x. not (is_block_request x.1)) sent

abbrev pub without_requests : Output → Output
without_requests out = record out { send = other_frames out.send }

-- an answer but for the requests of blocks that it sends
abbrev pub plain_answer : Answer → Answer
plain_answer (Connected (Ok joined)) = Connected (Ok (joined.0, without_requests joined.1))
plain_answer (Stepped (Ok (Some out))) = Stepped (Ok (Some (without_requests out)))
plain_answer (Rechoked (Ok out)) = Rechoked (Ok (without_requests out))
plain_answer answer = answer

-- an engine but for what its peers are asked for
abbrev pub asked_nothing : PeerState → PeerState
asked_nothing p = record p { asked = [] }

abbrev pub without_asked : EngineState → EngineState
without_asked s = record s { peers = map asked_nothing s.peers }

abbrev pub IsOutOfMemory : Answer → Type 0
IsOutOfMemory (Connected (Err no_room_to_connect)) = Unit {0}
IsOutOfMemory (Fed (Err OutOfMemory)) = Unit {0}
IsOutOfMemory (Stepped (Err OutOfMemory)) = Unit {0}
IsOutOfMemory (Rechoked (Err _)) = Unit {0}
IsOutOfMemory (AdoptedAnswer (Err no_room_to_adopt)) = Unit {0}
IsOutOfMemory (Restarted (Err no_room_to_restart)) = Unit {0}
IsOutOfMemory _ = ⊥

-- events lead to the engine from the start of a lawful torrent, with a log or without
pub record IsReached (dig : List ℕ → List ℕ) (s : EngineState) : Type 0 where
  pub torrent : Metainfo
  pub first : EngineState
  pub events : List Event
  pub calls : List EventCalls
  pub answers : List Answer
  pub lawful : IsLawful torrent.piece_length torrent.files
  pub begins : Begins dig torrent first
  pub run : Run dig first events calls answers s

-- Two steps of one event, from an engine that is reached, with the same answers of devices and of the log,
-- and with memory: they answer the same and lead to the same, but for which blocks are requested.
abbrev pub StepIsDetermined : (List ℕ → List ℕ) → Type 0
StepIsDetermined dig = (s new other : EngineState) (event : Event) (calls : EventCalls)
    (answer another : Answer) → IsReached dig s
    → Step dig s event calls answer new → Step dig s event calls another other
    → ¬ IsOutOfMemory answer → ¬ IsOutOfMemory another
    → (plain_answer answer ≡ plain_answer another) × (without_asked new ≡ without_asked other)

-- ---- where requests leave no choice

-- the requests of blocks that an answer sends, in their order
abbrev pub block_requests : Answer → List Sent
block_requests answer = filter (λ x. is_block_request x.1) (sent_by answer)

-- at most one block is missing
abbrev pub LacksOneAtMost : EngineState → Type 0
LacksOneAtMost s = (b c : BlockId) → state_at s b ≡ Some Missing → state_at s c ≡ Some Missing → b ≡ c

-- Where an answer requests no block, or at most one block is missing after it, nothing is left free: with
-- memory there is no other answer.
abbrev pub StepIsForced : (List ℕ → List ℕ) → Type 0
StepIsForced dig = (s new other : EngineState) (event : Event) (calls : EventCalls)
    (answer another : Answer) → IsReached dig s
    → Step dig s event calls answer new → Step dig s event calls another other
    → ¬ IsOutOfMemory answer → ¬ IsOutOfMemory another
    → (block_requests answer ≡ []) ⊎ LacksOneAtMost new
    → (answer ≡ another) × (new ≡ other)

-- ---- lists of events

-- nowhere out of memory
abbrev pub HaveMemory : List Answer → Type 0
HaveMemory answers = All (λ answer. ¬ IsOutOfMemory answer) answers

-- Two runs of the same events, from an engine that is reached, with the same answers of devices and of the
-- log, with memory, and with the same requests of blocks at each event: they answer the same and lead to the
-- same engine.
abbrev pub RunsAreDetermined : (List ℕ → List ℕ) → Type 0
RunsAreDetermined dig = (s new other : EngineState) (events : List Event) (calls : List EventCalls)
    (answers others : List Answer) → IsReached dig s
    → Run dig s events calls answers new → Run dig s events calls others other
    → HaveMemory answers → HaveMemory others
    → map block_requests answers ≡ map block_requests others
    → (answers ≡ others) × (new ≡ other)
