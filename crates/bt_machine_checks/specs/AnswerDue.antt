-- What a message of a peer must lead to, unless the engine is out of memory: an engine that rejects every
-- hash request, marks no block, cancels nothing or serves nobody is no such machine.
use Rattle.std.specs.Prelude.{[], ◌≡◌, ◌≢◌, ◌↔◌, ℕ, ◌*◌, ◌⊎◌, false, List, ◌∷◌, length, Some, None, Err, Contains}
use Rattle.std.specs.List.{concat}
use Rattle.bt_tree.specs.Limits.{full_block_length}
use Rattle.bt_disk.specs.Calls.{write_fault}
use Rattle.bt_meta.specs.Place.{IsPlace}
use Rattle.bt_meta.specs.Torrent.{IsLawful}
use Rattle.bt_meta.specs.declared.torrent.Span.{Span}
use Rattle.bt_sparse.specs.SparseTree.{Facts}
use Rattle.bt_hashreq.specs.declared.key.HashKey.{HashKey}
use Rattle.bt_store.specs.BlockReads.{given, failed, call_of, IsRight}
use Rattle.bt_store.specs.declared.block_states.BlockState.TheVariants.{Waiting, Marked}
use Rattle.bt_book.specs.declared.names.PeerKey.{PeerKey}
use Rattle.bt_book.specs.declared.names.BlockId.{BlockId}
use Rattle.bt_wire.specs.Cutter.{Stream, Takes}
use Rattle.bt_wire.specs.declared.message.Ask.{Ask}
use Rattle.bt_wire.specs.declared.message.Message.TheVariants.{Request, Piece, Cancel, HashRequest, Hashes, HashReject}
use Rattle.bt_wire.specs.declared.event.WireEvent.TheVariants.{Message}
use Rattle.bt_machine.specs.declared.answer.Note.TheVariants.{Marked as NowMarked, Waiting as NowWaiting, Damaged, Device}
use Rattle.bt_machine.specs.declared.error.EngineError.TheVariants.{OutOfMemory}
use Rattle.bt_machine.specs.declared.event.Event.TheVariants.{Next}
use Rattle.bt_machine.specs.State.{PeerState, EngineState}
use Rattle.bt_machine.specs.Devices.{DeviceCalls}
use Rattle.bt_machine.specs.LogCalls.{EventCalls}
use Rattle.bt_machine.specs.Blocks.{block_id, state_at, tree_of, leaf_at, is_complete}
use Rattle.bt_machine.specs.Spans.{IsRangeOf, spanned_blocks, cut_from}
use Rattle.bt_machine.specs.Request.{AreMarked}
use Rattle.bt_machine.specs.HashMessages.{IsAnswered}
use Rattle.bt_machine.specs.Next.{IsPeer}
use Rattle.bt_machine.specs.declared.event.Answer.{Answer}
use Rattle.bt_machine.specs.declared.event.Answer.TheVariants.{Stepped}
use Rattle.bt_machine.specs.Step.{Step}
use Rattle.bt_machine_checks.specs.AnswerLaw.{NotedBy, Sends}

-- the peer of the key stands at this place, and no other has the key
pub record IsOnlyPeer (s : EngineState) (key : PeerKey) (place : ℕ) (p : PeerState) : Type 0 where
  pub is_peer : IsPeer s key place p
  pub only : (j : ℕ) (q : PeerState) → IsPeer s key j q → j ≡ place

abbrev pub NextLacksMemory : Answer → Type 0
NextLacksMemory answer = answer ≡ Stepped (Err OutOfMemory)

-- ---- hash requests

-- the digests asked for are sent, and a reject only where the request is not right or one of them is unknown
pub data AnswersHashes (dig : List ℕ → List ℕ) (s : EngineState) (answer : Answer) (key : PeerKey)
    (asked : HashKey) : Type 0 where
  known : (digests : List (List ℕ)) → IsAnswered dig s asked digests
      → Sends answer key (Hashes asked (concat digests)) → AnswersHashes dig s answer key asked
  unknown : ((digests : List (List ℕ)) → ¬ IsAnswered dig s asked digests)
      → Sends answer key (HashReject asked) → AnswersHashes dig s answer key asked

abbrev pub NextAnswersHashRequest : (List ℕ → List ℕ) → Type 0
NextAnswersHashRequest dig = (old new : EngineState) (key : PeerKey) (place : ℕ) (p : PeerState)
    (calls : EventCalls) (answer : Answer) (asked : HashKey) (rest : Stream)
    → IsOnlyPeer old key place p → Takes p.stream (Message (HashRequest asked)) rest
    → Step dig old (Next key) calls answer new
    → NextLacksMemory answer ⊎ AnswersHashes dig old answer key asked

-- ---- blocks that come

-- the block is marked, with a note; or the device refused to write it
pub data MarksBlock (b : BlockId) (bytes : List ℕ) (calls : DeviceCalls) (answer : Answer)
    (new : EngineState) : Type 0 where
  marked : state_at new b ≡ Some Marked → NotedBy answer (NowMarked b) → MarksBlock b bytes calls answer new
  not_written : calls ≡ (b.file, write_fault (full_block_length * b.block) bytes) ∷ []
      → NotedBy answer (Device b.file) → MarksBlock b bytes calls answer new

-- A whole block comes that the peer is asked for, with the digest of its leaf.
abbrev pub NextMarksRightBlock : (List ℕ → List ℕ) → Type 0
NextMarksRightBlock dig = (old new : EngineState) (key : PeerKey) (place : ℕ) (p : PeerState)
    (calls : EventCalls) (answer : Answer) (piece begin : ℕ) (bytes : List ℕ) (rest : Stream) (b : BlockId)
    (tree : Facts)
    → IsLawful old.torrent.piece_length old.torrent.files → IsOnlyPeer old key place p
    → Takes p.stream (Message (Piece piece begin bytes)) rest
    → IsRangeOf old.torrent piece begin (length bytes) b → Contains p.asked b
    → tree_of old b.file ≡ Some tree → IsRight dig tree b.block bytes
    → Step dig old (Next key) calls answer new
    → NextLacksMemory answer ⊎ MarksBlock b bytes calls.devices answer new

-- the block was stored, and is noted so
abbrev pub NotesStored : Answer → BlockId → Type 0
NotesStored answer b = NotedBy answer (NowMarked b) ⊎ NotedBy answer (NowWaiting b)

-- a peer of another key is asked for the block
pub record IsOtherAsker (s : EngineState) (key : PeerKey) (b : BlockId) (other : PeerKey) : Type 0 where
  pub peer : PeerState
  pub connected : Contains s.peers peer
  pub same_key : peer.key ≡ other
  pub apart : other.0 ≢ key.0
  pub asked : Contains peer.asked b

-- A whole block comes that the peer is asked for. A peer is sent a cancel exactly where the block is stored
-- and it is another that is asked for it, and a cancel of this range.
abbrev pub NextCancelsStoredBlock : (List ℕ → List ℕ) → Type 0
NextCancelsStoredBlock dig = (old new : EngineState) (key : PeerKey) (place : ℕ) (p : PeerState)
    (calls : EventCalls) (answer : Answer) (piece begin : ℕ) (bytes : List ℕ) (rest : Stream) (b : BlockId)
    → IsLawful old.torrent.piece_length old.torrent.files → IsOnlyPeer old key place p
    → Takes p.stream (Message (Piece piece begin bytes)) rest
    → IsRangeOf old.torrent piece begin (length bytes) b → Contains p.asked b
    → Step dig old (Next key) calls answer new
    → (other : PeerKey) (ask : Ask) → Sends answer other (Cancel ask)
    ↔ NotesStored answer b × (ask ≡ record { piece = piece; begin = begin; length = length bytes })
    × IsOtherAsker old key b other

-- ---- requests of blocks

-- The range is sent; or a block under it was read and is not right, or could not be read, with a note.
pub data ServesRange (dig : List ℕ → List ℕ) (tree : Facts) (key : PeerKey) (ask : Ask) (span : Span)
    (calls : DeviceCalls) (answer : Answer) : Type 0 where
  sent : (blocks : ℕ → List ℕ) → ((i : ℕ) → Contains (spanned_blocks span) i → IsRight dig tree i (blocks i))
      → Sends answer key (Piece ask.piece ask.begin (cut_from span blocks))
      → ServesRange dig tree key ask span calls answer
  damaged : (i : ℕ) (bytes : List ℕ) → Contains (spanned_blocks span) i → ¬ IsRight dig tree i bytes
      → Contains calls (span.file, call_of tree.file_length (given i bytes))
      → NotedBy answer (Damaged (block_id span.file i)) → ServesRange dig tree key ask span calls answer
  not_read : (i : ℕ) → Contains (spanned_blocks span) i
      → Contains calls (span.file, call_of tree.file_length (failed i))
      → NotedBy answer (Device span.file) → ServesRange dig tree key ask span calls answer

-- A peer that is not choked requests a range whose blocks are marked.
abbrev pub NextServesMarkedRange : (List ℕ → List ℕ) → Type 0
NextServesMarkedRange dig = (old new : EngineState) (key : PeerKey) (place : ℕ) (p : PeerState)
    (calls : EventCalls) (answer : Answer) (ask : Ask) (rest : Stream) (span : Span) (tree : Facts)
    → IsLawful old.torrent.piece_length old.torrent.files → IsOnlyPeer old key place p
    → Takes p.stream (Message (Request ask)) rest → p.am_choking ≡ false
    → IsPlace old.torrent ask.piece ask.begin ask.length span → AreMarked old span
    → tree_of old span.file ≡ Some tree → Step dig old (Next key) calls answer new
    → NextLacksMemory answer ⊎ ServesRange dig tree key ask span calls.devices answer

-- ---- blocks that wait

-- a file is not complete while a block of it waits
abbrev pub WaitingIsNotComplete : Type 0
WaitingIsNotComplete = (s : EngineState) (b : BlockId) → state_at s b ≡ Some Waiting
    → is_complete s b.file ≡ false

-- A block that waits after a message waits for an unknown leaf, unless it waited for a known one before. So,
-- where a message tells its leaf, it is settled in every file of the root.
abbrev pub NextSettlesWaitingBlocks : (List ℕ → List ℕ) → Type 0
NextSettlesWaitingBlocks dig = (old new : EngineState) (key : PeerKey) (calls : EventCalls) (answer : Answer)
    (b : BlockId) → Step dig old (Next key) calls answer new
    → (state_at old b ≡ Some Waiting → leaf_at dig old b ≡ None)
    → state_at new b ≡ Some Waiting → leaf_at dig new b ≡ None

-- A block that becomes marked is noted.
abbrev pub NextNotesMarkedBlocks : (List ℕ → List ℕ) → Type 0
NextNotesMarkedBlocks dig = (old new : EngineState) (key : PeerKey) (calls : EventCalls) (answer : Answer)
    (b : BlockId) → Step dig old (Next key) calls answer new
    → ¬ (state_at old b ≡ Some Marked) → state_at new b ≡ Some Marked → NotedBy answer (NowMarked b)
