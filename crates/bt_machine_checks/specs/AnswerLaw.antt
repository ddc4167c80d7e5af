-- What answers hold, whatever the peers send and the devices answer: which pieces are announced, which files
-- are noted as complete, and why a peer is closed.
use Rattle.std.specs.Prelude.{◌≡◌, ◌≢◌, ℕ, ◌<◌, ◌≤◌, ◌↔◌, Bool, true, false, List, length, Option, Some, None, Ok, Contains}
use Rattle.bt_meta.specs.Place.{IsPlace}
use Rattle.bt_meta.specs.Torrent.{total_pieces}
use Rattle.bt_meta.specs.declared.torrent.Span.{Span}
use Rattle.bt_sparse.specs.SparseTree.{Facts, value_at}
use Rattle.bt_sparse.specs.Acceptance.{IsRefused}
use Rattle.bt_sparse.specs.declared.claim.Claim.{Claim}
use Rattle.bt_sparse.specs.declared.claim.ProofError.{ProofError}
use Rattle.bt_sparse.specs.declared.claim.ProofError.TheVariants.{OutOfMemory}
use Rattle.bt_hashreq.specs.Claim.{IsClaimBy, IsNoClaim}
use Rattle.bt_hashreq.specs.declared.key.HashKey.{HashKey}
use Rattle.bt_store.specs.Arrival.{IsWrong}
use Rattle.bt_book.specs.declared.names.PeerKey.{PeerKey}
use Rattle.bt_book.specs.declared.names.BlockId.{BlockId}
use Rattle.bt_wire.specs.Cutter.{Stream, Takes, Fails}
use Rattle.bt_wire.specs.declared.handshake.Handshake.{Handshake}
use Rattle.bt_wire.specs.declared.message.Ask.{Ask}
use Rattle.bt_wire.specs.declared.message.Message.{Message as PeerMessage}
use Rattle.bt_wire.specs.declared.message.Message.TheVariants.{Have, Bitfield, Request, Piece, Hashes}
use Rattle.bt_wire.specs.declared.event.WireEvent.TheVariants.{Hello, Message}
use Rattle.bt_wire.specs.declared.event.WireError.{WireError}
use Rattle.bt_machine.specs.declared.answer.Frame.TheVariants.{Message as message_frame}
use Rattle.bt_machine.specs.declared.answer.Why.{Why}
use Rattle.bt_machine.specs.declared.answer.Why.TheVariants.{Wire, WrongTorrent, BadPiece, BadBitfield, BadRequest, WrongBlock, UnknownRoot, Proof}
use Rattle.bt_machine.specs.declared.answer.Note.{Note}
use Rattle.bt_machine.specs.declared.answer.Note.TheVariants.{Complete}
use Rattle.bt_machine.specs.declared.event.Event.{Event}
use Rattle.bt_machine.specs.declared.event.Event.TheVariants.{Next}
use Rattle.bt_machine.specs.State.{PeerState, EngineState}
use Rattle.bt_machine.specs.LogCalls.{EventCalls}
use Rattle.bt_machine.specs.Blocks.{tree_of, is_whole, is_complete}
use Rattle.bt_machine.specs.Spans.{IsRangeOf}
use Rattle.bt_machine.specs.Output.{Output}
use Rattle.bt_machine.specs.HashMessages.{IsTreeOf, IsUnknownRoot}
use Rattle.bt_machine.specs.WireEvents.{short_infohash, bitfield_length}
use Rattle.bt_machine.specs.Next.{IsPeer}
use Rattle.bt_machine.specs.declared.event.Answer.{Answer}
use Rattle.bt_machine.specs.declared.event.Answer.TheVariants.{Connected, Stepped, Rechoked}
use Rattle.bt_machine.specs.Step.{Step}
use Rattle.bt_machine.specs.Law.{sent_by}

-- the answer sends this message to the peer of this key
abbrev pub Sends : Answer → PeerKey → PeerMessage → Type 0
Sends answer key message = Contains (sent_by answer) (key, message_frame message)

abbrev pub output_of : Answer → Option Output
output_of (Connected (Ok joined)) = Some joined.1
output_of (Stepped (Ok out)) = out
output_of (Rechoked (Ok out)) = Some out
output_of _ = None

-- the answer has this note
abbrev pub NotedBy : Answer → Note → Type 0
NotedBy answer note = (out : Output) × (output_of answer ≡ Some out) × Contains out.notes note

abbrev pub IsConnected : EngineState → PeerKey → Type 0
IsConnected s key = (place : ℕ) × (p : PeerState) × IsPeer s key place p

-- ---- pieces and files

-- not so in the old engine, and so in the new one
pub record BecomesSo (holds : EngineState → ℕ → Bool) (old new : EngineState) (x : ℕ) : Type 0 where
  pub before : holds old x ≡ false
  pub after : holds new x ≡ true

-- A have of a piece is sent to every peer that is connected, exactly where the piece became whole.
abbrev pub StepAnnouncesWholePieces : (List ℕ → List ℕ) → Type 0
StepAnnouncesWholePieces dig = (old new : EngineState) (event : Event) (calls : EventCalls) (answer : Answer)
    → Step dig old event calls answer new
    → (key : PeerKey) (piece : ℕ) → Sends answer key (Have piece)
    ↔ IsConnected new key × (piece < total_pieces new.torrent) × BecomesSo is_whole old new piece

-- Where the next wire event of a peer is taken, a file is noted as complete exactly where it became so.
abbrev pub NextNotesCompleteFiles : (List ℕ → List ℕ) → Type 0
NextNotesCompleteFiles dig = (old new : EngineState) (key : PeerKey) (calls : EventCalls) (answer : Answer)
    → Step dig old (Next key) calls answer new
    → (file : ℕ) → NotedBy answer (Complete file)
    ↔ (file < length new.files) × BecomesSo is_complete old new file

-- ---- closing

-- what the peer sent for which it is closed
pub data IsCause (dig : List ℕ → List ℕ) (s : EngineState) (p : PeerState) : Why → Type 0 where
  wire : (fault : WireError) (failed : Stream) → Fails p.stream fault failed → IsCause dig s p (Wire fault)
  other_torrent : (h : Handshake) (rest : Stream) → Takes p.stream (Hello h) rest
      → h.infohash ≢ short_infohash s → IsCause dig s p WrongTorrent
  past_last_piece : (piece : ℕ) (rest : Stream) → Takes p.stream (Message (Have piece)) rest
      → total_pieces s.torrent ≤ piece → IsCause dig s p BadPiece
  other_length : (bytes : List ℕ) (rest : Stream) → Takes p.stream (Message (Bitfield bytes)) rest
      → length bytes ≢ bitfield_length s → IsCause dig s p BadBitfield
  no_place : (ask : Ask) (rest : Stream) → Takes p.stream (Message (Request ask)) rest → p.am_choking ≡ false
      → ((span : Span) → ¬ IsPlace s.torrent ask.piece ask.begin ask.length span)
      → IsCause dig s p BadRequest
  wrong_block : (piece begin : ℕ) (bytes : List ℕ) (rest : Stream) (b : BlockId) (tree : Facts)
      → Takes p.stream (Message (Piece piece begin bytes)) rest
      → IsRangeOf s.torrent piece begin (length bytes) b → Contains p.asked b
      → tree_of s b.file ≡ Some tree → IsWrong dig (value_at dig tree 0 b.block) bytes
      → IsCause dig s p WrongBlock
  unknown_root : (key : HashKey) (digests : List ℕ) (rest : Stream)
      → Takes p.stream (Message (Hashes key digests)) rest → IsUnknownRoot s key.root
      → IsCause dig s p UnknownRoot
  no_claim : (key : HashKey) (digests : List ℕ) (rest : Stream) (fault : ProofError)
      → Takes p.stream (Message (Hashes key digests)) rest → ¬ IsUnknownRoot s key.root
      → IsNoClaim key digests fault → fault ≢ OutOfMemory → IsCause dig s p (Proof fault)
  refused : (key : HashKey) (digests : List ℕ) (rest : Stream) (fault : ProofError) (tree : ℕ) (k : Facts)
      (claim : Claim) → Takes p.stream (Message (Hashes key digests)) rest → IsTreeOf s key.root tree k
      → IsClaimBy key digests claim → IsRefused dig k claim fault → fault ≢ OutOfMemory
      → IsCause dig s p (Proof fault)

abbrev pub ClosesPeer : Answer → Why → Type 0
ClosesPeer answer why = (out : Output) × (output_of answer ≡ Some out) × (out.close ≡ Some why)

-- A peer is closed only for what it sent.
abbrev pub StepClosesForCause : (List ℕ → List ℕ) → Type 0
StepClosesForCause dig = (old new : EngineState) (event : Event) (calls : EventCalls) (answer : Answer)
    → Step dig old event calls answer new → (why : Why) → ClosesPeer answer why
    → (key : PeerKey) × (place : ℕ) × (p : PeerState)
    × (event ≡ Next key) × IsPeer old key place p × IsCause dig old p why
