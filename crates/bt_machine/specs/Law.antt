-- What follows from the steps of an engine, whatever the peers send and the devices answer.
use Rattle.std.specs.Prelude.{[], ◌≡◌, ◌≢◌, ℕ, ◌+◌, ◌*◌, ◌<◌, ◌≤◌, ◌⊎◌, List, ◌∷◌, ◌++◌, true, false, length, Some, None, Ok, Err, slice_get, Contains}
use Rattle.bt_tree.specs.Limits.{full_block_length}
use Rattle.bt_disk.specs.Calls.{bytes_written}
use Rattle.bt_sparse.specs.SparseTree.{Facts, blocks_of, held_at, IsRooted, IsChecked}
use Rattle.bt_sparse.specs.Acceptance.{Accepts}
use Rattle.bt_sparse.specs.declared.claim.Claim.{Claim}
use Rattle.bt_hashreq.specs.Claim.{IsClaimBy}
use Rattle.bt_hashreq.specs.declared.key.HashKey.{HashKey}
use Rattle.bt_store.specs.BlockReads.{given, call_of, IsRight}
use Rattle.bt_store.specs.declared.block_states.BlockState.TheVariants.{Waiting, Marked}
use Rattle.bt_book.specs.declared.names.PeerKey.{PeerKey}
use Rattle.bt_book.specs.declared.names.BlockId.{BlockId}
use Rattle.bt_wire.specs.Cutter.{Stream, Takes}
use Rattle.bt_wire.specs.declared.message.Message.TheVariants.{Piece, Request, Hashes}
use Rattle.bt_wire.specs.declared.event.WireEvent.TheVariants.{Message}
use Rattle.bt_wire.specs.declared.message.Ask.{Ask}
use Rattle.bt_meta.specs.Place.{IsPlace}
use Rattle.bt_meta.specs.Torrent.{Metainfo, IsLawful}
use Rattle.bt_meta.specs.declared.torrent.Span.{Span}
use Rattle.bt_machine.specs.declared.answer.Frame.TheVariants.{Message as message_frame}
use Rattle.bt_machine.specs.Output.{Sent}
use Rattle.bt_machine.specs.declared.event.Event.{Event}
use Rattle.bt_machine.specs.declared.event.Event.TheVariants.{Next, Adopt, Restart}
use Rattle.bt_machine.specs.State.{PeerState, FileState, EngineState, Hint}
use Rattle.bt_machine.specs.Hints.{is_recorded}
use Rattle.bt_machine.specs.Devices.{DeviceCalls}
use Rattle.bt_machine.specs.LogCalls.{EventCalls}
use Rattle.bt_machine.specs.Blocks.{state_at, tree_of}
use Rattle.bt_machine.specs.Spans.{IsRangeOf, spanned_blocks, cut_from}
use Rattle.bt_machine.specs.Next.{IsPeer}
use Rattle.bt_machine.specs.declared.event.Answer.{Answer}
use Rattle.bt_machine.specs.declared.event.Answer.TheVariants.{Connected, Fed, Stepped, Lost as LostAnswer, Rechoked, Adopted as AdoptedAnswer, Flushed, Restarted}
use Rattle.bt_machine.specs.Opening.{StartsWith, Begins}
use Rattle.bt_machine.specs.Step.{Step, Run}

-- ---- trees

-- every tree hangs from its root
abbrev pub AreRooted : (List ℕ → List ℕ) → EngineState → Type 0
AreRooted dig s = (t : ℕ) (k : Facts) → slice_get s.trees t ≡ Some k → IsRooted dig k

-- every tree of an engine that begins with a lawful torrent hangs from its root
abbrev pub StartsRooted : (List ℕ → List ℕ) → Type 0
StartsRooted dig = (torrent : Metainfo) (first : EngineState)
    → IsLawful torrent.piece_length torrent.files → Begins dig torrent first → AreRooted dig first

-- each event keeps every tree hanging from its root, where the torrent is lawful
abbrev pub StepKeepsRooted : (List ℕ → List ℕ) → Type 0
StepKeepsRooted dig = (old new : EngineState) (event : Event) (calls : EventCalls) (answer : Answer)
    → IsLawful old.torrent.piece_length old.torrent.files
    → Step dig old event calls answer new → AreRooted dig old → AreRooted dig new

-- every digest that a tree holds lies on a checked path to its root
abbrev pub AreChecked : (List ℕ → List ℕ) → EngineState → Type 0
AreChecked dig s = (t : ℕ) (k : Facts) → slice_get s.trees t ≡ Some k
    → (layer i : ℕ) (d : List ℕ) → held_at k layer i ≡ Some d → IsChecked dig k layer i d

-- In every engine that events lead to from the start of a lawful torrent each tree hangs from its root, and every
-- digest that it holds is checked.
abbrev pub RunsAreChecked : (List ℕ → List ℕ) → Type 0
RunsAreChecked dig = (torrent : Metainfo) (first last : EngineState)
    (events : List Event) (calls : List EventCalls) (answers : List Answer)
    → IsLawful torrent.piece_length torrent.files → Begins dig torrent first
    → Run dig first events calls answers last → AreRooted dig last × AreChecked dig last

-- Right bytes of a block lie on a checked path too: their digest is that of the leaf.
abbrev pub RightIsChecked : (List ℕ → List ℕ) → Type 0
RightIsChecked dig = (k : Facts) (i : ℕ) (bytes : List ℕ) → IsRooted dig k → i < blocks_of k
    → IsRight dig k i bytes → IsChecked dig k 0 i (dig bytes)

-- ---- marks

-- A block came in this event from a peer that was asked for it, and was written, by the one call of a device
-- in this event. Its digest is the leaf that
-- its tree has after the event.
pub record IsBrought (dig : List ℕ → List ℕ) (old : EngineState) (event : Event) (calls : DeviceCalls)
    (new : EngineState) (b : BlockId) : Type 0 where
  pub key : PeerKey
  pub place : ℕ
  pub peer : PeerState
  pub piece : ℕ
  pub begin : ℕ
  pub bytes : List ℕ
  pub rest : Stream
  pub tree : Facts
  pub is_next : event ≡ Next key
  pub is_peer : IsPeer old key place peer
  pub takes : Takes peer.stream (Message (Piece piece begin bytes)) rest
  pub whole : IsRangeOf old.torrent piece begin (length bytes) b
  pub asked : Contains peer.asked b
  pub has_tree : tree_of new b.file ≡ Some tree
  pub written : calls ≡ (b.file, bytes_written (full_block_length * b.block) bytes) ∷ []
  pub right : IsRight dig tree b.block bytes

-- This event told the leaf of a block: a peer sent a run of leaves with it, and the tree of the block's file,
-- whose root they name, accepted them, and is this one then.
pub record TellsLeaf (dig : List ℕ → List ℕ) (old : EngineState) (event : Event) (b : BlockId) (tree : Facts)
    : Type 0 where
  pub key : PeerKey
  pub place : ℕ
  pub peer : PeerState
  pub run : HashKey
  pub digests : List ℕ
  pub rest : Stream
  pub before : Facts
  pub claim : Claim
  pub is_next : event ≡ Next key
  pub is_peer : IsPeer old key place peer
  pub takes : Takes peer.stream (Message (Hashes run digests)) rest
  pub of_leaves : run.base ≡ 0
  pub from : run.index ≤ b.block
  pub below : b.block < run.index + run.length
  pub has_tree : tree_of old b.file ≡ Some before
  pub same_root : before.root ≡ run.root
  pub claims : IsClaimBy run digests claim
  pub accepts : Accepts dig before claim tree

-- This event takes in another file, which has the tree of the block's file.
pub record AdoptsTwin (old : EngineState) (event : Event) (b : BlockId) : Type 0 where
  pub other : ℕ
  pub twin : FileState
  pub own : FileState
  pub is_adopt : event ≡ Adopt other
  pub apart : other ≢ b.file
  pub twin_here : slice_get old.files other ≡ Some twin
  pub own_here : slice_get old.files b.file ≡ Some own
  pub one_tree : own.tree ≡ twin.tree

-- A block that waited was read in this event, which told its leaf or took in another file of its tree. Its
-- digest is the leaf that its tree has after the event.
pub record IsReadBack (dig : List ℕ → List ℕ) (old : EngineState) (event : Event) (calls : DeviceCalls)
    (new : EngineState) (b : BlockId) : Type 0 where
  pub tree : Facts
  pub bytes : List ℕ
  pub waited : state_at old b ≡ Some Waiting
  pub due : TellsLeaf dig old event b tree ⊎ AdoptsTwin old event b
  pub has_tree : tree_of new b.file ≡ Some tree
  pub read : Contains calls (b.file, call_of tree.file_length (given b.block bytes))
  pub right : IsRight dig tree b.block bytes

-- A block of the file that this event takes in was read in it. Its digest is the leaf that its tree has after
-- the event.
pub record IsFound (dig : List ℕ → List ℕ) (event : Event) (calls : DeviceCalls) (new : EngineState)
    (b : BlockId) : Type 0 where
  pub tree : Facts
  pub bytes : List ℕ
  pub is_adopt : event ≡ Adopt b.file
  pub has_tree : tree_of new b.file ≡ Some tree
  pub read : Contains calls (b.file, call_of tree.file_length (given b.block bytes))
  pub right : IsRight dig tree b.block bytes

-- A block that the log records was read as all was begun anew from it. Its digest is the leaf that its tree
-- has then.
pub record IsRecovered (dig : List ℕ → List ℕ) (calls : DeviceCalls) (new : EngineState) (b : BlockId)
    : Type 0 where
  pub tree : Facts
  pub bytes : List ℕ
  pub recorded : is_recorded new.hints b ≡ true
  pub has_tree : tree_of new b.file ≡ Some tree
  pub read : Contains calls (b.file, call_of tree.file_length (given b.block bytes))
  pub right : IsRight dig tree b.block bytes

-- how a block becomes marked
pub data IsMarkedBy (dig : List ℕ → List ℕ) (old : EngineState) (event : Event) (calls : DeviceCalls)
    (new : EngineState) (b : BlockId) : Type 0 where
  brought : IsBrought dig old event calls new b → IsMarkedBy dig old event calls new b
  read_back : IsReadBack dig old event calls new b → IsMarkedBy dig old event calls new b
  found : IsFound dig event calls new b → IsMarkedBy dig old event calls new b
  recovered : event ≡ Restart → IsRecovered dig calls new b → IsMarkedBy dig old event calls new b

-- a block becomes marked over an event in one of these ways alone
abbrev pub StepMarksByBytes : (List ℕ → List ℕ) → Type 0
StepMarksByBytes dig = (old new : EngineState) (event : Event) (calls : EventCalls) (answer : Answer)
    → Step dig old event calls answer new
    → (b : BlockId) → state_at new b ≡ Some Marked → state_at old b ≢ Some Marked
    → IsMarkedBy dig old event calls.devices new b

-- each block that is marked when an engine is started with a log was read then
abbrev pub StartMarksByBytes : (List ℕ → List ℕ) → Type 0
StartMarksByBytes dig = (torrent : Metainfo) (hints : List Hint) (calls : DeviceCalls) (new : EngineState)
    → StartsWith dig torrent hints calls new → (b : BlockId) → state_at new b ≡ Some Marked
    → IsRecovered dig calls new b

-- Each block that is marked after a restart that answered Ok was read in that restart, whatever it was before.
abbrev pub RestartMarksByBytes : (List ℕ → List ℕ) → Type 0
RestartMarksByBytes dig = (old new : EngineState) (calls : EventCalls)
    → Step dig old Restart calls (Restarted (Ok tt)) new → (b : BlockId) → state_at new b ≡ Some Marked
    → IsRecovered dig calls.devices new b

-- Of a run that answers so, at the event of this one answer: this is so of the step there, of the engine
-- before it, the event, the calls of devices and the engine after it. The run came to it with the answers
-- before, and goes on from it with those after.
pub record IsSoAt (dig : List ℕ → List ℕ) (first : EngineState) (events : List Event)
    (calls : List EventCalls) (before : List Answer) (answer : Answer) (after : List Answer)
    (last : EngineState) (P : EngineState → Event → DeviceCalls → EngineState → Type 0) : Type 0 where
  pub events_before : List Event
  pub calls_before : List EventCalls
  pub old : EngineState
  pub event : Event
  pub calls_then : EventCalls
  pub new : EngineState
  pub events_after : List Event
  pub calls_after : List EventCalls
  pub events_are : events ≡ events_before ++ event ∷ events_after
  pub calls_are : calls ≡ calls_before ++ calls_then ∷ calls_after
  pub run : Run dig first events_before calls_before before old
  pub step : Step dig old event calls_then answer new
  pub goes_on : Run dig new events_after calls_after after last
  pub is_so : P old event calls_then.devices new

-- the block became marked at one of the events of a run
pub record IsMarkedIn (dig : List ℕ → List ℕ) (first : EngineState) (events : List Event)
    (calls : List EventCalls) (answers : List Answer) (last : EngineState) (b : BlockId) : Type 0 where
  pub before : List Answer
  pub answer : Answer
  pub after : List Answer
  pub answers_are : answers ≡ before ++ answer ∷ after
  pub marked : IsSoAt dig first events calls before answer after last
      (λ old event calls_then new. IsMarkedBy dig old event calls_then new b)

abbrev pub RunMarksByBytes : (List ℕ → List ℕ) → Type 0
RunMarksByBytes dig =
    (old new : EngineState) (events : List Event) (calls : List EventCalls) (answers : List Answer)
    → Run dig old events calls answers new
    → (b : BlockId) → state_at new b ≡ Some Marked → state_at old b ≢ Some Marked
    → IsMarkedIn dig old events calls answers new b

-- ---- data

-- what an answer sends
abbrev pub sent_by : Answer → List Sent
sent_by (Connected (Ok joined)) = joined.1.send
sent_by (Connected (Err _)) = []
sent_by (Fed _) = []
sent_by (Stepped (Ok (Some out))) = out.send
sent_by (Stepped (Ok None)) = []
sent_by (Stepped (Err _)) = []
sent_by (LostAnswer _) = []
sent_by (Rechoked (Ok out)) = out.send
sent_by (Rechoked (Err _)) = []
sent_by (AdoptedAnswer _) = []
sent_by (Flushed _) = []
sent_by (Restarted _) = []

-- A peer that we do not choke asked for bytes of a piece in this event. Each block that they lie in was read
-- in it, whole and with the digest of its leaf, and these are the bytes asked for, cut from the blocks.
pub record IsServed (dig : List ℕ → List ℕ) (old : EngineState) (event : Event) (calls : DeviceCalls)
    (key : PeerKey) (piece begin : ℕ) (bytes : List ℕ) : Type 0 where
  pub place : ℕ
  pub peer : PeerState
  pub ask : Ask
  pub rest : Stream
  pub span : Span
  pub tree : Facts
  pub blocks : ℕ → List ℕ
  pub is_next : event ≡ Next key
  pub is_peer : IsPeer old key place peer
  pub takes : Takes peer.stream (Message (Request ask)) rest
  pub unchoked : peer.am_choking ≡ false
  pub same_piece : ask.piece ≡ piece
  pub same_begin : ask.begin ≡ begin
  pub spans : IsPlace old.torrent ask.piece ask.begin ask.length span
  pub has_tree : tree_of old span.file ≡ Some tree
  pub read : (i : ℕ) → Contains (spanned_blocks span) i
      → Contains calls (span.file, call_of tree.file_length (given i (blocks i)))
  pub right : (i : ℕ) → Contains (spanned_blocks span) i → IsRight dig tree i (blocks i)
  pub cut : bytes ≡ cut_from span blocks

-- No other data is sent: what any answer of a run sends was read at its own event.
abbrev pub RunSendsReadBytes : (List ℕ → List ℕ) → Type 0
RunSendsReadBytes dig = (old new : EngineState) (events : List Event) (calls : List EventCalls)
    (before : List Answer) (answer : Answer) (after : List Answer)
    → Run dig old events calls (before ++ answer ∷ after) new
    → (key : PeerKey) (piece begin : ℕ) (bytes : List ℕ)
    → Contains (sent_by answer) (key, message_frame (Piece piece begin bytes))
    → IsSoAt dig old events calls before answer after new
    (λ old event calls_then new. IsServed dig old event calls_then key piece begin bytes)
