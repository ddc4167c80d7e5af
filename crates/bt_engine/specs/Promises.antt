-- What is promised of every list of events, whatever peers send and devices answer.
use Rattle.std.specs.Prelude.{[], ◌≡◌, ◌≢◌, ℕ, List, ◌∷◌, ◌++◌, flat_map, Some, slice_get, Contains}
use Rattle.bt_disk.specs.Conduct.{Conduct}
use Rattle.bt_meta.specs.Files.{File}
use Rattle.bt_sparse.specs.SparseTree.{Facts, IsChecked}
use Rattle.bt_store.specs.declared.block_states.BlockState.TheVariants.{Marked}
use Rattle.bt_book.specs.declared.names.PeerKey.{PeerKey}
use Rattle.bt_book.specs.declared.names.BlockId.{BlockId}
use Rattle.bt_wire.specs.declared.message.Message.TheVariants.{Piece}
use Rattle.bt_machine.specs.declared.answer.Frame.TheVariants.{Message}
use Rattle.bt_machine.specs.declared.event.Event.{Event}
use Rattle.bt_machine.specs.declared.event.Answer.{Answer}
use Rattle.bt_machine.specs.State.{EngineState, EngineView}
use Rattle.bt_machine.specs.Devices.{DeviceCalls}
use Rattle.bt_machine.specs.LogCalls.{EventCalls, HaveLogCalls}
use Rattle.bt_machine.specs.Blocks.{block_id, state_at, tree_of}
use Rattle.bt_machine.specs.Headline.{IsComplete, IsPublished}
use Rattle.bt_machine.specs.Law.{IsMarkedBy, IsServed, IsSoAt, brought, read_back, found, recovered, sent_by}
use Rattle.bt_machine.specs.Spans.{spanned_blocks}
use Rattle.bt_machine.specs.Sound.{RunOn}
use Rattle.bt_engine.specs.Flushes.{FlushesLoseNoBlock}

-- ---- marks

-- the bytes by which a block became marked
abbrev pub marking_bytes : {dig : List ℕ → List ℕ} {old : EngineState} {event : Event} {calls : DeviceCalls}
    {new : EngineState} {b : BlockId} → IsMarkedBy dig old event calls new b → List ℕ
marking_bytes (brought by) = by.bytes
marking_bytes (read_back by) = by.bytes
marking_bytes (found by) = by.bytes
marking_bytes (recovered is by) = by.bytes

-- The digest of these bytes lies at the block's leaf, on a checked path to the pieces root that the torrent has of its
-- file (BEP 52, "pieces root").
pub record IsOnCheckedPath (dig : List ℕ → List ℕ) (s : EngineState) (b : BlockId) (bytes : List ℕ) : Type 0
  where
    pub file : File
    pub listed : slice_get s.torrent.files b.file ≡ Some file
    pub tree : Facts
    pub has_tree : tree_of s b.file ≡ Some tree
    pub root : tree.root ≡ file.root
    pub path : IsChecked dig tree 0 b.block (dig bytes)

-- After these first answers of a run, the block is marked after each event that comes.
abbrev pub StaysMarked : (List ℕ → List ℕ) → EngineState → List Event → List EventCalls
    → (said after : List Answer) → EngineState → BlockId → Type 0
StaysMarked dig first events calls said after last b =
    (more : List Answer) (answer : Answer) (rest : List Answer) → after ≡ more ++ answer ∷ rest
    → IsSoAt dig first events calls (said ++ more) answer rest last
    (λ old event calls_then new. state_at new b ≡ Some Marked)

-- The block became marked at one of the events of a run, by bytes of that event, whose digest lies on a
-- checked path in the tree that the engine has after the event. From then on it stayed so.
pub record IsMarkedOnPath (dig : List ℕ → List ℕ) (first : EngineState) (events : List Event)
    (calls : List EventCalls) (answers : List Answer) (last : EngineState) (b : BlockId) : Type 0 where
  pub before : List Answer
  pub answer : Answer
  pub after : List Answer
  pub answers_are : answers ≡ before ++ answer ∷ after
  pub marked : IsSoAt dig first events calls before answer after last
      (λ old event calls_then new. (by : IsMarkedBy dig old event calls_then new b)
      × IsOnCheckedPath dig new b (marking_bytes by))
  pub stays : StaysMarked dig first events calls (before ++ answer ∷ []) after last b

-- so each block did that is marked after the events and was not before
abbrev pub MarksByBytes : (List ℕ → List ℕ) → EngineState → List Event → List EventCalls → List Answer
    → EngineState → Type 0
MarksByBytes dig old events calls answers new = (b : BlockId) → state_at new b ≡ Some Marked
    → state_at old b ≢ Some Marked → IsMarkedOnPath dig old events calls answers new b

-- ---- data

-- A peer asked for these bytes of a piece in this event, and they are cut from blocks that were read in it.
-- The digest of each block lies on a checked path.
pub record IsServedOnPath (dig : List ℕ → List ℕ) (s : EngineState) (event : Event) (calls : DeviceCalls)
    (key : PeerKey) (piece begin : ℕ) (bytes : List ℕ) : Type 0 where
  pub served : IsServed dig s event calls key piece begin bytes
  pub paths : (i : ℕ) → Contains (spanned_blocks served.span) i
      → IsOnCheckedPath dig s (block_id served.span.file i) (served.blocks i)

-- so all data is that an answer sends, at that answer's own event
abbrev pub SendsReadBytes : (List ℕ → List ℕ) → EngineState → List Event → List EventCalls → List Answer
    → EngineState → Type 0
SendsReadBytes dig old events calls answers new =
    (before : List Answer) (answer : Answer) (after : List Answer)
    → answers ≡ before ++ answer ∷ after → (key : PeerKey) (piece begin : ℕ) (bytes : List ℕ)
    → Contains (sent_by answer) (key, Message (Piece piece begin bytes))
    → IsSoAt dig old events calls before answer after new
    (λ s event calls_then next. IsServedOnPath dig s event calls_then key piece begin bytes)

-- ---- the run

-- The events led from one engine to the other, as the machine's steps do, by calls that were made of the
-- devices and of the log, and their answers stand after those before. By the bytes of these calls and of the
-- peers blocks are marked and data is sent; and what is marked at a flush that answers Ok, no later stop
-- loses, up to a restart.
pub record RunsAsPromised {D : Type 0} (conduct : Conduct D)
    (dig : List ℕ → List ℕ) (old : EngineView D) (events : List Event) (before after : List Answer)
    (new : EngineView D) : Type 0 where
  pub answers : List Answer
  pub behind : after ≡ before ++ answers
  pub calls : List EventCalls
  pub run : RunOn conduct dig old.state old.disks events calls answers new.state new.disks
  pub logged : HaveLogCalls conduct old.log (flat_map (λ c. c.log) calls) new.log
  pub marks : MarksByBytes dig old.state events calls answers new.state
  pub sends : SendsReadBytes dig old.state events calls answers new.state
  pub flushes : FlushesLoseNoBlock conduct dig old events calls answers new

-- ---- files and devices

-- Each file that is complete, on an honest device, has the torrent's length and root; so it equals each file
-- of that length and root, or at one place of their trees two different inputs have one digest.
abbrev pub ArePublished : {D : Type 0} → Conduct D → (List ℕ → List ℕ) → EngineView D
    → Type 0
ArePublished {D} conduct dig s = (number : ℕ) (file : File) (d : D)
    → IsComplete s.state.torrent s.state number file
    → slice_get s.disks number ≡ Some (Some d) → conduct.honest d
    → IsPublished dig file (conduct.history d).now.bytes
