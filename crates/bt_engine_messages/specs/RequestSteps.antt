-- How a span is read from the store of its file.
use Rattle.std.specs.Prelude.{◌≡◌, ◌<◌, ℕ, false, length, List, Some, slice_get, vec_len}
use Rattle.bt_disk.specs.Conduct.{Conduct}
use Rattle.bt_meta.specs.Place.{IsPlace}
use Rattle.bt_meta.specs.declared.torrent.Span.{Span}
use Rattle.bt_sparse.specs.SparseTree.{Facts}
use Rattle.bt_store.specs.FileStore.{StoreView}
use Rattle.bt_wire.specs.declared.message.Ask.{Ask}
use Rattle.bt_machine.specs.Request.{AreMarked}
use Rattle.bt_machine.specs.Shape.{IsShaped}
use Rattle.bt_machine.specs.Spans.{spanned_blocks}
use Rattle.bt_engine_state.specs.Parts.{state_of}
use Rattle.bt_engine_state.specs.Ties.{IsTied}
use Rattle.bt_engine_state.specs.declared.peer.Peer.{Peer}
use Rattle.bt_engine_state.specs.declared.slot.Slot.{Slot}
use Rattle.bt_engine_state.specs.declared.parts.Parts.{Parts}
use Rattle.bt_engine_messages.specs.SlotSteps.{HasStore, ChangesStore}
use Rattle.bt_engine_messages.specs.declared.serving.ReadFault.{ReadFault}
use Rattle.bt_engine_messages.specs.ServingSteps.{IsMarkedSpan, SendsSpan, StopAtFault}

-- A request that is looked at: we do not choke the peer at i, and the blocks of the range are marked.
pub record IsLookedAt {D H : Type 0} (old : Parts D H) (i : ℕ) (ask : Ask) (span : Span) : Type 0 where
  pub peer : Peer
  pub tied : IsTied old
  pub shaped : IsShaped old.torrent (state_of old)
  pub inside : i < vec_len old.peers
  pub there : i < length old.peers.items
  pub here : slice_get old.peers.items i ≡ Some peer
  pub open_to : peer.am_choking ≡ false
  pub place : IsPlace old.torrent ask.piece ask.begin ask.length span
  pub are : AreMarked (state_of old) span

-- the blocks of the span are marked in the store of its file
pub record CanRead {D H : Type 0} (slots : List (Slot D H)) (trees : List Facts) (span : Span) : Type 0 where
  pub slot : Slot D H
  pub store : StoreView D
  pub tree : Facts
  pub has_store : HasStore slots trees span.file slot store tree
  pub marked : IsMarkedSpan store.states span

-- they were read there and are right, and these bytes are cut from them
pub record SendsFromSlot {D H : Type 0} (conduct : Conduct D)
    (dig : List ℕ → List ℕ) (old : List (Slot D H)) (trees : List Facts) (span : Span) (bytes : List ℕ)
    (new : List (Slot D H)) : Type 0 where
  pub before : StoreView D
  pub after : StoreView D
  pub tree : Facts
  pub changes : ChangesStore trees span.file old before after tree new
  pub marked : IsMarkedSpan before.states span
  pub sends : SendsSpan conduct dig tree span bytes before after

-- they were read there up to the first that is not right
pub record StopsInSlot {D H : Type 0} (conduct : Conduct D)
    (dig : List ℕ → List ℕ) (old : List (Slot D H)) (trees : List Facts) (span : Span) (found : ReadFault)
    (new : List (Slot D H)) : Type 0 where
  pub before : StoreView D
  pub after : StoreView D
  pub tree : Facts
  pub changes : ChangesStore trees span.file old before after tree new
  pub marked : IsMarkedSpan before.states span
  pub stops : StopAtFault conduct dig tree (spanned_blocks span) found before after
