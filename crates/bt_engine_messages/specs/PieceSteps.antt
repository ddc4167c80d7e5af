-- How a block that comes is put into the store of its file.
use Rattle.std.specs.Prelude.{[], ◌≡◌, ◌↔◌, ℕ, List, Some, slice_get, Contains, Result, Ok, Err, ⊤}
use Rattle.bt_disk.specs.Conduct.{Conduct}
use Rattle.bt_disk.specs.Calls.{HasCalls}
use Rattle.bt_meta.specs.Files.{File}
use Rattle.bt_meta.specs.Torrent.{Metainfo}
use Rattle.bt_sparse.specs.SparseTree.{Facts}
use Rattle.bt_book.specs.Book.{BookState, IsPair}
use Rattle.bt_book.specs.Choking.{IsAscending}
use Rattle.bt_book.specs.declared.names.BlockId.{BlockId}
use Rattle.bt_book.specs.declared.names.PeerKey.{PeerKey}
use Rattle.bt_wire.specs.declared.message.Ask.{Ask}
use Rattle.bt_store.specs.FileStore.{StoreView}
use Rattle.bt_store.specs.Arrival.{IsBlock, PutIsDue, calls_of_put, states_after_put}
use Rattle.bt_store.specs.declared.block_states.BlockState.{BlockState}
use Rattle.bt_store.specs.declared.block_states.BlockState.TheVariants.{Missing, Waiting, Marked}
use Rattle.bt_store.specs.declared.error.StoreError.{StoreError}
use Rattle.bt_store.specs.declared.error.StoreError.TheVariants.{Range}
use Rattle.bt_store.specs.declared.arrival.Put.{Put}
use Rattle.bt_store.specs.declared.arrival.Put.TheVariants.{Already, Marked as PutMarked, Waiting as PutWaiting}
use Rattle.bt_machine.specs.State.{PeerState}
use Rattle.bt_machine.specs.Devices.{DeviceCalls, HaveCalls}
use Rattle.bt_machine.specs.Arrival.{Puts}
use Rattle.bt_engine_state.specs.Parts.{state_of, disks_of}
use Rattle.bt_engine_state.specs.declared.slot.Slot.{Slot}
use Rattle.bt_engine_state.specs.declared.parts.Parts.{Parts}
use Rattle.bt_engine_messages.specs.SlotSteps.{HasStore, ChangesStore}
use Rattle.bt_engine_messages.specs.Outcome.{effect_of, cancels_to}
use Rattle.bt_engine_messages.specs.declared.outcome.Outcome.{Outcome}

-- these are all bytes of a block of the torrent
abbrev pub IsBlockOf : Metainfo → BlockId → List ℕ → Type 0
IsBlockOf torrent b bytes =
    (file : File) → slice_get torrent.files b.file ≡ Some file → IsBlock file.length b.block bytes

-- an answer for a missing block of which all bytes came
abbrev pub IsOfMissing : Result Put StoreError → Type 0
IsOfMissing (Ok Already) = ⊥
IsOfMissing (Err Range) = ⊥
IsOfMissing _ = ⊤

-- the state of such a block then
abbrev pub state_after : Result Put StoreError → BlockState
state_after (Ok PutMarked) = Marked
state_after (Ok PutWaiting) = Waiting
state_after _ = Missing

-- the block is missing in the store of its file, and these are all its bytes
pub record CanPut {D H : Type 0} (slots : List (Slot D H)) (trees : List Facts) (b : BlockId) (bytes : List ℕ)
    : Type 0 where
  pub slot : Slot D H
  pub store : StoreView D
  pub tree : Facts
  pub has_store : HasStore slots trees b.file slot store tree
  pub missing : slice_get store.states b.block ≡ Some Missing
  pub whole : IsBlock store.file_length b.block bytes

-- it was put there, and this was the store's answer
pub record PutsInSlot {D H : Type 0} (conduct : Conduct D)
    (dig : List ℕ → List ℕ) (old : List (Slot D H)) (trees : List Facts) (b : BlockId) (bytes : List ℕ)
    (answer : Result Put StoreError) (new : List (Slot D H)) : Type 0 where
  pub before : StoreView D
  pub after : StoreView D
  pub tree : Facts
  pub changes : ChangesStore trees b.file old before after tree new
  pub of_missing : IsOfMissing answer
  pub due : PutIsDue dig tree b.block bytes before.states answer
  pub states : after.states ≡ states_after_put b.block answer before.states
  pub made : HasCalls conduct before.disk (calls_of_put b.block bytes answer) after.disk

-- the keys of the peers that are asked for the block, in their order
pub record AreAskers (book : BookState) (b : BlockId) (keys : List PeerKey) : Type 0 where
  pub ascending : IsAscending keys
  pub exact : (key : PeerKey) → Contains keys key ↔ IsPair book key b

-- The machine puts it there by these calls, with the effect of this outcome, whoever sent it. These peers were
-- asked for it.
pub record PutsBlock {D H : Type 0} (conduct : Conduct D)
    (dig : List ℕ → List ℕ) (old : Parts D H) (b : BlockId) (ask : Ask) (bytes : List ℕ) (outcome : Outcome)
    (new : Parts D H) : Type 0 where
  pub others : List PeerKey
  pub calls : DeviceCalls
  pub askers : AreAskers old.book b others
  pub made : HaveCalls conduct (disks_of old) calls (disks_of new)
  pub puts : (p : PeerState) → Puts dig (state_of old) b bytes (cancels_to ask others) calls
      (effect_of p outcome []) (state_of new)
