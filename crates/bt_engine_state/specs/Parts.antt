-- What the parts of an engine tell of the machine's state, and of its devices.
use Rattle.std.specs.Prelude.{[], ◌≡◌, ◌≢◌, ℕ, ◌+◌, is_some, List, map, Option, Some, option_map, slice_get}
use Rattle.std.specs.Option.{option_map_or}
use Rattle.bt_book.specs.Book.{BookState, asked_of}
use Rattle.bt_book.specs.declared.names.PeerKey.{PeerKey}
use Rattle.bt_resume.specs.ResumeLog.{LogView}
use Rattle.bt_machine.specs.State.{EngineState, PeerState, FileState, Hint}
use Rattle.bt_engine_state.specs.declared.peer.Peer.{Peer}
use Rattle.bt_engine_state.specs.declared.open_log.OpenLog.{OpenLog}
use Rattle.bt_engine_state.specs.declared.slot.Slot.{Slot}
use Rattle.bt_engine_state.specs.declared.parts.Parts.{Parts}

-- the book says what a peer is asked for
abbrev pub peer_of : BookState → Peer → PeerState
peer_of book p = record {
  key = p.key;
  stream = p.cutter;
  am_choking = p.am_choking;
  am_interested = p.am_interested;
  peer_choking = p.peer_choking;
  peer_interested = p.peer_interested;
  has = p.has;
  hash = p.hash;
  asked = asked_of book p.key;
  payload = p.payload;
}

abbrev pub file_of : {D H : Type 0} → Slot D H → FileState
file_of slot = record {
  tree = slot.tree;
  states = option_map_or (λ store. store.states) slot.store [];
}

-- an empty file has no device
abbrev pub disk_of : {D H : Type 0} → Slot D H → Option D
disk_of slot = option_map (λ store. store.disk) slot.store

-- the hints that wait to be written to the log, and those that were last read from it
abbrev pub pending_of : {D : Type 0} → Option (OpenLog D) → List Hint
pending_of log = option_map_or (λ opened. opened.pending.hints) log []

abbrev pub hints_of : {D : Type 0} → Option (OpenLog D) → List Hint
hints_of log = option_map_or (λ opened. opened.log.hints) log []

abbrev pub state_of : {D H : Type 0} → Parts D H → EngineState
state_of parts = record {
  torrent = parts.torrent;
  trees = parts.trees.items;
  files = map file_of parts.slots.items;
  peers = map (peer_of parts.book) parts.peers.items;
  next_key = parts.last_key + 1;
  turn = parts.turn;
  logged = is_some parts.log;
  pending = pending_of parts.log;
  hints = hints_of parts.log;
}

-- the device of each file, in the torrent's order
abbrev pub disks_of : {D H : Type 0} → Parts D H → List (Option D)
disks_of parts = map disk_of parts.slots.items

-- its log, if it has one
abbrev pub log_of : {D H : Type 0} → Parts D H → Option (LogView D)
log_of parts = option_map (λ opened. opened.log) parts.log

-- the peer of this key stands at i
pub record IsPeerAt (peers : List Peer) (key : PeerKey) (i : ℕ) : Type 0 where
  pub peer : Peer
  pub here : slice_get peers i ≡ Some peer
  pub same_key : peer.key ≡ key

abbrev pub LacksPeer : List Peer → PeerKey → Type 0
LacksPeer peers key = (i : ℕ) (p : Peer) → slice_get peers i ≡ Some p → p.key ≢ key
