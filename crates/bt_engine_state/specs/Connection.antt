-- A peer that is connected.
use Rattle.std.specs.Prelude.{◌≡◌, ℕ, ◌+◌, ◌<◌, length, true, false, Bool, List, ◌++◌, ◌∷◌, [], Result, Ok, Err}
use Rattle.bt_book.specs.Book.{max_peers}
use Rattle.bt_book.specs.declared.names.PeerKey.{PeerKey}
use Rattle.bt_wire.specs.Cutter.{new_stream}
use Rattle.bt_machine.specs.declared.error.ConnectError.{ConnectError}
use Rattle.bt_machine.specs.declared.hash_state.HashState.TheVariants.{Idle}
use Rattle.bt_machine.specs.State.{EngineState}
use Rattle.bt_machine.specs.Output.{Output}
use Rattle.bt_machine.specs.Peers.{new_peer, greeting, key_limit}
use Rattle.bt_engine_state.specs.declared.peer.Peer.{Peer}

-- a peer that has just come, and has these pieces
abbrev pub peer_with : PeerKey → List Bool → Peer
peer_with key has = record {
  key = key;
  cutter = new_stream;
  am_choking = true;
  am_interested = false;
  peer_choking = true;
  peer_interested = false;
  has = has;
  hash = Idle;
  payload = 0;
}

-- there was room, and a new peer has the next key; nothing else changed
pub record HasJoined (s : EngineState) (key : PeerKey) (new : EngineState) : Type 0 where
  pub room : length s.peers < max_peers
  pub left : s.next_key < key_limit
  pub next : key.0 ≡ s.next_key
  pub after : new ≡ record s { peers = s.peers ++ new_peer s key ∷ []; next_key = s.next_key + 1 }

-- the machine's answer, where the new peer is sent a bitfield of these bytes
abbrev pub greeted : EngineState → Result (PeerKey × List ℕ) ConnectError
    → Result (PeerKey × Output) ConnectError
greeted s (Ok joined) = Ok (joined.0, greeting s joined.0 joined.1)
greeted s (Err error) = Err error
