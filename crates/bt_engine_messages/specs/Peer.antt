-- What a plain value tells of an engine's peer.
use Rattle.std.specs.Prelude.{◌≡◌, ℕ, List, Some, slice_get, length}
use Rattle.bt_meta.specs.Torrent.{Metainfo, total_pieces}
use Rattle.bt_machine.specs.State.{PeerState}
use Rattle.bt_engine_state.specs.declared.peer.Peer.{Peer}

-- the engine's peer, with the flags, pieces and hash state of a plain one
abbrev pub as_told : PeerState → Peer → PeerState
as_told p plain = record p {
  am_choking = plain.am_choking;
  am_interested = plain.am_interested;
  peer_choking = plain.peer_choking;
  peer_interested = plain.peer_interested;
  has = plain.has;
  hash = plain.hash;
}

-- the plain peer says what the engine knows of its peer
abbrev pub IsPeerOf : PeerState → Peer → Type 0
IsPeerOf p plain = p ≡ as_told p plain

-- of each piece of the torrent it is known whether the peer at i has it
abbrev pub KnowsPieces : Metainfo → List Peer → ℕ → Type 0
KnowsPieces torrent peers i =
    (p : Peer) → slice_get peers i ≡ Some p → length p.has ≡ total_pieces torrent
