-- How a handshake is spelled (BEP 3, "handshake").
use Rattle.std.specs.Prelude.{◌≡◌, ℕ, List, ◌∷◌, ◌++◌, length, replicate, codes}
use Rattle.bt_wire.specs.Limits.{reserved_length, id_length}
use Rattle.bt_wire.specs.declared.handshake.Handshake.{Handshake}

-- the length of the protocol's name, and the name
abbrev pub protocol : List ℕ
protocol = 19 ∷ codes "BitTorrent protocol"

-- the bytes of a handshake: the protocol, the reserved bytes, the infohash, the peer's id
abbrev pub handshake_with : List ℕ → Handshake → List ℕ
handshake_with reserved h = protocol ++ reserved ++ h.infohash ++ h.peer_id

-- the bytes of a handshake whose reserved bytes are zero
abbrev pub handshake_spelling : Handshake → List ℕ
handshake_spelling h = handshake_with (replicate reserved_length 0) h

-- an infohash and a peer's id have their length, as in memory
pub record IsHandshake (h : Handshake) : Type 0 where
  pub infohash : length h.infohash ≡ id_length
  pub peer_id : length h.peer_id ≡ id_length
