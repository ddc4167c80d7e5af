-- The figures of the standard that contracts cite.
use Rattle.std.specs.Prelude.{ℕ}

-- how many bytes of a handshake are reserved (BEP 3)
abbrev pub reserved_length : ℕ
reserved_length = 8

-- how many bytes an infohash and a peer's id have in a handshake (BEP 3)
abbrev pub id_length : ℕ
id_length = 20

-- the kind of a request (BEP 3)
abbrev pub request_kind : ℕ
request_kind = 6

-- the kind of a piece, which carries bytes of one (BEP 3)
abbrev pub piece_kind : ℕ
piece_kind = 7
