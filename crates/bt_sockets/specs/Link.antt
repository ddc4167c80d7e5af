-- A link over TCP.
use Rattle.std.specs.Prelude.{◌≡◌, ℕ, List}
use Rattle.bt_wire.specs.declared.message.Ask.{Ask}

-- the peer that it leads to, by the bytes of its host and a port; the short last blocks of the torrent for
-- which it is dialled, and how many pieces that has; how often it was dialled, and how often that failed
pub record Dials : Type 0 where
  pub host : List ℕ
  pub port : ℕ
  pub short_blocks : List Ask
  pub pieces : ℕ
  pub all : ℕ
  pub failed : ℕ

-- a link to a port of a host, which was not dialled
abbrev pub undialled : List ℕ → ℕ → List Ask → ℕ → Dials
undialled host port short_blocks pieces =
    record { host = host; port = port; short_blocks = short_blocks; pieces = pieces; all = 0; failed = 0 }

-- both lead to the same peer, for the same torrent
abbrev pub LeadToSamePeer : Dials → Dials → Type 0
LeadToSamePeer one other =
    (one.host ≡ other.host) × (one.port ≡ other.port) × (one.short_blocks ≡ other.short_blocks)
    × (one.pieces ≡ other.pieces)
