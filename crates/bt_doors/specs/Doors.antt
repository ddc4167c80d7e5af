-- How connections come to a gate.
use Rattle.std.specs.Prelude.{◌≡◌, ◌≤◌, ◌⊎◌, ℕ, Bool, true, List, replicate}
use Rattle.bt_session.specs.declared.peer_end.PeerEnd.{PeerEnd}
use Rattle.bt_session.specs.declared.peer_end.PeerEnd.TheVariants.{Untried}

-- a socket at which connections are waited for: how many get a place in all, how many did, and whether none can
-- be taken any more
pub record ListeningState : Type 0 where
  pub most : ℕ
  pub taken : ℕ
  pub has_failed : Bool

-- all got a place, or none can be taken
abbrev pub HasClosed : ListeningState → Type 0
HasClosed l = (l.taken ≡ l.most) ⊎ (l.has_failed ≡ true)

-- peers that are dialled: how many there are, with how many that has begun, with how many it goes on, how many got a
-- place, and how it ended with each
pub record DiallingState : Type 0 where
  pub peers : ℕ
  pub begun : ℕ
  pub pending : ℕ
  pub given : ℕ
  pub ends : List PeerEnd

-- nobody was dialled yet
abbrev pub undialled : ℕ → DiallingState
undialled peers = record { peers = peers; begun = 0; pending = 0; given = 0; ends = replicate peers Untried }

-- all were dialled, and none is
abbrev pub HasDialledAll : DiallingState → Type 0
HasDialledAll d = (d.peers ≤ d.begun) × (d.pending ≡ 0)
