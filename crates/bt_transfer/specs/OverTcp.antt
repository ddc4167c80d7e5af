-- Peers over TCP. What a socket gives is some bytes, and it takes some: it is known by these alone.
use Rattle.std.specs.Prelude.{⊤, ℕ, List, Option}
use Rattle.bt_disk.specs.Conduct.{Conduct}
use Rattle.bt_machine.specs.State.{EngineView}
use Rattle.bt_session.specs.declared.peer_end.PeerEnd.{PeerEnd}
use Rattle.bt_sockets.specs.Link.{Dials}
use Rattle.bt_sockets.specs.Listener.{IsServed}
use Rattle.bt_sockets.specs.declared.listener.TheConstants.{SESSION_TURNS}
use Rattle.bt_transfer.specs.Turns.{LinkConduct, link_conduct}

-- what is known of links over TCP: how often one was dialled, how often that failed, and the bytes of its connections
abbrev pub tcp_conduct : LinkConduct Dials (Option (List ℕ)) (Option (List ℕ))
tcp_conduct =
    link_conduct (λ link. link.all) (λ link. link.failed) (λ link given taken. ⊤) (λ bytes. bytes) (λ bytes. bytes)

-- what is said of one connection: of the engine before, the peer's end and the engine afterwards
abbrev pub Meeting : (D : Type 0) → Type 1
Meeting D = EngineView D → PeerEnd → EngineView D → Type 0

-- a connection is served
abbrev pub MeetsOverTcp : {D : Type 0} → Conduct D → (List ℕ → List ℕ)
    → Meeting D
MeetsOverTcp conduct dig old end new =
    IsServed conduct dig (λ given taken. ⊤) (λ bytes. bytes) (λ bytes. bytes) SESSION_TURNS
    old end new
