-- What a peer that comes is sent.
use Rattle.std.specs.Prelude.{[], ◌≡◌, ℕ, ◌≤◌, List, vec_capacity}
use Rattle.std.specs.Global.{Vec}
use Rattle.bt_meta.specs.Torrent.{Metainfo}
use Rattle.bt_book.specs.declared.names.PeerKey.{PeerKey}
use Rattle.bt_machine.specs.State.{EngineState}
use Rattle.bt_machine.specs.Output.{Sent, Output}
use Rattle.bt_machine.specs.Peers.{greeting}

-- nothing is in the list, and there is room for two frames
pub record HasTwo (send : Vec Sent) : Type 0 where
  pub nothing : send.items ≡ []
  pub room : 2 ≤ vec_capacity send

-- what an engine of the torrent greets the peer with
abbrev pub IsGreeting : Metainfo → PeerKey → List ℕ → Output → Type 0
IsGreeting torrent key bytes out = (s : EngineState) → s.torrent ≡ torrent → out ≡ greeting s key bytes
