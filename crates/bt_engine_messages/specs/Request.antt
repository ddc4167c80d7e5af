-- Which requests for a range of a piece are served.
use Rattle.std.specs.Prelude.{◌≡◌, ℕ, false, Some, slice_get}
use Rattle.bt_meta.specs.Place.{IsPlace}
use Rattle.bt_meta.specs.declared.torrent.Span.{Span}
use Rattle.bt_wire.specs.declared.message.Ask.{Ask}
use Rattle.bt_machine.specs.State.{PeerState, EngineState}
use Rattle.bt_machine.specs.Request.{AreMarked}

-- The request of the peer at i is one to serve, and not one that is ignored or closes the peer (BEP 3): we do
-- not choke the peer, the range lies in one file, and its blocks are marked.
pub record IsToServe (s : EngineState) (i : ℕ) (ask : Ask) : Type 0 where
  pub open_to : (p : PeerState) → slice_get s.peers i ≡ Some p → p.am_choking ≡ false
  pub span : Span
  pub place : IsPlace s.torrent ask.piece ask.begin ask.length span
  pub marked : AreMarked s span
