-- A connection that is served.
use Rattle.std.specs.Prelude.{ℕ, false, List, Ok, Option, IfSome}
use Rattle.bt_disk.specs.Conduct.{Conduct}
use Rattle.bt_machine.specs.State.{EngineView}
use Rattle.bt_session.specs.declared.flushing.Flushing.TheVariants.{Never}
use Rattle.bt_session.specs.declared.peer_end.PeerEnd.{PeerEnd}
use Rattle.bt_session.specs.Peer.{EndsAs}

-- It was ready for a session, which gave such a reader and writer, or was gone already, and ended as follows
-- from that. The session goes on after the last block too.
pub record IsServed {D R W : Type 0} (conduct : Conduct D)
    (dig : List ℕ → List ℕ) (gives : R → W → Type 0) (remaining : R → Option (List ℕ))
    (contents : W → Option (List ℕ)) (turns : ℕ) (old : EngineView D) (end : PeerEnd) (new : EngineView D)
    : Type 0 where
  pub reached : Option (R × W)
  pub given : IfSome reached (λ ways. gives ways.0 ways.1)
  pub ended : EndsAs conduct dig remaining contents false Never turns reached old end (Ok tt) new
