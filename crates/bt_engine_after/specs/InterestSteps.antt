-- Our interest in the peer that stands at a place.
use Rattle.std.specs.Prelude.{◌≡◌, ℕ, Option, Some, slice_get}
use Rattle.bt_wire.specs.declared.message.Message.{Message}
use Rattle.bt_machine.specs.State.{PeerState, EngineState}
use Rattle.bt_machine.specs.Blocks.{with_peer}
use Rattle.bt_machine.specs.FollowUp.{TellsInterest}
use Rattle.bt_engine_after.specs.SendingSteps.{frames_of}

-- the peer at i is told by this message, and nothing else changed
pub record IsInterestTold (s : EngineState) (i : ℕ) (message : Option Message) (new : EngineState)
    : Type 0 where
  pub peer : PeerState
  pub after : PeerState
  pub here : slice_get s.peers i ≡ Some peer
  pub tells : TellsInterest s peer (frames_of peer.key message) after
  pub now : new ≡ with_peer s i after
