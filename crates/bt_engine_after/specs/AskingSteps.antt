-- The blocks that are asked of the peer at a place.
use Rattle.std.specs.Prelude.{◌≡◌, ℕ, List, ◌++◌, Some, slice_get}
use Rattle.bt_book.specs.declared.names.BlockId.{BlockId}
use Rattle.bt_machine.specs.State.{PeerState, EngineState}
use Rattle.bt_machine.specs.Blocks.{with_peer}
use Rattle.bt_machine.specs.FollowUp.{AsksBlocks}

-- the peer at i is asked for these blocks, beside those before, and nothing else changed
pub record AreBlocksAsked (s : EngineState) (i : ℕ) (blocks : List BlockId) (new : EngineState) : Type 0 where
  pub peer : PeerState
  pub here : slice_get s.peers i ≡ Some peer
  pub asks : AsksBlocks s peer blocks
  pub now : new ≡ with_peer s i (record peer { asked = peer.asked ++ blocks })
