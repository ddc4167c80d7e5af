-- The hash request that is sent to the peer at a place, and the search for the leaf that it asks for.
use Rattle.std.specs.Prelude.{◌≡◌, ◌≢◌, ℕ, ◌<◌, ◌≤◌, List, Option, Some, None, slice_get}
use Rattle.bt_meta.specs.PieceBlocks.{HasBlock}
use Rattle.bt_sparse.specs.SparseTree.{Facts}
use Rattle.bt_hashreq.specs.Request.{IsPlan}
use Rattle.bt_hashreq.specs.declared.key.HashKey.{HashKey}
use Rattle.bt_book.specs.declared.names.BlockId.{BlockId}
use Rattle.bt_wire.specs.declared.message.Message.{Message}
use Rattle.bt_machine.specs.State.{PeerState, EngineState}
use Rattle.bt_machine.specs.Blocks.{block_id, tree_of, leaf_at, with_peer}
use Rattle.bt_machine.specs.FollowUp.{NeedsLeaf, IsLeastNeed, RequestsHashes}
use Rattle.bt_engine_after.specs.SendingSteps.{frames_of}

-- the peer at i is sent this hash request, or none, and nothing else changed
pub record AreHashesRequested (dig : List ℕ → List ℕ) (s : EngineState) (i : ℕ) (message : Option Message)
    (new : EngineState) : Type 0 where
  pub peer : PeerState
  pub after : PeerState
  pub here : slice_get s.peers i ≡ Some peer
  pub requests : RequestsHashes dig s peer (frames_of peer.key message) after
  pub now : new ≡ with_peer s i after

-- the key asks for the least leaf that is needed of the peer
pub record AsksForLeast (dig : List ℕ → List ℕ) (s : EngineState) (p : PeerState) (key : HashKey)
    : Type 0 where
  pub block : BlockId
  pub tree : Facts
  pub least : IsLeastNeed dig s p block
  pub has_tree : tree_of s block.file ≡ Some tree
  pub plan : IsPlan tree block.block key

abbrev pub NeedsNoLeaf : (List ℕ → List ℕ) → EngineState → PeerState → Type 0
NeedsNoLeaf dig s p = (b : BlockId) → ¬ NeedsLeaf dig s p b

-- in the block's file the leaves from the block on are known up to this one, which is not, unless the file
-- ends there
pub record IsUnknownFrom (dig : List ℕ → List ℕ) (s : EngineState) (b : BlockId) (next : ℕ) : Type 0 where
  pub after : b.block ≤ next
  pub known : (c : BlockId) → c.file ≡ b.file → b.block ≤ c.block → c.block < next → leaf_at dig s c ≢ None
  pub unknown : HasBlock s.torrent b.file next → leaf_at dig s (block_id b.file next) ≡ None
