-- What an engine knows of its torrent: the trees, the files' blocks and the peers. Devices stand beside it.
use Rattle.std.specs.Prelude.{ℕ, Bool, List, Option}
use Rattle.bt_meta.specs.Torrent.{Metainfo}
use Rattle.bt_sparse.specs.SparseTree.{Facts}
use Rattle.bt_resume.specs.ResumeLog.{LogView}
use Rattle.bt_store.specs.declared.block_states.BlockState.{BlockState}
use Rattle.bt_book.specs.declared.names.PeerKey.{PeerKey}
use Rattle.bt_book.specs.declared.names.BlockId.{BlockId}
use Rattle.bt_wire.specs.Cutter.{Stream}
use Rattle.bt_machine.specs.declared.hash_state.HashState.{HashState}
pub use Rattle.bt_machine.specs.Hints.{Hint, proof_of, mark_of}

-- A peer: the bytes that came from it; the four flags of BEP 3 (who chokes whom, who is interested in whom);
-- for each piece whether it has it; its hash state; the blocks that it is asked for, in the order of asking;
-- and how many bytes of blocks came from it and went to it since the last choice of peers to serve.
pub record PeerState : Type 0 where
  pub key : PeerKey
  pub stream : Stream
  pub am_choking : Bool
  pub am_interested : Bool
  pub peer_choking : Bool
  pub peer_interested : Bool
  pub has : List Bool
  pub hash : HashState
  pub asked : List BlockId
  pub payload : ℕ

-- a file of the torrent: which tree it has, and the states of its blocks; an empty file has no block
pub record FileState : Type 0 where
  pub tree : ℕ
  pub states : List BlockState

-- There is one tree for each root. Files stand as in the torrent, peers in the order of their keys.
-- `pending` has the hints that are to be written to the log, with marks joined to runs as they come, `hints`
-- those that were last read from it; without a log both are empty.
pub record EngineState : Type 0 where
  pub torrent : Metainfo
  pub trees : List Facts
  pub files : List FileState
  pub peers : List PeerState
  pub next_key : ℕ
  pub turn : ℕ
  pub logged : Bool
  pub pending : List Hint
  pub hints : List Hint

-- an engine with its devices, one for each file that has a block, and its log
pub record EngineView (D : Type 0) : Type 0 where
  pub state : EngineState
  pub disks : List (Option D)
  pub log : Option (LogView D)
