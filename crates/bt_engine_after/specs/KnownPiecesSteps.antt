-- Pieces of whose blocks each leaf is known.
use Rattle.std.specs.Prelude.{◌≡◌, ℕ, ◌<◌, ◌≤◌, true, Bool, List, Some, IsSome}
use Rattle.bt_meta.specs.Torrent.{total_pieces}
use Rattle.bt_meta.specs.PieceBlocks.{HasBlock}
use Rattle.bt_sparse.specs.SparseTree.{Facts, held_at}
use Rattle.bt_book.specs.declared.names.BlockId.{BlockId}
use Rattle.bt_book.specs.BitSet.{has, IsNext}
use Rattle.bt_machine.specs.State.{EngineState}
use Rattle.bt_machine.specs.Blocks.{tree_of, piece_of}
use Rattle.bt_engine_state.specs.PieceSets.{without}

-- the leaf of each of its blocks is known
abbrev pub IsKnown : EngineState → (piece : ℕ) → Type 0
IsKnown s piece = (b : BlockId) (k : Facts) → HasBlock s.torrent b.file b.block
    → piece_of s.torrent b ≡ Some piece → tree_of s b.file ≡ Some k → IsSome (held_at k 0 b.block)

-- so are the pieces from one on, up to another
abbrev pub AreKnownTo : EngineState → (from to : ℕ) → Type 0
AreKnownTo s from to = (piece : ℕ) → from ≤ piece → piece < to → IsKnown s piece

-- pieces are noted: those that were, and those from one on, up to another
pub record AreNoted (old new : List Bool) (from to : ℕ) : Type 0 where
  pub kept : (piece : ℕ) → has old piece ≡ true → has new piece ≡ true
  pub noted : (piece : ℕ) → from ≤ piece → piece < to → has new piece ≡ true

-- of the torrent's pieces that a peer has, the first that is not noted has a leaf that is unknown
abbrev pub AreAllNoted : EngineState → (pieces noted : List Bool) → Type 0
AreAllNoted s pieces noted = (piece : ℕ) → piece < total_pieces s.torrent
    → IsNext (without pieces noted) 0 piece → ¬ IsKnown s piece
