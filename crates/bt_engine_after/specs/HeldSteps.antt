-- Which blocks of a torrent a peer has, by its pieces, and the first of them from a block on.
use Rattle.std.specs.Prelude.{◌≡◌, ℕ, ◌+◌, ◌*◌, ◌/◌, ◌≤◌, ◌&&◌, Bool, false, List, Option, IfSome, IfNone, slice_get, slice_index_or, nat_lt}
use Rattle.std.specs.Option.{option_map_or}
use Rattle.bt_tree.specs.Limits.{full_block_length}
use Rattle.bt_tree.specs.Blocks.{block_count}
use Rattle.bt_meta.specs.Torrent.{Metainfo}
use Rattle.bt_meta.specs.PieceBlocks.{HasBlock}
use Rattle.bt_book.specs.declared.names.BlockId.{BlockId}
use Rattle.bt_book.specs.Blocks.{IsFrom, IsBefore, IsFirst, HasNoFirst}

-- it is one of the torrent's blocks, in a piece of which this says true
abbrev pub is_held : Metainfo → List Bool → BlockId → Bool
is_held torrent pieces b = option_map_or (λ f. nat_lt b.block (block_count f.length)
    && slice_index_or pieces (f.first_piece + full_block_length * b.block / torrent.piece_length) false)
    (slice_get torrent.files b.file) false

-- a step gives the first block, from one on, that is held
abbrev pub IsNextHeld : Metainfo → List Bool → BlockId → Option BlockId → Type 0
IsNextHeld torrent pieces from r =
    IfSome r (IsFirst (is_held torrent pieces) from) × IfNone r (HasNoFirst (is_held torrent pieces) from)

-- ---- pieces

-- the block is one of the torrent's, in this piece
pub record LiesIn (torrent : Metainfo) (b : BlockId) (piece : ℕ) : Type 0 where
  pub has : HasBlock torrent b.file b.block
  pub is : piece ≡ has.entry.first_piece + full_block_length * b.block / torrent.piece_length

-- No block after this one lies in an earlier piece, and none before it in a later one; where one before it
-- lies in the piece, it does, too.
pub record IsFirstPiece (torrent : Metainfo) (from : BlockId) (piece : ℕ) : Type 0 where
  pub behind : (c : BlockId) (q : ℕ) → LiesIn torrent c q → IsFrom from c → piece ≤ q
  pub before : (c : BlockId) (q : ℕ) → LiesIn torrent c q → IsBefore c from → q ≤ piece
  pub here : (c : BlockId) → LiesIn torrent c piece → IsBefore c from → LiesIn torrent from piece

abbrev pub HasNoBlock : Metainfo → BlockId → Type 0
HasNoBlock torrent from = (c : BlockId) (q : ℕ) → LiesIn torrent c q → ¬ IsFrom from c
