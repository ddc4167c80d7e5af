-- Blocks and pieces (BEP 52: each file that is not empty begins at a piece's boundary, so that a piece has
-- blocks of one file alone), and the range of its piece that a block is (BEP 3, "request").
use Rattle.std.specs.Prelude.{◌≡◌, ℕ, ◌+◌, ◌-◌, ◌*◌, ◌/◌, ◌%◌, ◌<◌, ◌≤◌, min, Some, slice_get}
use Rattle.bt_tree.specs.Limits.{full_block_length}
use Rattle.bt_tree.specs.Blocks.{block_count, block_length}
use Rattle.bt_meta.specs.Files.{File}
use Rattle.bt_meta.specs.Torrent.{Metainfo}
use Rattle.bt_meta.specs.declared.piece_blocks.BlockRun.{BlockRun}
use Rattle.bt_meta.specs.declared.piece_blocks.PieceRange.{PieceRange}

-- the torrent has the file, and the file the block
pub record HasBlock (torrent : Metainfo) (file block : ℕ) : Type 0 where
  pub entry : File
  pub found : slice_get torrent.files file ≡ Some entry
  pub inside : block < block_count entry.length

-- the run has all blocks of the piece, and no others
pub record ArePieceBlocks (torrent : Metainfo) (piece : ℕ) (run : BlockRun) : Type 0 where
  pub first_block : HasBlock torrent run.file run.first
  pub from : first_block.entry.first_piece ≤ piece
  pub first : full_block_length * run.first ≡ (piece - first_block.entry.first_piece) * torrent.piece_length
  pub count : run.count ≡ min (torrent.piece_length / full_block_length)
      (block_count first_block.entry.length - run.first)

-- the block is one of the run
pub record IsOfRun (run : BlockRun) (file block : ℕ) : Type 0 where
  pub same_file : file ≡ run.file
  pub from : run.first ≤ block
  pub below : block < run.first + run.count

-- the range is the block, all of it
pub record IsBlockRange (torrent : Metainfo) (file block : ℕ) (range : PieceRange) : Type 0 where
  pub has : HasBlock torrent file block
  pub piece : range.piece ≡ has.entry.first_piece + full_block_length * block / torrent.piece_length
  pub begin : range.begin ≡ full_block_length * block % torrent.piece_length
  pub length : range.length ≡ block_length has.entry.length block
