-- The last blocks of a torrent's files that are shorter than the others (BEP 52), as requests name them (BEP 3).
use Rattle.std.specs.Prelude.{ℕ, ◌<◌, ◌+◌, ◌*◌, ◌/◌, ◌%◌, Bool, nat_lt, List, map, filter, AllPairs}
use Rattle.bt_tree.specs.Limits.{full_block_length}
use Rattle.bt_wire.specs.declared.message.Ask.{Ask}
use Rattle.bt_meta.specs.Files.{File}
use Rattle.bt_meta.specs.Torrent.{Metainfo}
use Rattle.bt_meta.specs.PieceBlocks.{IsBlockRange}
use Rattle.bt_meta.specs.declared.piece_blocks.PieceRange.{PieceRange}

-- a range of a piece
abbrev pub ask_of : ℕ → ℕ → ℕ → Ask
ask_of piece begin length = record { piece = piece; begin = begin; length = length }

-- from where it begins on, as many bytes as any other block has
abbrev pub padded : Ask → Ask
padded ask = record ask { length = full_block_length }

-- the file has bytes after its whole blocks
abbrev pub has_short_block : File → Bool
has_short_block file = nat_lt 0 (file.length % full_block_length)

-- these bytes, where they stand in their piece
abbrev pub short_block : (piece_length : ℕ) → File → Ask
short_block piece_length file =
    let start = full_block_length * (file.length / full_block_length) in
    ask_of (file.first_piece + start / piece_length) (start % piece_length) (file.length % full_block_length)

-- the short last blocks of a torrent, in the order of its files
unfoldable pub short_blocks_of : Metainfo → List Ask
short_blocks_of torrent = map (short_block torrent.piece_length) (filter has_short_block torrent.files)

-- each stands in a piece of its own, after those of the ones before
abbrev pub AreInTurn : List Ask → Type 0
AreInTurn blocks = AllPairs (λ ask later. ask.piece < later.piece) blocks

-- ---- the same in the terms of blocks

abbrev pub range_of : Ask → PieceRange
range_of ask = record { piece = ask.piece; begin = ask.begin; length = ask.length }

-- the range is all that a file has of its last block, which is short
pub record IsShortBlock (torrent : Metainfo) (ask : Ask) : Type 0 where
  pub file : ℕ
  pub block : ℕ
  pub whole : IsBlockRange torrent file block (range_of ask)
  pub short : ask.length < full_block_length
