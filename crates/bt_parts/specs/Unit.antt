-- What is not parted where a file is divided among the parts of a check.
use Rattle.std.specs.Prelude.{ℕ, ◌^◌, ◌==◌, if◌then◌else◌, max, length}
use Rattle.bt_meta.specs.Files.{File}
use Rattle.bt_tree.specs.Blocks.{block_count}

-- In a torrent whose pieces have 2 ^ layer blocks: a piece, and eight blocks where pieces are shorter; all blocks of a
-- file of which no piece hashes are known. An empty file counts as one block.
abbrev pub unit_of : ℕ → File → ℕ
unit_of layer file = if length file.layer == 0 then max 1 (block_count file.length) else 2 ^ max 3 layer
