-- How the blocks of a torrent's files are divided among parts of a check. All bytes are counted through, from 0 on, and
-- are cut into parts of equal length. A unit of blocks, which is not parted, belongs to the part in which its first byte
-- lies. A file without a byte counts as one byte, so that one of the parts has it.
use Rattle.std.specs.Prelude.{ℕ, ◌+◌, ◌-◌, ◌*◌, ◌/◌, ◌<◌, ◌≤◌, min}
use Rattle.std.specs.Int.{div_ceil}
use Rattle.bt_tree.specs.Limits.{full_block_length}
use Rattle.bt_parts.specs.declared.cut.Cut.{Cut}

-- where part `index` of `count` begins, among `total` bytes, and the one before it ends
abbrev pub edge_of : (total count index : ℕ) → ℕ
edge_of total count index = total * index / count

-- the block of a file that begins the first unit whose first byte is this one or lies after it
abbrev pub cut_at : Cut → ℕ → ℕ
cut_at file edge =
    min (div_ceil (edge - file.place) (file.unit * full_block_length) * file.unit) file.blocks

-- part `index` has the byte at which the file begins
pub record IsFirstIn (total count index : ℕ) (file : Cut) : Type 0 where
  pub begun : edge_of total count index ≤ file.place
  pub before : file.place < edge_of total count (index + 1)
