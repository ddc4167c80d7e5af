-- What follows from these definitions.
use Rattle.std.specs.Prelude.{[], ◌≡◌, ℕ, ◌+◌, ◌-◌, ◌*◌, ◌^◌, ◌<◌, ◌≤◌}
use Rattle.bt_tree.specs.Limits.{full_block_length}
use Rattle.bt_parts.specs.Division.{IsFirstIn, cut_at, edge_of}
use Rattle.bt_parts.specs.Line.{IsRunLine, line_before}
use Rattle.bt_parts.specs.declared.cut.Cut.{Cut}
use Rattle.bt_parts.specs.declared.run.Run.{Run}

-- The numbers of a run are of 32 bits.
pub record IsSmall (run : Run) : Type 0 where
  pub file : run.file < 2 ^ 32
  pub first : run.from < 2 ^ 32
  pub last : run.to < 2 ^ 32
  pub right : run.marked < 2 ^ 32

-- A line that a part writes tells its run.
abbrev pub LinesAreReadBack : Type 0
LinesAreReadBack = (run : Run) → IsSmall run → IsRunLine (line_before [] run) run

-- A file is shared among `count` parts of `total` bytes. The beginning of the first part cuts it before its first block,
-- the end of the last part after its last block, and each further part begins no earlier. So the shares, each of which
-- ends where the next begins, are the whole file. And one part, and no other, has the byte at which the file begins.
pub record IsDivided (file : Cut) (total count : ℕ) : Type 0 where
  pub begin : cut_at file (edge_of total count 0) ≡ 0
  pub finish : cut_at file (edge_of total count count) ≡ file.blocks
  pub forward : (index : ℕ)
      → cut_at file (edge_of total count index) ≤ cut_at file (edge_of total count (index + 1))
  pub told : (index : ℕ) × (index < count) × IsFirstIn total count index file
  pub alone : (i j : ℕ) → IsFirstIn total count i file → IsFirstIn total count j file → i ≡ j

-- So is a file whose last block begins among these bytes, and one without a block that begins there.
abbrev pub SharesAreWhole : Type 0
SharesAreWhole = (file : Cut) (total count : ℕ) → 0 < count
    → file.place + (file.blocks - 1) * full_block_length < total → IsDivided file total count
