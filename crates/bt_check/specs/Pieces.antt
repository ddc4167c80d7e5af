-- The pieces of a file, as nodes of its tree (BEP 52, "piece layers"). A piece has 2 ^ layer blocks, the last
-- one of a file perhaps fewer.
use Rattle.std.specs.Prelude.{◌≡◌, ℕ, ◌+◌, ◌-◌, ◌*◌, ◌^◌, ◌<◌, ◌≤◌, min, Bool, ◌&&◌, List, [], Option, length, take, slice_index_or, nat_eq, nat_le}
use Rattle.std.specs.Cmp.Lexicographic.{pointwise}
use Rattle.sha2.specs.Sha256.{sha256}
use Rattle.bt_tree.specs.Blocks.{HasRun, block_count}
use Rattle.bt_tree.specs.Tree.{node_digest}
use Rattle.bt_tree.specs.TreeShape.{real_width}
use Rattle.bt_tree.specs.Limits.{full_block_length}
use Rattle.bt_check.specs.Reader.{Gives}
use Rattle.bt_check.specs.declared.pieces.PieceRun.{PieceRun}

-- the byte at which a piece begins
abbrev pub piece_start : ℕ → ℕ → ℕ
piece_start layer index = full_block_length * (index * 2 ^ layer)

-- how many bytes it has, in a file of this length
abbrev pub piece_size : ℕ → ℕ → ℕ → ℕ
piece_size file_length layer index =
    min (full_block_length * 2 ^ layer) (file_length - piece_start layer index)

-- the bytes, as those of a file of this length, have the whole piece, and its node has this digest
abbrev pub has_piece : List ℕ → ℕ → ℕ → ℕ → List ℕ → Bool
has_piece bytes file_length layer index digest =
    nat_le (piece_start layer index + piece_size file_length layer index) (length bytes)
    && pointwise nat_eq digest (node_digest sha256 (take file_length bytes) layer index)

-- the reader gave a piece of this size, and the digest is its node's: in each file that has these bytes there
pub record GivesPiece (old new : Option (List ℕ)) (file_length layer index size : ℕ) (digest : List ℕ)
    : Type 0 where
  pub bytes : List ℕ
  pub given : Gives old new size bytes
  pub whole : length bytes ≡ size
  pub value : (file : List ℕ) → length file ≡ file_length → HasRun file (piece_start layer index) bytes
      → digest ≡ node_digest sha256 file layer index

-- the reader gave the next pieces of a file of this length, from one on, and the digests are theirs
pub record GivesPieces (old new : Option (List ℕ)) (file_length layer index : ℕ) (run : PieceRun)
    : Type 0 where
  pub bytes : List ℕ
  pub given : Gives old new run.bytes bytes
  pub whole : length bytes ≡ run.bytes
  pub some : 0 < run.bytes
  pub few : run.count ≤ 8
  pub real : index + run.count ≤ real_width (block_count file_length) layer
  pub size : piece_start layer index + run.bytes ≡ min (piece_start layer (index + run.count)) file_length
  pub value : (file : List ℕ) → length file ≡ file_length → HasRun file (piece_start layer index) bytes
      → (j : ℕ) → j < run.count
      → slice_index_or run.digests j [] ≡ node_digest sha256 file layer (index + j)
