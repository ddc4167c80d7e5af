-- The layer of a file's tree in which a digest covers one piece (BEP 52, "piece layers").
use Rattle.std.specs.Prelude.{ℕ, ◌-◌, ◌*◌, Bool, ◌==◌, List, length, nat_eq}
use Rattle.std.specs.Cmp.Lexicographic.{pointwise}
use Rattle.sha2.specs.Sha256.{sha256}
use Rattle.bt_tree.specs.Blocks.{block_count}
use Rattle.bt_tree.specs.TreeShape.{height_of, real_width}
use Rattle.bt_tree.specs.Layers.{fold_of, layer_digests}

-- the layer whose nodes have the blocks of a piece: a piece has 2 ^ layer blocks
abbrev pub piece_layer_of : ℕ → ℕ
piece_layer_of piece_length = height_of (block_count piece_length)

-- 32 bytes for each node that covers a block
unfoldable pub has_layer_size : ℕ → ℕ → List ℕ → Bool
has_layer_size piece_length bytes layer =
    length layer == 32 * real_width (block_count bytes) (piece_layer_of piece_length)

-- the layer's digests fold to the root
unfoldable pub has_root : ℕ → ℕ → List ℕ → List ℕ → Bool
has_root piece_length bytes root layer =
    let n = block_count bytes in let k = piece_layer_of piece_length in
    pointwise nat_eq (fold_of sha256 (height_of n - k) (layer_digests sha256 n k layer)) root
