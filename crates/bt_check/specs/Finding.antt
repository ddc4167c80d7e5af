-- What a check finds of a file: which of its blocks are right, and so marked.
use Rattle.std.specs.Prelude.{◌≡◌, ℕ, ◌/◌, ◌^◌, ◌<◌, ◌↔◌, ◌==◌, ◌&&◌, not, Bool, List, [], ◌∷◌, length, slice_index_or, IsTrue, if◌then◌else◌, Option, None, Some}
use Rattle.std.specs.List.{count_by, range_with_len}
use Rattle.std.specs.Simd.{first_chunks}
use Rattle.bt_tree.specs.Blocks.{block_count}
use Rattle.bt_tree.specs.TreeShape.{height_of}
use Rattle.bt_meta.specs.Files.{File}
use Rattle.bt_check.specs.Pieces.{has_piece}
use Rattle.bt_check.specs.declared.data_file.Finding.{Finding}

-- A layer of a file's tree, and the digests of its nodes that cover a block. What lies below such a node is a
-- piece.
pub record KnownLayer : Type 0 where
  pub layer : ℕ
  pub digests : List (List ℕ)

-- the digests of a layer, 32 bytes each
abbrev pub digests_in : List ℕ → List (List ℕ)
digests_in layer = first_chunks 32 (length layer / 32) layer

-- What a torrent whose pieces have 2 ^ layer blocks tells of a file's tree: the digests of the pieces; or the
-- root alone, where it has no layer of the file, which then is one piece.
abbrev pub known_layer : ℕ → File → KnownLayer
known_layer layer file =
    if length file.layer == 0
    then record { layer = height_of (block_count file.length); digests = file.root ∷ [] }
    else record { layer = layer; digests = digests_in file.layer }

-- the piece of a block, and a piece's digest
abbrev pub piece_of : KnownLayer → ℕ → ℕ
piece_of known block = block / 2 ^ known.layer

abbrev pub digest_of : KnownLayer → ℕ → List ℕ
digest_of known piece = slice_index_or known.digests piece []

-- what a known leaf tells of a block; where none is known, what its piece tells
abbrev pub by_leaf : Option (List ℕ) → (List ℕ → Bool) → Bool → Bool
by_leaf None has_leaf piece_is_right = piece_is_right
by_leaf (Some leaf) has_leaf piece_is_right = has_leaf leaf

-- Where a block's leaf is known before, the block is right if it has this digest, and else if its piece has
-- the piece's. `has layer index digest` says whether a node has a digest.
abbrev pub is_right_block : (ℕ → ℕ → List ℕ → Bool) → KnownLayer → (ℕ → Option (List ℕ)) → ℕ → Bool
is_right_block has known leaves block =
    by_leaf (leaves block) (has 0 block)
    (has known.layer (piece_of known block) (digest_of known (piece_of known block)))

-- of a file of n bytes the right blocks are marked, and no others
pub record MarksBlocks (is_right : ℕ → Bool) (n : ℕ) (finding : Finding) : Type 0 where
  pub blocks : finding.blocks ≡ block_count n
  pub marked : finding.marked ≡ count_by is_right (range_with_len 0 (block_count n))

-- no leaf is known
abbrev pub no_leaves : ℕ → Option (List ℕ)
no_leaves block = None

-- what a check finds of these bytes, where some leaves are known before
pub record IsFindingOf (bytes : List ℕ) (n : ℕ) (known : KnownLayer) (leaves : ℕ → Option (List ℕ))
    (finding : Finding) : Type 0 where
  pub marks : MarksBlocks (is_right_block (has_piece bytes n) known leaves) n finding
  pub longer : IsTrue finding.longer ↔ (n < length bytes)

-- the data file is the torrent's: all its blocks are marked, it is not longer, and no call of its device
-- failed
abbrev pub is_complete_finding : Finding → Bool
is_complete_finding finding =
    finding.marked == finding.blocks && not finding.longer && not finding.faulty
