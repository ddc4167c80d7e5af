-- What a torrent says of a file's bytes (BEP 52, "pieces root", "piece layers"). A piece is 2 ^ layer blocks.
use Rattle.std.specs.Prelude.{◌≡◌, ℕ, ◌+◌, ◌*◌, ◌^◌, ◌<◌, ◌≤◌, ◌⊎◌, List, [], Option, length, take, drop, replicate}
use Rattle.sha2.specs.Sha256.{sha256}
use Rattle.bt_tree.specs.Blocks.{block_count}
use Rattle.bt_tree.specs.Tree.{node_digest, file_root}
use Rattle.bt_tree.specs.TreeShape.{real_width}
use Rattle.bt_meta.specs.declared.writer.MakeError.TheVariants.{FileLength}
use Rattle.bt_tree.specs.Limits.{full_block_length, max_file_length}
use Rattle.bt_check.specs.Fault.{device, out_of_memory, make_fault}
use Rattle.bt_check.specs.Reader.{Gives}
use Rattle.bt_check.specs.declared.digests.Digests.{Digests}
use Rattle.bt_check.specs.declared.fault.Fault.{Fault}

-- the digests of the file's pieces, 32 bytes each: of the layer's nodes that cover a block
pub record IsPieceLayer (file : List ℕ) (layer : ℕ) (bytes : List ℕ) : Type 0 where
  pub size : length bytes ≡ 32 * real_width (block_count (length file)) layer
  pub digests : (j : ℕ) → j < real_width (block_count (length file)) layer
      → take 32 (drop (32 * j) bytes) ≡ node_digest sha256 file layer j

-- the root, zeros for an empty file, and the pieces' digests where the file is longer than one piece
pub record AreDigestsOf (file : List ℕ) (layer : ℕ) (digests : Digests) : Type 0 where
  pub empty : length file ≡ 0 → digests.root ≡ replicate 32 0
  pub root : 0 < length file → digests.root ≡ file_root sha256 file
  pub short : length file ≤ full_block_length * 2 ^ layer → digests.layer.items ≡ []
  pub long : full_block_length * 2 ^ layer < length file → IsPieceLayer file layer digests.layer.items

-- a reader that was asked for one byte more gave one less, and these are their digests
pub record GivesAll (old new : Option (List ℕ)) (file_length layer : ℕ) (digests : Digests) : Type 0 where
  pub file : List ℕ
  pub given : Gives old new (file_length + 1) file
  pub whole : length file ≡ file_length
  pub are : AreDigestsOf file layer digests

-- a file could not be read, or there is no memory for its layer; or it is too long
abbrev pub IsDigestFault : ℕ → Fault → Type 0
IsDigestFault length fault =
    (fault ≡ device) ⊎ (fault ≡ out_of_memory)
    ⊎ ((fault ≡ make_fault FileLength) × (max_file_length < length))
