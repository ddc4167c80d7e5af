-- The limits that contracts cite, here and in the crates above.
use Rattle.std.specs.Prelude.{ℕ, ◌^◌}

-- how many bytes a block has, the last one of a file perhaps fewer (BEP 52)
abbrev pub full_block_length : ℕ
full_block_length = 16384

-- the longest file that has a tree here, in bytes
abbrev pub max_file_length : ℕ
max_file_length = 2 ^ 40

-- how many blocks the longest file has
abbrev pub max_block_count : ℕ
max_block_count = 2 ^ 26

-- the height of the longest file's tree
abbrev pub max_height : ℕ
max_height = 26

-- the least piece length, in bytes: one block (BEP 52)
abbrev pub min_piece_length : ℕ
min_piece_length = 2 ^ 14

-- the greatest piece length that is taken here, in bytes
abbrev pub max_piece_length : ℕ
max_piece_length = 2 ^ 28

-- the layer of a tree whose nodes cover a piece of that length each
abbrev pub max_piece_layer : ℕ
max_piece_layer = 14

-- how many bytes a digest has (FIPS 180-4, SHA-256)
abbrev pub digest_length : ℕ
digest_length = 32
