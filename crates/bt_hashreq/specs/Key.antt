-- How a key of a hash message is spelled (BEP 52, "hash request").
use Rattle.std.specs.Prelude.{◌≡◌, ℕ, ◌^◌, ◌<◌, List, ◌++◌, length}
use Rattle.std.specs.Int.{w32, to_be_bytes}
use Rattle.bt_tree.specs.Limits.{digest_length}
use Rattle.bt_hashreq.specs.declared.key.HashKey.{HashKey}

-- how many bytes a key has: a root, and four numbers of four bytes each
abbrev pub key_length : ℕ
key_length = 48

-- the root, and then base, index, length and layers, the high byte first
abbrev pub key_spelling : HashKey → List ℕ
key_spelling k =
    k.root ++ to_be_bytes w32 k.base ++ to_be_bytes w32 k.index ++ to_be_bytes w32 k.length
    ++ to_be_bytes w32 k.layers

-- a root is a digest, and a number has four bytes, as in memory
pub record IsKey (k : HashKey) : Type 0 where
  pub root : length k.root ≡ digest_length
  pub base : k.base < 2 ^ 32
  pub index : k.index < 2 ^ 32
  pub length : k.length < 2 ^ 32
  pub layers : k.layers < 2 ^ 32
