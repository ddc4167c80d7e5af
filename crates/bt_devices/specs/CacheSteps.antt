-- What is true of the parts of a cache.
use Rattle.std.specs.Prelude.{◌≡◌, ℕ, ◌+◌, ◌<◌, ◌≤◌, Bool, true, List, [], length, slice_index, slice_index_or}
use Rattle.sha2.specs.Sha256.{sha256}
use Rattle.bt_tree.specs.Blocks.{block_at}
use Rattle.bt_devices.specs.Cache.{run_length}

-- there is room for eight blocks, and where it is full each of them has its digest
pub record IsDigested (is_full : Bool) (run : List ℕ) (digests : List (List ℕ)) : Type 0 where
  pub room : length run ≡ run_length
  pub each : is_full ≡ true → (j : ℕ) → j < 8 → slice_index_or digests j [] ≡ sha256 (block_at run j)

-- this many bytes from byte `at` on are the same
abbrev pub AreSameFrom : ℕ → ℕ → List ℕ → List ℕ → Type 0
AreSameFrom at count one other = (i : ℕ) → at ≤ i → i < at + count → slice_index one i ≡ slice_index other i
