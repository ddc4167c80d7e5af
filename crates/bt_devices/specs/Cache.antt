-- Blocks whose digests are known, eight of them or none.
use Rattle.std.specs.Prelude.{◌≡◌, ℕ, ◌*◌, Bool, true, false, nat_eq, List, [], ◌∷◌, length}
use Rattle.bt_tree.specs.Limits.{full_block_length}
use Rattle.bt_tree.specs.Blocks.{block_at}
use Rattle.bt_disk.specs.Conduct.{Conduct}
use Rattle.bt_disk.specs.Calls.{Call, bytes_given, read_fault, HasCalls}

-- how many bytes eight whole blocks have
abbrev pub run_length : ℕ
run_length = 8 * full_block_length

-- the eight blocks that lie in a run of bytes, one after the other
abbrev pub blocks_of : List ℕ → List (List ℕ)
blocks_of run =
    block_at run 0 ∷ block_at run 1 ∷ block_at run 2 ∷ block_at run 3
    ∷ block_at run 4 ∷ block_at run 5 ∷ block_at run 6 ∷ block_at run 7 ∷ []

-- those of a full run, and else none
abbrev pub known_blocks : Bool → List ℕ → List (List ℕ)
known_blocks true run = blocks_of run
known_blocks false run = []

-- the call is a read of eight blocks from byte `at` on
abbrev pub IsRunRead : ℕ → Call → Type 0
IsRunRead at (bytes_given start wanted bytes) = (start ≡ at) × (wanted ≡ run_length)
IsRunRead at (read_fault start wanted) = (start ≡ at) × (wanted ≡ run_length)
IsRunRead at _ = ⊥

-- the blocks that are known after a read of a run: the eight, where all of their bytes came
abbrev pub blocks_after : Call → List (List ℕ)
blocks_after (bytes_given start wanted bytes) = known_blocks (nat_eq (length bytes) wanted) bytes
blocks_after _ = []

-- One call was made, a read of eight blocks from byte `at` on, and the blocks known are what came of it.
pub record TakesRun
    {D : Type 0} (conduct : Conduct D)
    (old : D) (at : ℕ) (blocks : List (List ℕ)) (new : D) : Type 0 where
  pub call : Call
  pub run_read : IsRunRead at call
  pub known : blocks ≡ blocks_after call
  pub made : HasCalls conduct old (call ∷ []) new
