-- What a reader gave, whose bytes left are known or not.
use Rattle.std.specs.Prelude.{◌≡◌, ℕ, ◌*◌, ◌<◌, ◌≤◌, ◌↔◌, List, Option, Bool, length, IsTrue}
use Rattle.std.specs.Io.KnownBytes.{Consumes, IsAtEnd}
use Rattle.sha2.specs.Sha256.{sha256}
use Rattle.bt_tree.specs.Blocks.{HasRun}
use Rattle.bt_tree.specs.RootBuilder.{BuilderState, BuildsFrom, first_block}
use Rattle.bt_tree.specs.Tree.{node_digest}
use Rattle.bt_tree.specs.Limits.{full_block_length}

-- a reader was asked for a number of bytes and gave these: fewer only where it had no more
pub record Gives (old new : Option (List ℕ)) (asked : ℕ) (bytes : List ℕ) : Type 0 where
  pub taken : Consumes old new bytes
  pub within : length bytes ≤ asked
  pub ended : length bytes < asked → IsAtEnd new

-- a reader gave some bytes, and they are lost
pub record LosesFront (old new : Option (List ℕ)) : Type 0 where
  pub lost : List ℕ
  pub taken : Consumes old new lost

-- a reader was asked for a number of bytes, and had fewer
pub record EndsEarly (old new : Option (List ℕ)) (asked : ℕ) : Type 0 where
  pub bytes : List ℕ
  pub given : Gives old new asked bytes
  pub short : length bytes < asked

-- the reader gave a node's bytes, and the digest is the node's: in each file that has these bytes there
pub record GivesNode (old new : Option (List ℕ)) (asked : ℕ) (b : BuilderState) (digest : List ℕ)
    : Type 0 where
  pub bytes : List ℕ
  pub given : Gives old new asked bytes
  pub whole : length bytes ≡ asked
  pub value : (file : List ℕ) → BuildsFrom sha256 b file
      → HasRun file (full_block_length * first_block b) bytes
      → digest ≡ node_digest sha256 file b.layer b.index

-- whether the reader gave one more byte, where it was asked for one
pub record TellsMore (old new : Option (List ℕ)) (more : Bool) : Type 0 where
  pub bytes : List ℕ
  pub given : Gives old new 1 bytes
  pub tells : IsTrue more ↔ (length bytes ≡ 1)
