-- What a reader gives of a script.
use Rattle.std.specs.Prelude.{◌≡◌, ℕ, ◌^◌, ◌<◌, ◌≤◌, ◌⊎◌, List, Option, length}
use Rattle.std.specs.Io.KnownBytes.{Consumes, IsAtEnd}
use Rattle.bt_replay.specs.declared.fault.ReplayFault.{ReplayFault}
use Rattle.bt_replay.specs.declared.fault.ReplayFault.TheVariants.{Read, OutOfMemory}

-- a reader gave its first 2^24 bytes: fewer only where it has no more
pub record GivesScript (old new : Option (List ℕ)) (script : List ℕ) : Type 0 where
  pub taken : Consumes old new script
  pub within : length script ≤ 2 ^ 24
  pub ended : length script < 2 ^ 24 → IsAtEnd new

-- no script came, and the bytes that were read are lost: the reader failed, or memory for these bytes was refused
pub record IsUnread (old new : Option (List ℕ)) (fault : ReplayFault) : Type 0 where
  pub lost : List ℕ
  pub taken : Consumes old new lost
  pub cause : (fault ≡ Read) ⊎ ((fault ≡ OutOfMemory) × (0 < length lost))
