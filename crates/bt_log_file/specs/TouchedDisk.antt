-- A file that is synced only where it was read or written.
use Rattle.std.specs.Prelude.{Bool}
use Rattle.bt_disk.specs.Conduct.{Conduct, untrusted}
use Rattle.bt_disk.specs.Pool.{PooledView}

-- the file inside, and whether it was read, written or given a new length
pub record TouchedView : Type 0 where
  pub file : PooledView
  pub is_touched : Bool

-- a file that is touched already, or is not yet
abbrev pub new_touched : PooledView → Bool → TouchedView
new_touched file is_touched = record { file = file; is_touched = is_touched }

-- of what a file of the system holds nothing is known
abbrev pub touched_conduct : Conduct TouchedView
touched_conduct = untrusted (λ disk. disk.file.failed)
