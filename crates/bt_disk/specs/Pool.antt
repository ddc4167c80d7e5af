-- A pool, and how a device of it uses its file.
use Rattle.std.specs.Prelude.{◌≡◌, ◌⊎◌, ℕ, Bool, List, Option}
use Rattle.bt_disk.specs.Limits.{max_count}
use Rattle.bt_disk.specs.Conduct.{Conduct, untrusted}
use Rattle.bt_disk.specs.FileDisk.{Access, absent, reading, writing}
use Rattle.bt_disk.specs.declared.opening.FileIdentity.{FileIdentity}
use Rattle.bt_disk.specs.declared.open_handles.OpenHandle.{OpenHandle}
use Rattle.bt_disk.specs.declared.pool.Use.{Use}
use Rattle.bt_disk.specs.declared.pool.Use.TheVariants.{Absent, Reading, Writing}

abbrev pub access_of_use : Use → Access
access_of_use Absent = absent
access_of_use Reading = reading
access_of_use Writing = writing

-- how many devices a pool has made: the k-th has the number k
pub record PoolView : Type 0 where
  pub made : ℕ

abbrev pub new_pool : PoolView
new_pool = record { made = 0 }

-- no further device is made: the last number was given, or what they share has no count left
abbrev pub IsNoDeviceLeft : {R : Type 0} → (is_shared_out : R → Type 0) → (made : ℕ) → Type 0
IsNoDeviceLeft {R} is_shared_out made = (made ≡ max_count) ⊎ ((rt : R) × is_shared_out rt)

-- no device of the file at a path is made: a file system of this kind did not open it, or none is left
abbrev pub IsNotMade :
    {R : Type 0} → (refuses : R → List ℕ → Type 0) → (is_shared_out : R → Type 0)
    → (path : List ℕ) → (made : ℕ) → Type 0
IsNotMade {R} refuses is_shared_out path made =
    ((rt : R) × refuses rt path) ⊎ IsNoDeviceLeft is_shared_out made

-- A device that a pool made: its number, by which the pool knows its handle, the bytes of its file's path,
-- whether that file may be written, the identity that the system told when it was opened first (none where it
-- is absent, or none was told), whether it was synced and since then neither written nor given a new length,
-- whether it was ever written or given one, and how many of its calls failed.
pub record PooledView : Type 0 where
  pub number : ℕ
  pub path : List ℕ
  pub access : Access
  pub identity : Option FileIdentity
  pub is_synced : Bool
  pub is_written : Bool
  pub failed : ℕ

-- a handle is this device's, and of the file that was opened first
pub record IsHandleOf {F : Type 0} (disk : PooledView) (handle : OpenHandle F) : Type 0 where
  pub own : handle.device ≡ disk.number
  pub same : handle.identity ≡ disk.identity

-- of what a file of the system holds nothing is known
abbrev pub pooled_conduct : Conduct PooledView
pooled_conduct = untrusted (λ disk. disk.failed)
