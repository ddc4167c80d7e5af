-- How data files are used.
use Rattle.std.specs.Prelude.{◌≡◌, ◌≢◌, ℕ, Bool, true, false, List, Option, Some}
use Rattle.std.specs.Borrow.{Bor}
use Rattle.bt_disk.specs.FileDisk.{Access, writing}
use Rattle.bt_files.specs.declared.file_use.FileUse.{FileUse}
use Rattle.bt_files.specs.declared.file_use.FileUse.TheVariants.{Fetch, Seed, SeedByLog, ReadOnly}

-- nothing is written, and nothing is made
abbrev pub is_read_only : FileUse → Bool
is_read_only Fetch = false
is_read_only Seed = false
is_read_only SeedByLog = false
is_read_only ReadOnly = true

-- what a file had when it was opened counts as synced: it is none of what is to be kept
abbrev pub is_as_synced : FileUse → Bool
is_as_synced Fetch = false
is_as_synced Seed = true
is_as_synced SeedByLog = false
is_as_synced ReadOnly = false

-- whether a device of such a file may write it
abbrev pub IsAccessFor : FileUse → Access → Type 0
IsAccessFor Fetch access = access ≡ writing
IsAccessFor Seed access = access ≡ writing
IsAccessFor SeedByLog access = access ≡ writing
IsAccessFor ReadOnly access = access ≢ writing

-- Whether a sync goes to the file also where it was neither read nor written. Where it does not, there is nothing to
-- sync until it is: what was found there is to be kept where it was read as the store was opened.
abbrev pub is_touched_at_first : FileUse → Bool
is_touched_at_first Fetch = false
is_touched_at_first Seed = true
is_touched_at_first SeedByLog = false
is_touched_at_first ReadOnly = true

-- what files are opened for where the path of a log is given, or none: by the log a seed knows what of them counts
abbrev pub use_with : FileUse → Option (Bor (List ℕ)) → FileUse
use_with Seed (Some path) = SeedByLog
use_with usage log = usage
