-- What a part of a check tells of a file: of the blocks from one on to before another, how many are right, and what
-- was met beside.
use Rattle.std.specs.Prelude.{ℕ, ◌-◌, ◌≤◌, Bool, true, false}
use Rattle.bt_parts.specs.declared.run.Met.{Met}
use Rattle.bt_parts.specs.declared.run.Met.TheVariants.{Nothing, Absent, Longer, Unmeasured, Unread}
use Rattle.bt_parts.specs.declared.run.Run.{Run}

-- a file of `blocks` blocks has these, and no more are right than there are
pub record IsWithin (blocks : ℕ) (run : Run) : Type 0 where
  pub forward : run.from ≤ run.to
  pub inside : run.to ≤ blocks
  pub few : run.marked ≤ run.to - run.from

-- a call of the file's device failed
abbrev pub is_fault : Met → Bool
is_fault Nothing = false
is_fault Absent = false
is_fault Longer = false
is_fault Unmeasured = true
is_fault Unread = true

-- the data file is longer than the torrent says
abbrev pub is_longer : Met → Bool
is_longer Nothing = false
is_longer Absent = false
is_longer Longer = true
is_longer Unmeasured = false
is_longer Unread = false
