-- Definitions that only private steps cite: how a device in memory keeps its record.
use Rattle.std.specs.Prelude.{◌≡◌, ℕ, List, Option, Some, None}
use Rattle.std.specs.Global.{Vec}
use Rattle.bt_disk.specs.Calls.{Call, bytes_written, length_set, sync_made}
use Rattle.bt_disk.specs.State.{State}
use Rattle.bt_disk.specs.MemoryDisk.{Record, history_of}
use Rattle.bt_disk.specs.declared.medium.Change.{Change}
use Rattle.bt_disk.specs.declared.medium.Change.TheVariants.{Write, SetLen, Sync}

abbrev pub call_of : Change → Call
call_of (Write at bytes) = bytes_written at bytes.items
call_of (SetLen len) = length_set len
call_of Sync = sync_made

-- the bytes at first: those that are kept, or the present ones where none are
abbrev pub first_of : Option (Vec ℕ) → List ℕ → List ℕ
first_of (Some kept) bytes = kept.items
first_of None bytes = bytes

-- the record leads to these bytes, ranges and least length
pub record LeadsTo (kept : Record) (bytes : List ℕ) (ranges : List (ℕ × ℕ)) (least : ℕ) : Type 0 where
  pub bytes_now : (history_of kept).now.bytes ≡ bytes
  pub ranges_now : (history_of kept).now.ranges ≡ ranges
  pub least_now : (history_of kept).now.least_length ≡ least

-- the state with these parts
abbrev pub state_of : List ℕ → List (ℕ × ℕ) → ℕ → ℕ → State
state_of bytes ranges least greatest = record {
  bytes = bytes;
  ranges = ranges;
  least_length = least;
  greatest_length = greatest;
}
