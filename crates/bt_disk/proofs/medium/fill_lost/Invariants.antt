use Rattle.std.proofs.Common.{◌≡◌, ℕ, ◌<◌, ◌≤◌, length, slice_index, get_or}
use Rattle.bt_disk.specs.State.{IsOutside}
use Rattle.bt_disk.specs.MemoryDisk.{HasOnly}
use Rattle.bt_disk.proofs.medium.fill_lost.Given as goal

abbrev pub invariant-loop-range : goal.invariant-loop-range
invariant-loop-range l = record {
  size : length l.bytes ≡ length l.fn.bytes;
  kept : (i : ℕ) → i < l.least → IsOutside i l.ranges → slice_index l.bytes i ≡ slice_index l.fn.bytes i;
  past : (i : ℕ) → i < length l.bytes → l.least ≤ i → slice_index l.bytes i ≡ l.byte;
  written : (k : ℕ) (d : ℕ × ℕ) → k < l.range-index → HasOnly l.byte l.bytes (get_or l.ranges k d);
}
