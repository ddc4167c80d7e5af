-- The bytes so far were taken.
use Rattle.std.proofs.Common.{ℕ, ◌≤◌, List, ◌++◌, length, take}
use Rattle.bt_jobs.specs.Told.{IsToldBy}
use Rattle.bt_jobs.proofs.told.Told.take_in.Given as goal

abbrev pub invariant-loop-byte : goal.invariant-loop-byte
invariant-loop-byte l = record {
  told : (text : List ℕ) → IsToldBy text l.fn.self → IsToldBy (text ++ take l.byte-index l.bytes) l.self;
  onward : length l.fn.self.runs.items ≤ length l.self.runs.items;
}
