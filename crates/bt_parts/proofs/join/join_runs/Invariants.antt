-- The runs so far were joined.
use Rattle.std.proofs.Common.{◌-◌, ◌≤◌, length, take}
use Rattle.bt_parts.proofs.Chains.{IsJoining}
use Rattle.bt_parts.proofs.join.join_runs.Given as goal

abbrev pub invariant-loop-count : goal.invariant-loop-count
invariant-loop-count l = IsJoining l.file l.blocks (take l.count l.runs) l.joined × (l.count ≤ length l.runs)

abbrev pub decreases-loop-count : goal.decreases-loop-count
decreases-loop-count l = length l.runs - l.count
