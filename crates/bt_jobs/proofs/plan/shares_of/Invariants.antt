-- The shares so far are those of the cuts so far.
use Rattle.std.proofs.Common.{map, take}
use Rattle.std.specs.List.{AllZip}
use Rattle.bt_meta.specs.Files.{file_of}
use Rattle.bt_jobs.specs.Plan.{IsShareOf, total_of}
use Rattle.bt_jobs.proofs.plan.shares_of.Given as goal

abbrev pub invariant-loop-cut : goal.invariant-loop-cut
invariant-loop-cut l = AllZip (IsShareOf (total_of (map file_of l.files)) l.part) (take l.cut-index l.cut-items) l.shares.items
