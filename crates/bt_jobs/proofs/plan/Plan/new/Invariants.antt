-- The files so far have places.
use Rattle.std.proofs.Common.{map}
use Rattle.bt_meta.specs.Files.{file_of}
use Rattle.bt_jobs.proofs.Plans.{IsPlacing}
use Rattle.bt_jobs.proofs.plan.Plan.new.Given as goal

abbrev pub invariant-loop-file : goal.invariant-loop-file
invariant-loop-file l = IsPlacing l.size.layer l.file-index (map file_of l.files) l.places l.cuts.items
