-- The files so far are joined.
use Rattle.std.proofs.Common.{map, drop}
use Rattle.bt_meta.specs.Files.{file_of}
use Rattle.bt_jobs.specs.Report.{finding_of}
use Rattle.bt_jobs.proofs.Reports.{JoinsRest}
use Rattle.bt_jobs.proofs.report.heard_of.Given as goal

abbrev pub invariant-loop-number : goal.invariant-loop-number
invariant-loop-number l =
    JoinsRest l.number (map file_of l.files) (drop l.number (map file_of l.files)) l.runs l.rest (map finding_of l.heard.items)
