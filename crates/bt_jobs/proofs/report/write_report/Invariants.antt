-- The first findings are reported.
use Rattle.std.proofs.Common.{map, take}
use Rattle.bt_meta.specs.Files.{file_of}
use Rattle.bt_jobs.specs.Report.{finding_of}
use Rattle.bt_jobs.proofs.Reports.{IsTelling}
use Rattle.bt_jobs.proofs.report.write_report.Given as goal

abbrev pub invariant-loop-number : goal.invariant-loop-number
invariant-loop-number g l =
    IsTelling (map file_of (take l.number l.files)) (map finding_of (take l.number l.heard)) l.summary (g.W.Write.contents l.fn.writer)
    (g.W.Write.contents l.writer)
