-- None of the files so far is the one at the path.
use Rattle.std.proofs.Common.{false, map}
use Rattle.bt_meta.specs.Files.{file_of}
use Rattle.bt_log_file.specs.Looking.{IsAt}
use Rattle.bt_log_file.proofs.Refusals.{EachBefore}
use Rattle.bt_log_file.proofs.looking.is_among.Given as goal

abbrev pub invariant-loop-file : goal.invariant-loop-file
invariant-loop-file g l =
    EachBefore (λ file. IsAt (g.R.Lookup.tells l.rt) l.dir l.path l.found file.path false) (map file_of l.files) l.file-index
