-- None of the files so far is the one at the path by such a name.
use Rattle.std.proofs.Common.{map}
use Rattle.bt_meta.specs.Files.{file_of}
use Rattle.bt_log_file.specs.Names.{IsNoFileByName}
use Rattle.bt_log_file.proofs.Refusals.{EachBefore}
use Rattle.bt_log_file.proofs.names.is_own_name.Given as goal

abbrev pub invariant-loop-file : goal.invariant-loop-file
invariant-loop-file g l =
    EachBefore (λ file. IsNoFileByName (g.R.Lookup.tells l.rt) (g.R.Lookup.lists l.rt) l.dir file.path l.path) (map file_of l.files) l.file-index
