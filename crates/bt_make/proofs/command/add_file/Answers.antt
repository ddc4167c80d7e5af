use Rattle.std.proofs.Common.{inr, refl}
use Rattle.std.proofs.lemmas.Result.{err_from_is_err_and}
use Rattle.bt_make.proofs.FolderFiles.{file_refused}
use Rattle.bt_make.proofs.command.add_file.Goals as goal

pub returns-in_err-counts-clause-fault : goal.returns-in_err-counts-clause-fault
returns-in_err-counts-clause-fault g c =
    let q = err_from_is_err_and c.from_residual-in_err-counts.result c.from_residual-in_err-counts.ensures.1 in
    rw (q.1, q.2) (inr (inr (file_refused _ _ _ _ _ _ _ refl c.in_err-counts.ensures.refused)))

pub returns-clause-added : goal.returns-clause-added
returns-clause-added g c =
    let file = c.in_ok-file_with.field-0 in
    let length_is = c.in_ok-file_with.ensures.length in
    record {
      file = file;
      behind = c.in_ok-push.ensures.items;
      named = c.in_ok-file_with.ensures.path;
      passes = rw length_is c.in_ok-counts.ensures.refused;
      short = rw length_is c.in_ok-counts.ensures.short;
      count = c.in_ok-counts.ensures.files;
      sum = rw length_is c.in_ok-counts.ensures.pieces;
    }
