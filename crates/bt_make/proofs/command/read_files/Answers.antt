use Rattle.std.proofs.Common.{rules}
use Rattle.std.proofs.lemmas.Result.{err_from_is_err_and}
use Rattle.bt_make.proofs.FolderFiles.{contents_none, contents_more, read_fault, short_next, split_all}
use Rattle.bt_make.specs.CommandSteps.{file_of_made}
use Rattle.bt_make.proofs.command.read_files.Goals as goal

pub loop-file-init : goal.loop-file-init
loop-file-init g c =
    contents_none _ _ _ _ c.new-made.ensures.items c.into_iter-file-iterator.ensures.into_iter_gives.0 c.requires

pub loop-file-preserved : goal.loop-file-preserved
loop-file-preserved g c =
    contents_more _ _ _ _ _ _ _ _ c.in-Some.ensures.steps.0 c.in_ok-push.ensures.items c.in_ok-read_file.ensures.path c.in_ok-read_file.ensures.length
    c.in_ok-read_file.ensures.digests c.loop-file.invariant

pub returns-in_err-read_file-clause-fault : goal.returns-in_err-read_file-clause-fault
returns-in_err-read_file-clause-fault g c =
    let q = err_from_is_err_and c.from_residual.result c.from_residual.ensures.1 in
    rw (q.1, q.2) (read_fault c.in-Some.file.length _ (short_next _ _ _ _ c.in-Some.file _ c.in-Some.ensures.steps.0 c.loop-file.invariant)
    c.in_err-read_file.ensures.fault)

pub returns-clause-each : goal.returns-clause-each
returns-clause-each g c = split_all file_of_made _ _ _ c.loop-file.invariant.each (search rules)
