use Rattle.std.proofs.Common.{refl, rules}
use Rattle.std.proofs.lemmas.Result.{err_from_is_err_and}
use Rattle.std.specs.Vec.Iter.{into_iter_items}
use Rattle.bt_make.proofs.FolderFiles.{all_files, file_next, files_begun, folder_next, measured_added, measured_fault, measured_none, measured_same}
use Rattle.bt_make.proofs.command.measured_files.Goals as goal
use Rattle.bt_make.proofs.command.measured_files.Goals.{in-Folder, in-File+in_ok-counts-in-File}

pub loop-entry-init : goal.loop-entry-init
loop-entry-init g c =
    measured_none _ _ _ _ _ _ c.new-files.ensures.items c.new-counts.ensures.files c.new-counts.ensures.pieces
    (files_begun _ _ _ c.new-path.ensures.items c.into_iter-entry-iterator.ensures.into_iter_gives.0)

pub loop-entry-preserved : goal.loop-entry-preserved
loop-entry-preserved g c = elim c.match-entry.branch [
  | in-Folder w ↦ rw (w.counts-is, w.files-is) (measured_same _ _ _ _ _ _ _
      (folder_next _ _ _ _ c.in-Some.entry c.in-Some.ensures.steps.0 c.in_ok-follow.ensures w.in-Folder.is) c.loop-entry.invariant)
  | in-File+in_ok-counts-in-File w ↦
      rw (w.counts-is, w.files-is) (measured_added _ _ _ _ _ _ _ _ _ _ _
      (file_next _ _ _ _ c.in-Some.entry _ c.in-Some.ensures.steps.0 c.in_ok-follow.ensures w.in-File.is refl)
      (rw w.deref.ensures.value at w.in_ok-counts-in-File.ensures.added) c.loop-entry.invariant)
]

pub returns-in_err-counts-in-File-clause-fault : goal.returns-in_err-counts-in-File-clause-fault
returns-in_err-counts-in-File-clause-fault g c =
    let q = err_from_is_err_and c.from_residual-in_err-counts-in-File.result c.from_residual-in_err-counts-in-File.ensures.1 in
    rw (q.1, q.2) (measured_fault _ _ _ _ _ _ c.follow.new.path _ _
    (file_next _ _ _ _ c.in-Some.entry _ c.in-Some.ensures.steps.0 c.in_ok-follow.ensures c.in-File.is refl) c.loop-entry.invariant
    (rw c.deref.ensures.value at c.in_err-counts-in-File.ensures.fault))

pub returns-clause-each : goal.returns-clause-each
returns-clause-each g c = all_files _ _ _ (into_iter_items c.loop-entry.entry-iterator) c.loop-entry.invariant.each (search rules)
