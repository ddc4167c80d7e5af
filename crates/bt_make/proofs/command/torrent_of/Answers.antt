use Rattle.std.proofs.Common.{rules, ◌∙◌}
use Rattle.std.proofs.lemmas.Result.{err_from_is_err_and}
use Rattle.bt_make.proofs.FolderFiles.{paths_kept}
use Rattle.bt_make.proofs.MadeFiles.{originals}
use Rattle.bt_make.proofs.MakeFault.{files_refused}
use Rattle.bt_make.proofs.command.torrent_of.Goals as goal

pub returns-in_err-made-clause-fault : goal.returns-in_err-made-clause-fault
returns-in_err-made-clause-fault g c =
    let q = err_from_is_err_and c.from_residual-in_err-made.result c.from_residual-in_err-made.ensures.1 in
    rw (q.1, q.2) (files_refused _ _ _ _ _ _ _ _ (paths_kept _ _ _ c.in_ok-files.ensures.each c.in_ok-files-2.ensures.each)
    c.in_ok-files-2.ensures.contents c.as_bytes.ensures.value c.deref.ensures.value c.in_err-made.ensures.refused)

pub returns-clause-torrent : goal.returns-clause-torrent
returns-clause-torrent g c =
    let each = paths_kept _ _ _ c.in_ok-files.ensures.each c.in_ok-files-2.ensures.each in
    let text = c.in_ok-made.ensures.made in
    let hash = c.in_ok-made.ensures.infohash _ text.torrent in
    let files = originals _ _ c.in_ok-files-2.ensures.contents in
    let told = rw c.deref.ensures.value at text in
    let made = c.torrents_are_made_from_files.ensures _ _ _ files.0 _ _ files.2 told text.torrent in
    let named = files.1 ∙ each in
    search (rules, each, hash, named, made)
