use Rattle.std.proofs.Common.{refl, ap, ◌∙◌}
use Rattle.bt_resume.specs.ResumeLog.{LogView}
use Rattle.bt_engine.specs.Reopening.{unopened}
use Rattle.bt_engine.proofs.RunReopenings.{ok_reopened, err_unstarted, refuses_none}
use Rattle.bt_engine.proofs.reopening.reopen.Goals as goal

pub start_with-requires-clause-same_torrent : goal.start_with-requires-clause-same_torrent
start_with-requires-clause-same_torrent g c = ap (λ (l : LogView g.row.D.Denot). l.infohash) c.in-Ok.ensures.log.log_is ∙ c.infohash.ensures

pub returns-in-Ok-clause-reopened : goal.returns-in-Ok-clause-reopened
returns-in-Ok-clause-reopened g c =
    ok_reopened g.D.Disk.conduct g.H.NodeHash.digest c.args.torrent c.args.disks.items c.args.log c.in-Ok.opened (rw c.infohash.ensures at c.in-Ok.ensures.log) c.start_with.result c.start_with.ensures.begun c.start_with.ensures.again c.start_with.ensures.backed

pub returns-in-Ok-clause-refused : goal.returns-in-Ok-clause-refused
returns-in-Ok-clause-refused g c =
    err_unstarted g.D.Disk.conduct g.H.NodeHash.digest c.args.torrent c.args.disks.items c.args.log c.in-Ok.opened (rw c.infohash.ensures at c.in-Ok.ensures.log) c.start_with.result c.start_with.ensures.refused

pub returns-in-Err-clause-refused : goal.returns-in-Err-clause-refused
returns-in-Err-clause-refused g c =
    let opens = rw c.infohash.ensures at c.in-Err.ensures.refused in
    unopened c.in-Err.refused.cause refl refl opens
    (refuses_none g.D.Disk.conduct g.H.NodeHash.digest c.flushed_blocks_are_marked_again.ensures.opens c.args.torrent c.args.log
    c.in-Err.refused.disk c.in-Err.refused.cause opens)
