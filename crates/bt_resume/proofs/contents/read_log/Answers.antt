use Rattle.bt_disk.specs.Calls.{length_fault}
use Rattle.bt_disk.proofs.CallLists.{has_one}
use Rattle.bt_resume.specs.ResumeLog.{no_length}
use Rattle.bt_resume.proofs.Readings.{has_nothing, reads_later}
use Rattle.bt_resume.proofs.contents.read_log.Goals as goal

pub returns-in_default-clause-reads : goal.returns-in_default-clause-reads
returns-in_default-clause-reads g c =
    let d = g.D.Disk in
    let w = c.in_default.ensures in
    no_length c.len.new.self (has_one d.conduct c.args.disk.now length_fault c.len.new.self w.counted w.as_honest w.answered)

pub returns-clause-reads : goal.returns-clause-reads
returns-clause-reads g c =
    let d = g.D.Disk in
    let w = c.in-Ok.ensures in
    reads_later d.conduct c.args.infohash.now c.args.disk.now c.len.new.self c.read_contents.new.disk _
    (has_nothing d.conduct c.args.disk.now c.len.new.self w.counted w.as_honest (λ h. (w.answered h).1)) c.read_contents.ensures.reads
