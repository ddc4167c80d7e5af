use Rattle.std.proofs.Common.{arith, ◌∙◌}
use Rattle.std.proofs.lemmas.List.{length-take}
use Rattle.bt_resume.proofs.Readings.{read_none, window_more, window_last, read_to_end}
use Rattle.bt_resume.proofs.contents.read_hints.Goals as goal

pub loop-end-init : goal.loop-end-init
loop-end-init g c =
    let d = g.D.Disk in
    rw c.new-hints.ensures (read_none d.conduct c.args.format c.args.len c.args.disk.now)

pub loop-end-preserved : goal.loop-end-preserved
loop-end-preserved g c =
    let d = g.D.Disk in
    let w = c.in_ok-used.ensures in
    rw w.2 (window_more d.conduct c.args.format c.args.len c.args.disk.now c.loop-end.disk c.read_window.new.disk c.loop-end.hints w.0
    c.loop-end.end _ c.in_ok-used.used c.loop-end.invariant w.1
    (omega (arith, length-take c.min-room.result c.loop-end.window, c.min-room.ensures, c.loop-end-test.true)))

pub returns-then-used-eq0 : goal.returns-then-used-eq0
returns-then-used-eq0 g c =
    let d = g.D.Disk in
    let w = c.in_ok-used.ensures in
    window_last d.conduct c.args.format c.args.len c.args.disk.now c.loop-end.disk c.read_window.new.disk c.loop-end.hints w.0
    c.loop-end.end _ _ c.loop-end.invariant (rw c.if-used-eq0.true at w.1) c.loop-end-test.true
    (omega (arith, length-take c.min-room.result c.loop-end.window, c.min-room.ensures)) c.requires.within c.requires.len (c.new.ensures.hints ∙ w.2) (rw c.new.ensures.hints c.new.ensures.end)

pub returns : goal.returns
returns g c =
    let d = g.D.Disk in
    read_to_end d.conduct c.args.format c.args.len c.args.disk.now c.loop-end.disk _ c.loop-end.end (rw c.new-2.ensures.hints c.loop-end.invariant) (rw c.new-2.ensures.hints c.new-2.ensures.end) c.loop-end-test.false c.requires.within c.requires.len
