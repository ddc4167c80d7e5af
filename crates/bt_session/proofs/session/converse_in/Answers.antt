use Rattle.std.proofs.Common.{◌≡◌, Some, None, ap}
use Rattle.bt_machine.specs.Output.{Output}
use Rattle.bt_session.specs.Progress.{place}
use Rattle.bt_session.proofs.Takes.{fits_too}
use Rattle.bt_session.proofs.Whole.{not_greeted, greeted}
use Rattle.bt_session.proofs.session.converse_in.Goals as goal

pub write_frames-requires : goal.write_frames-requires
write_frames-requires g c =
    let sent : c.deref.result.now ≡ c.args.greeting.now.send = cc (ap (λ (o : Output). o.send) c.greeting.view_is, c.deref.ensures.value) in
    record { fit = fits_too _ _ sent c.requires.fit }

pub returns-in-Err-clause-ends : goal.returns-in-Err-clause-ends
returns-in-Err-clause-ends g c first step =
    let sent : c.deref.result.now ≡ c.args.greeting.now.send = cc (ap (λ (o : Output). o.send) c.greeting.view_is, c.deref.ensures.value) in
    not_greeted g.D.Disk.conduct g.H.NodeHash.digest _ _ _ c.args.turns first _ _ _ _ c.args.greeting.now _ _ step sent c.in-Err.ensures.written

pub returns-in-Some-clause-ends : goal.returns-in-Some-clause-ends
returns-in-Some-clause-ends g c first step =
    let sent : c.deref.result.now ≡ c.args.greeting.now.send = cc (ap (λ (o : Output). o.send) c.greeting.view_is, c.deref.ensures.value) in
    greeted g.D.Disk.conduct g.H.NodeHash.digest c.args.partner.key c.args.partner.until_complete c.args.partner.flushing c.args.turns first
    c.args.engine.now (g.R.Read.remaining c.args.reader.now) (g.W.Write.contents c.args.writer.now) (g.W.Write.contents c.write_frames.new.writer)
    c.args.greeting.now c.deref.result.now (Some c.in-Some.end) step sent c.in-Ok.ensures.written c.in-Some.ensures

pub returns-in-None-clause-ends : goal.returns-in-None-clause-ends
returns-in-None-clause-ends g c first step =
    let sent : c.deref.result.now ≡ c.args.greeting.now.send = cc (ap (λ (o : Output). o.send) c.greeting.view_is, c.deref.ensures.value) in
    c.take_turns.ensures.ends (place first (g.R.Read.remaining c.args.reader.now) (g.W.Write.contents c.args.writer.now))
    (greeted g.D.Disk.conduct g.H.NodeHash.digest c.args.partner.key c.args.partner.until_complete c.args.partner.flushing c.args.turns first
    c.args.engine.now (g.R.Read.remaining c.args.reader.now) (g.W.Write.contents c.args.writer.now) (g.W.Write.contents c.write_frames.new.writer)
    c.args.greeting.now c.deref.result.now None step sent c.in-Ok.ensures.written c.in-None.ensures)
