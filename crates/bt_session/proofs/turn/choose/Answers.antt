use Rattle.std.proofs.Common.{◌≡◌, ap}
use Rattle.bt_machine.specs.Output.{Output}
use Rattle.bt_session.proofs.Takes.{fits_too, choice_sent, not_chosen}
use Rattle.bt_session.proofs.turn.choose.Goals as goal

pub returns-in-Ok-clause-part : goal.returns-in-Ok-clause-part
returns-in-Ok-clause-part g c remaining flushing given taken first h few =
    let sent : c.deref.result.now ≡ c.in-Ok.output.send = cc (ap (λ (o : Output). o.send) c.output.view_is, c.deref.ensures.value) in
    choice_sent g.D.Disk.conduct g.H.NodeHash.digest _ _ _ given taken first _ _ remaining _ _ c.in-Ok.output _ _ c.in-Ok.ensures.step
    sent c.write_frames.ensures.written h few

pub returns-in-Err-clause-part : goal.returns-in-Err-clause-part
returns-in-Err-clause-part g c remaining flushing given taken first h few =
    not_chosen g.D.Disk.conduct g.H.NodeHash.digest _ _ _ given taken first _ _ remaining _ _ c.in-Err.ensures.step h few

pub write_frames-requires : goal.write_frames-requires
write_frames-requires g c =
    let sent : c.deref.result.now ≡ c.in-Ok.output.send = cc (ap (λ (o : Output). o.send) c.output.view_is, c.deref.ensures.value) in
    record { fit = fits_too _ _ sent c.in-Ok.ensures.fit }
