use Rattle.std.proofs.Common.{◌≡◌, ap}
use Rattle.std.proofs.lemmas.Result.{err_from_is_err_and}
use Rattle.bt_machine.specs.Output.{Output}
use Rattle.bt_session.proofs.Takes.{fits_too, stays_alone, not_sent, output_sent, none_came, not_taken}
use Rattle.bt_session.proofs.turn.take_event.Goals as goal

pub returns-in_err-write_frames-in-Ok-Some-clause-part : goal.returns-in_err-write_frames-in-Ok-Some-clause-part
returns-in_err-write_frames-in-Ok-Some-clause-part g c remaining flushing given taken first h few =
    let p = err_from_is_err_and c.from_residual.result c.from_residual.ensures.1 in
    let sent : c.deref.result.now ≡ c.in-Ok-Some.output.send = cc (ap (λ (o : Output). o.send) c.output.view_is, c.deref.ensures.value) in
    rw (p.1, p.2)
    (not_sent g.D.Disk.conduct g.H.NodeHash.digest _ _ _ given taken first _ _ remaining _ _ c.in-Ok-Some.output _ _
    (rw c.in-Ok-Some.field-0-is at c.in-Ok-Some.ensures.step) sent c.in_err-write_frames-in-Ok-Some.ensures.written h few)

pub returns-in-Some-clause-part : goal.returns-in-Some-clause-part
returns-in-Some-clause-part g c remaining flushing given taken first h few =
    let sent : c.deref.result.now ≡ c.in-Ok-Some.output.send = cc (ap (λ (o : Output). o.send) c.output.view_is, c.deref.ensures.value) in
    let closed : c.output.inside.close ≡ c.in-Ok-Some.output.close = cc (ap (λ (o : Output). o.close) c.output.view_is) in
    output_sent g.D.Disk.conduct g.H.NodeHash.digest _ _ _ given taken first _ _ remaining _ _ c.in-Ok-Some.output _ _ _
    (rw c.in-Ok-Some.field-0-is at c.in-Ok-Some.ensures.step) sent closed c.in_ok-write_frames-in-Ok-Some.ensures.written c.in-Some.ensures h few

pub returns-in-Ok-Some-clause-part : goal.returns-in-Ok-Some-clause-part
returns-in-Ok-Some-clause-part g c remaining flushing given taken first h few =
    let sent : c.deref.result.now ≡ c.in-Ok-Some.output.send = cc (ap (λ (o : Output). o.send) c.output.view_is, c.deref.ensures.value) in
    let closed : c.output.inside.close ≡ c.in-Ok-Some.output.close = cc (ap (λ (o : Output). o.close) c.output.view_is) in
    output_sent g.D.Disk.conduct g.H.NodeHash.digest _ _ _ given taken first _ _ remaining _ _ c.in-Ok-Some.output _ _ _
    (rw c.in-Ok-Some.field-0-is at c.in-Ok-Some.ensures.step) sent closed c.in_ok-write_frames-in-Ok-Some.ensures.written c.in-None.ensures h few

pub returns-in-Ok-None-clause-part : goal.returns-in-Ok-None-clause-part
returns-in-Ok-None-clause-part g c remaining flushing given taken first h few =
    none_came g.D.Disk.conduct g.H.NodeHash.digest _ _ _ taken first _ _ remaining _
    (rw c.in-Ok-None.field-0-is at c.in-Ok-None.ensures.step) h

pub returns-clause-part : goal.returns-clause-part
returns-clause-part g c remaining flushing given taken first h few =
    not_taken g.D.Disk.conduct g.H.NodeHash.digest _ _ _ given taken first _ _ remaining _ _ c.in-Err.ensures.step
    c.in-Err.ensures.leaves.0 h few

pub write_frames-requires : goal.write_frames-requires
write_frames-requires g c =
    let sent : c.deref.result.now ≡ c.in-Ok-Some.output.send = cc (ap (λ (o : Output). o.send) c.output.view_is, c.deref.ensures.value) in
    record { fit = fits_too _ _ sent (rw c.in-Ok-Some.field-0-is at c.in-Ok-Some.ensures.fit) }

pub returns-in-Ok-Some-clause-stays : goal.returns-in-Ok-Some-clause-stays
returns-in-Ok-Some-clause-stays g c =
    let closed : c.output.inside.close ≡ c.in-Ok-Some.output.close = cc (ap (λ (o : Output). o.close) c.output.view_is) in
    stays_alone c.args.partner.key c.args.partner.until_complete c.args.engine.now.state c.next.new.engine.state
    c.in-Ok-Some.output c.output.inside.close
    (rw c.in-Ok-Some.field-0-is at c.in-Ok-Some.ensures.leaves) closed c.in-None.ensures
