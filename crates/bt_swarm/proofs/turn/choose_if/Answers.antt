use Rattle.std.proofs.Common.{◌≡◌, List, ap, sym, subst, refl}
use Rattle.bt_book.specs.declared.names.PeerKey.{PeerKey}
use Rattle.bt_machine.specs.declared.event.Event.TheVariants.{Next, Rechoke}
use Rattle.bt_machine.specs.Output.{Output, Sent}
use Rattle.bt_session.specs.Frames.{AllFit}
use Rattle.bt_session.specs.Failures.{OneFailed}
use Rattle.bt_swarm.specs.Causes.{ReadFailed}
use Rattle.bt_swarm.proofs.Moving.{goes_nowhere, goes_quietly, goes_sent}
use Rattle.bt_swarm.proofs.turn.choose_if.Goals as goal

-- the frames of an output can be written
fits_too : (send out : List Sent) → send ≡ out → AllFit out → AllFit send
fits_too send out is fit = subst AllFit (sym is) fit

rechoke_no_next : (k : PeerKey) → Rechoke ≡ Next k → ⊥
rechoke_no_next k same = cc

pub deliver-requires : goal.deliver-requires
deliver-requires g c =
    let sent : c.deref.result.now ≡ c.in-Ok.output.send = cc (ap (λ (o : Output). o.send) c.output.view_is, c.deref.ensures.value) in
    record { fit = fits_too _ _ sent c.in-Ok.ensures.fit }

pub returns-then-not-due : goal.returns-then-not-due
returns-then-not-due g c = record {
  goes = goes_nowhere g.G.R.Read.remaining g.G.W.QueuedWriter.contents g.D.Disk.conduct g.H.NodeHash.digest (ReadFailed g.G.R.WatchedReader.has_failed g.G.Gate.is_troubled) (OneFailed g.G.W.QueuedWriter.has_failed) c.args.engine.now c.args.members.now;
}

pub returns-in-Ok : goal.returns-in-Ok
returns-in-Ok g c =
    let sent : c.deref.result.now ≡ c.in-Ok.output.send = cc (ap (λ (o : Output). o.send) c.output.view_is, c.deref.ensures.value) in
    record {
      goes = goes_sent g.G.R.Read.remaining g.G.W.QueuedWriter.contents g.D.Disk.conduct g.H.NodeHash.digest (ReadFailed g.G.R.WatchedReader.has_failed g.G.Gate.is_troubled) (OneFailed g.G.W.QueuedWriter.has_failed) _ _ _ _ c.deref.result.now _ _
          c.in-Ok.ensures.step refl (λ k. refl) (λ k out why is. absurd (rechoke_no_next k is)) sent c.deliver.ensures;
    }

pub returns-in-Err : goal.returns-in-Err
returns-in-Err g c = record {
  goes = goes_quietly g.G.R.Read.remaining g.G.W.QueuedWriter.contents g.D.Disk.conduct g.H.NodeHash.digest (ReadFailed g.G.R.WatchedReader.has_failed g.G.Gate.is_troubled) (OneFailed g.G.W.QueuedWriter.has_failed) _ _ _ _ c.args.members.now c.in-Err.ensures.step refl (λ k. refl) (λ k. refl) (λ k out why is. absurd (rechoke_no_next k is));
}
