use Rattle.std.proofs.Common.{◌≡◌, ◌<◌, List, Some, None, Ok, Err, get_or, ap, sym, subst, ◌∙◌, refl, arith, length}
use Rattle.std.proofs.lemmas.List.{get_or_default}
use Rattle.bt_book.specs.declared.names.PeerKey.{PeerKey}
use Rattle.bt_machine.specs.declared.error.EngineError.{EngineError}
use Rattle.bt_machine.specs.declared.event.Event.TheVariants.{Next}
use Rattle.bt_machine.specs.declared.event.Answer.TheVariants.{Stepped}
use Rattle.bt_machine.specs.Output.{Output, Sent}
use Rattle.bt_session.specs.Frames.{AllFit}
use Rattle.bt_swarm.specs.declared.member.Member.{Member}
use Rattle.bt_session.specs.Failures.{OneFailed}
use Rattle.bt_swarm.specs.Causes.{ReadFailed}
use Rattle.bt_swarm.proofs.Causing.{ClosesNobody}
use Rattle.bt_swarm.proofs.Moving.{goes_alone, goes_amiss, goes_closed, goes_quietly, goes_sent, goes_trans}
use Rattle.bt_swarm.proofs.turn.take_event.Goals as goal

-- the frames of an output can be written
fits_too : (send out : List Sent) → send ≡ out → AllFit out → AllFit send
fits_too send out is fit = subst AllFit (sym is) fit

-- events that close nobody
closes_none : (key : PeerKey) (o : Output) → o.close ≡ None → ClosesNobody (Next key) (Stepped (Ok (Some o)))
closes_none key o unclosed k out why is answer ends =
    let same : o ≡ out = cc in
    let no : None ≡ Some why = sym unclosed ∙ ap (λ (p : Output). p.close) same ∙ ends in cc

none_closes : (key : PeerKey) → ClosesNobody (Next key) (Stepped (Ok None))
none_closes key k out why is answer ends = cc

error_closes : (key : PeerKey) (e : EngineError) → ClosesNobody (Next key) (Stepped (Err e))
error_closes key e k out why is answer ends = cc

pub deliver-requires : goal.deliver-requires
deliver-requires g c =
    let sent : c.deref.result.now ≡ c.in-Ok-Some.output.send = cc (ap (λ (o : Output). o.send) c.output.view_is, c.deref.ensures.value) in
    record { fit = fits_too _ _ sent (rw c.in-Ok-Some.field-0-is at c.in-Ok-Some.ensures.fit) }

pub returns-in-Ok-Some : goal.returns-in-Ok-Some
returns-in-Ok-Some g c =
    let sent : c.deref.result.now ≡ c.in-Ok-Some.output.send = cc (ap (λ (o : Output). o.send) c.output.view_is, c.deref.ensures.value) in
    let unclosed : c.in-Ok-Some.output.close ≡ None = cc (ap (λ (o : Output). o.close) c.output.view_is, c.in-None.is) in
    record {
      goes = goes_sent g.G.R.Read.remaining g.G.W.QueuedWriter.contents g.D.Disk.conduct g.H.NodeHash.digest (ReadFailed g.G.R.WatchedReader.has_failed g.G.Gate.is_troubled) (OneFailed g.G.W.QueuedWriter.has_failed) _ _ _ _ c.deref.result.now _ _
          (rw c.in-Ok-Some.field-0-is at c.in-Ok-Some.ensures.step) refl (λ k. refl) (closes_none _ c.in-Ok-Some.output unclosed) sent c.deliver.ensures;
    }

pub returns-in-Some : goal.returns-in-Some
returns-in-Some g c =
    let sent : c.deref.result.now ≡ c.in-Ok-Some.output.send = cc (ap (λ (o : Output). o.send) c.output.view_is, c.deref.ensures.value) in
    let within : c.args.at < length c.deliver.new.members = omega (arith, c.deliver.ensures.same_length, c.requires.within) in
    let closes : c.in-Ok-Some.output.close ≡ Some c.in-Some.why = cc (ap (λ (o : Output). o.close) c.output.view_is, c.in-Some.is) in
    let d = c.index-members-at-in-Some.result in
    let m = get_or c.args.members.now c.args.at c.index-members-at.result in
    let key : (get_or c.deliver.new.members c.args.at d).key ≡ m.key =
    (c.deliver.ensures.each c.args.at d c.requires.within).same_key
    ∙ ap (λ (o : Member g.row.G-R.Denot g.row.G-W.Denot). o.key) (get_or_default c.args.members.now c.args.at d c.index-members-at.result c.requires.within) in
    record {
      goes = goes_closed g.G.R.Read.remaining g.G.W.QueuedWriter.contents g.D.Disk.conduct g.H.NodeHash.digest (ReadFailed g.G.R.WatchedReader.has_failed g.G.Gate.is_troubled) (OneFailed g.G.W.QueuedWriter.has_failed) _ _ m.key c.in-Ok-Some.output c.deref.result.now c.in-Some.why _ _ c.args.at d c.put_end.new.member
          (rw c.in-Ok-Some.field-0-is at c.in-Ok-Some.ensures.step) sent closes c.deliver.ensures within key c.requires.own_keys c.put_end.result c.put_end.ensures.ended c.put_end.ensures.moves;
    }

pub returns-in-Ok-None : goal.returns-in-Ok-None
returns-in-Ok-None g c = record {
  goes = goes_trans g.G.R.Read.remaining g.G.W.QueuedWriter.contents g.D.Disk.conduct g.H.NodeHash.digest (ReadFailed g.G.R.WatchedReader.has_failed g.G.Gate.is_troubled) (OneFailed g.G.W.QueuedWriter.has_failed) _ _ _ _ _ _
      (goes_quietly g.G.R.Read.remaining g.G.W.QueuedWriter.contents g.D.Disk.conduct g.H.NodeHash.digest (ReadFailed g.G.R.WatchedReader.has_failed g.G.Gate.is_troubled) (OneFailed g.G.W.QueuedWriter.has_failed) _ _ _ _ c.args.members.now (rw c.in-Ok-None.field-0-is at c.in-Ok-None.ensures.step) refl (λ k. refl) (λ k. refl) (none_closes _))
      (goes_alone g.G.R.Read.remaining g.G.W.QueuedWriter.contents g.D.Disk.conduct g.H.NodeHash.digest (ReadFailed g.G.R.WatchedReader.has_failed g.G.Gate.is_troubled) (OneFailed g.G.W.QueuedWriter.has_failed) c.next.new.engine _ c.args.members.now c.args.at c.index-members-at-in-Ok-None.result c.note_events.new.member
      c.requires.within (λ end no. absurd no) c.note_events.ensures);
}

pub returns : goal.returns
returns g c = record {
  goes = goes_trans g.G.R.Read.remaining g.G.W.QueuedWriter.contents g.D.Disk.conduct g.H.NodeHash.digest (ReadFailed g.G.R.WatchedReader.has_failed g.G.Gate.is_troubled) (OneFailed g.G.W.QueuedWriter.has_failed) _ _ _ _ _ _
      (goes_quietly g.G.R.Read.remaining g.G.W.QueuedWriter.contents g.D.Disk.conduct g.H.NodeHash.digest (ReadFailed g.G.R.WatchedReader.has_failed g.G.Gate.is_troubled) (OneFailed g.G.W.QueuedWriter.has_failed) _ _ _ _ c.args.members.now c.in-Err.ensures.step refl (λ k. refl) (λ k. refl) (error_closes _ _))
      (goes_amiss g.G.R.Read.remaining g.G.W.QueuedWriter.contents g.D.Disk.conduct g.H.NodeHash.digest (ReadFailed g.G.R.WatchedReader.has_failed g.G.Gate.is_troubled) (OneFailed g.G.W.QueuedWriter.has_failed) c.next.new.engine c.args.members.now c.args.at c.index-members-at-in-Err.result c.put_end-in-Err.new.member _
      c.requires.within tt c.put_end-in-Err.ensures.moves);
}
