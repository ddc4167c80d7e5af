use Rattle.std.proofs.Common.{[], ◌≡◌, List, ◌∷◌, ◌++◌, false, None, ap, sym, subst, refl, ◌∙◌}
use Rattle.std.proofs.lemmas.List.{with_items_is}
use Rattle.bt_book.specs.declared.names.PeerKey.{PeerKey}
use Rattle.bt_machine.specs.declared.event.Event.TheVariants.{Connect, Next}
use Rattle.bt_machine.specs.Output.{Output, Sent}
use Rattle.bt_session.specs.Frames.{frames_to, AllFit}
use Rattle.bt_session.specs.Failures.{OneFailed}
use Rattle.bt_swarm.specs.Causes.{IsFaultOf, ReadFailed}
use Rattle.bt_swarm.proofs.Keys.{keyed_joins, keyed_kept, step_keeps}
use Rattle.bt_swarm.proofs.Moving.{each_none, goes_quietly}
use Rattle.bt_swarm.proofs.Going.{on_joins, on_nowhere, on_refuses}
use Rattle.bt_swarm.proofs.swarm.join.Goals as goal

fits_too : (send out : List Sent) → send ≡ out → AllFit out → AllFit send
fits_too send out is fit = subst AllFit (sym is) fit

connect_no_next : (k : PeerKey) → Connect ≡ Next k → ⊥
connect_no_next k same = cc

pub deliver-requires : goal.deliver-requires
deliver-requires g c =
    let sent : c.deref.result.now ≡ c.in-Ok.greeting.send = cc (ap (λ (o : Output). o.send) c.greeting.view_is, c.deref.ensures.value) in
    record { fit = fits_too _ _ sent c.in-Ok.ensures.fit }

pub returns-then-is_err : goal.returns-then-is_err
returns-then-is_err g c = record {
  keyed = rw c.reserve.ensures.items c.requires.keyed;
  swarm = rw c.reserve.ensures.items (on_nowhere g.D.Disk.conduct g.H.NodeHash.digest (ReadFailed g.G.R.WatchedReader.has_failed g.G.Gate.is_troubled) (OneFailed g.G.W.QueuedWriter.has_failed) g.G.Gate.gives g.G.R.Read.remaining g.G.W.QueuedWriter.contents g.G.Gate.leads c.args.engine.now c.args.members.now.items c.args.gate.now c.args.gate.now (g.met.G.Gate.leads_nowhere c.args.gate.now));
  waits = refl;
}

pub returns-in_default-clause-swarm : goal.returns-in_default-clause-swarm
returns-in_default-clause-swarm g c =
    rw c.reserve.ensures.items (on_nowhere g.D.Disk.conduct g.H.NodeHash.digest (ReadFailed g.G.R.WatchedReader.has_failed g.G.Gate.is_troubled) (OneFailed g.G.W.QueuedWriter.has_failed) g.G.Gate.gives g.G.R.Read.remaining g.G.W.QueuedWriter.contents g.G.Gate.leads c.args.engine.now c.args.members.now.items c.args.gate.now c.accept.new.self c.in_default.ensures.led)

pub returns-in_default-connect : goal.returns-in_default-connect
returns-in_default-connect g c =
    let kept = step_keeps g.D.Disk.conduct g.H.NodeHash.digest _ _ _ _ c.in_default-connect.ensures.step refl in record {
      keyed = rw c.reserve.ensures.items (keyed_kept g.G.R.Read.remaining g.G.W.QueuedWriter.contents (λ k. []) (λ k. []) (λ k. IsFaultOf g.G.R.WatchedReader.has_failed g.G.W.QueuedWriter.has_failed g.G.Gate.is_troubled) _ _ _ _
          (each_none g.G.R.Read.remaining g.G.W.QueuedWriter.contents (λ k. IsFaultOf g.G.R.WatchedReader.has_failed g.G.W.QueuedWriter.has_failed g.G.Gate.is_troubled) c.args.members.now.items) kept.0 kept.1 c.requires.keyed);
      swarm = rw c.reserve.ensures.items (on_refuses g.D.Disk.conduct g.H.NodeHash.digest (ReadFailed g.G.R.WatchedReader.has_failed g.G.Gate.is_troubled) (OneFailed g.G.W.QueuedWriter.has_failed) g.G.Gate.gives g.G.R.Read.remaining g.G.W.QueuedWriter.contents g.G.Gate.leads c.args.place _ _ _ _ c.args.gate.now c.tell.new.self
          (g.met.G.Gate.leads_on c.args.gate.now c.accept.new.self c.tell.new.self _ _ c.in-Some.ensures.led c.tell.ensures.led)
          (goes_quietly g.G.R.Read.remaining g.G.W.QueuedWriter.contents g.D.Disk.conduct g.H.NodeHash.digest (ReadFailed g.G.R.WatchedReader.has_failed g.G.Gate.is_troubled) (OneFailed g.G.W.QueuedWriter.has_failed) _ _ _ _ c.args.members.now.items c.in_default-connect.ensures.step refl (λ k. refl) (λ k. refl) (λ k out why is. absurd (connect_no_next k is))));
      waits = c.tell.ensures.counted ∙ c.accept.ensures.counted;
    }

pub returns : goal.returns
returns g c =
    let sent : c.deref.result.now ≡ c.in-Ok.greeting.send = cc (ap (λ (o : Output). o.send) c.greeting.view_is, c.deref.ensures.value) in
    let pushed : c.as_mut_slice.result.now ≡ c.args.members.now.items ++ record { key = c.in-Ok.key; place = c.args.place; reader = c.in-Some.reader; writer = c.in-Some.writer; may_have_events = false; end = None } ∷ [] =
    cc (c.as_mut_slice.ensures.value, c.push_reserved.ensures.items, c.reserve.ensures.items) in
    record {
      keyed = rw (with_items_is c.push_reserved.new.self c.deliver.new.members (c.deliver.ensures.same_length ∙ c.as_mut_slice.ensures.len))
          (keyed_joins g.G.R.Read.remaining g.G.W.QueuedWriter.contents g.D.Disk.conduct g.H.NodeHash.digest (λ k. []) (λ k. frames_to k c.deref.result.now) (λ k. IsFaultOf g.G.R.WatchedReader.has_failed g.G.W.QueuedWriter.has_failed g.G.Gate.is_troubled)
          c.args.engine.now c.connect.new.engine c.in-Ok.greeting c.args.members.now.items c.as_mut_slice.result.now c.deliver.new.members
          (record { key = c.in-Ok.key; place = c.args.place; reader = c.in-Some.reader; writer = c.in-Some.writer; may_have_events = false; end = None })
          c.requires.keyed c.in-Ok.ensures.step pushed c.deliver.ensures);
      swarm = rw (with_items_is c.push_reserved.new.self c.deliver.new.members (c.deliver.ensures.same_length ∙ c.as_mut_slice.ensures.len))
          (on_joins g.D.Disk.conduct g.H.NodeHash.digest (ReadFailed g.G.R.WatchedReader.has_failed g.G.Gate.is_troubled) (OneFailed g.G.W.QueuedWriter.has_failed) g.G.Gate.gives g.G.R.Read.remaining g.G.W.QueuedWriter.contents g.G.Gate.leads c.args.place _ _ c.args.members.now.items c.as_mut_slice.result.now c.deliver.new.members
          (record { key = c.in-Ok.key; place = c.args.place; reader = c.in-Some.reader; writer = c.in-Some.writer; may_have_events = false; end = None }) c.in-Ok.greeting c.deref.result.now _ _
          c.in-Ok.ensures.step c.in-Some.ensures.given refl refl pushed sent c.deliver.ensures c.in-Some.ensures.led);
      waits = c.accept.ensures.counted;
    }
