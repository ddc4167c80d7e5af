use Rattle.std.proofs.Common.{refl, ap, sym, ◌∙◌, arith}
use Rattle.std.proofs.lemmas.List.{get_or_default}
use Rattle.bt_session.specs.Failures.{OneFailed}
use Rattle.bt_swarm.specs.Causes.{ReadFailed}
use Rattle.bt_swarm.specs.declared.member.Member.{Member}
use Rattle.bt_swarm.proofs.Going.{on_nowhere, on_left}
use Rattle.bt_swarm.proofs.swarm.leave_if_ended.Goals as goal

pub returns-in-Some : goal.returns-in-Some
returns-in-Some g c = record {
  keyed = c.leave.ensures.keyed;
  swarm = on_left g.D.Disk.conduct g.H.NodeHash.digest (ReadFailed g.G.R.WatchedReader.has_failed g.G.Gate.is_troubled) (OneFailed g.G.W.QueuedWriter.has_failed) g.G.Gate.gives g.G.R.Read.remaining g.G.W.QueuedWriter.contents g.G.Gate.leads c.args.at c.in-Some.end _ _ _ _ _ _ c.leave.ensures.left c.requires.within
      (λ d. ap (λ (o : Member g.row.G-R.Denot g.row.G-W.Denot). o.end) (get_or_default c.args.members.now.items c.args.at d c.index.result.now c.requires.within ∙ sym c.index.ensures) ∙ c.in-Some.is);
  fewer = omega (arith, c.leave.ensures.shorter);
  waits = c.leave.ensures.waits;
}

pub returns-in-None : goal.returns-in-None
returns-in-None g c = record {
  keyed = c.requires.keyed;
  swarm = on_nowhere g.D.Disk.conduct g.H.NodeHash.digest (ReadFailed g.G.R.WatchedReader.has_failed g.G.Gate.is_troubled) (OneFailed g.G.W.QueuedWriter.has_failed) g.G.Gate.gives g.G.R.Read.remaining g.G.W.QueuedWriter.contents g.G.Gate.leads c.args.engine.now c.args.members.now.items c.args.gate.now c.args.gate.now (g.met.G.Gate.leads_nowhere c.args.gate.now);
  fewer = omega arith;
  waits = refl;
}
