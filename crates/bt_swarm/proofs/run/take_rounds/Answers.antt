use Rattle.std.proofs.Common.{◌+◌, List, subst, ap, ◌∙◌, arith}
use Rattle.bt_session.specs.Failures.{OneFailed}
use Rattle.bt_swarm.specs.Causes.{ReadFailed}
use Rattle.bt_swarm.specs.declared.member.Member.{Member}
use Rattle.bt_swarm.specs.Swarm.{IsAtEnd, waited_out}
use Rattle.bt_swarm.proofs.Ending.{on_err, if_passed, refused_after}
use Rattle.bt_swarm.proofs.Going.{on_nowhere, on_trans}
use Rattle.bt_swarm.proofs.run.take_rounds.Goals as goal

pub loop-waited-init : goal.loop-waited-init
loop-waited-init g c = record {
  keyed = c.requires.keyed;
  swarm = on_nowhere g.D.Disk.conduct g.H.NodeHash.digest (ReadFailed g.G.R.WatchedReader.has_failed g.G.Gate.is_troubled) (OneFailed g.G.W.QueuedWriter.has_failed) g.G.Gate.gives g.G.R.Read.remaining g.G.W.QueuedWriter.contents g.G.Gate.leads c.args.engine.now c.args.members.now.items c.args.gate.now c.args.gate.now (g.met.G.Gate.leads_nowhere c.args.gate.now);
  waits = c.requires.unwaited;
}

pub loop-waited-preserved : goal.loop-waited-preserved
loop-waited-preserved g c = record {
  keyed = c.round.ensures.keyed;
  swarm = on_trans g.D.Disk.conduct g.H.NodeHash.digest (ReadFailed g.G.R.WatchedReader.has_failed g.G.Gate.is_troubled) (OneFailed g.G.W.QueuedWriter.has_failed) g.G.Gate.gives g.G.R.Read.remaining g.G.W.QueuedWriter.contents g.G.Gate.leads g.met.G.Gate.leads_on _ _ _ _ _ _ _ _ _ c.loop-waited.invariant.swarm c.round.ensures.swarm;
  waits = c.round.ensures.waits ∙ ap (λ n. n + 1) c.loop-waited.invariant.waits;
}

pub returns-then-is_over : goal.returns-then-is_over
returns-then-is_over g c = record {
  keyed = c.loop-waited.invariant.keyed;
  swarm = c.loop-waited.invariant.swarm;
  over = subst (λ (l : List (Member g.row.G-R.Denot g.row.G-W.Denot)). IsAtEnd c.args.until_complete c.loop-waited.engine l (g.G.Gate.is_shut c.loop-waited.gate) (g.G.Gate.waits c.loop-waited.gate))
      c.as_slice.ensures.value (c.is_over.ensures c.if-is_over.true);
  refused = tt;
}

pub returns-in_err-round : goal.returns-in_err-round
returns-in_err-round g c = record {
  keyed = c.round.ensures.keyed;
  swarm = on_trans g.D.Disk.conduct g.H.NodeHash.digest (ReadFailed g.G.R.WatchedReader.has_failed g.G.Gate.is_troubled) (OneFailed g.G.W.QueuedWriter.has_failed) g.G.Gate.gives g.G.R.Read.remaining g.G.W.QueuedWriter.contents g.G.Gate.leads g.met.G.Gate.leads_on _ _ _ _ _ _ _ _ _ c.loop-waited.invariant.swarm c.round.ensures.swarm;
  over = on_err _ c.from_residual.result _ c.from_residual.ensures.1;
  refused = if_passed c.from_residual.result _ _ c.from_residual.ensures.1
      (refused_after g.D.Disk.conduct g.H.NodeHash.digest _ _ _ _ _ c.loop-waited.invariant.swarm.runs c.in_err-round.ensures.refused);
}

pub returns : goal.returns
returns g c = record {
  keyed = c.loop-waited.invariant.keyed;
  swarm = c.loop-waited.invariant.swarm;
  over = waited_out (c.loop-waited.invariant.waits ∙ omega (arith, c.loop-waited.auto.waited-end, c.loop-waited-test.false));
  refused = tt;
}
