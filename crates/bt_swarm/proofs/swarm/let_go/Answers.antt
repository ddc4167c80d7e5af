use Rattle.std.proofs.Common.{refl, ◌∙◌, arith}
use Rattle.bt_session.specs.Failures.{OneFailed}
use Rattle.bt_swarm.specs.Causes.{ReadFailed}
use Rattle.bt_swarm.proofs.Going.{on_nowhere, on_trans}
use Rattle.bt_swarm.proofs.swarm.let_go.Goals as goal

pub loop-at-init : goal.loop-at-init
loop-at-init g c = record {
  keyed = c.requires.keyed;
  swarm = on_nowhere g.D.Disk.conduct g.H.NodeHash.digest (ReadFailed g.G.R.WatchedReader.has_failed g.G.Gate.is_troubled) (OneFailed g.G.W.QueuedWriter.has_failed) g.G.Gate.gives g.G.R.Read.remaining g.G.W.QueuedWriter.contents g.G.Gate.leads c.args.engine.now c.args.members.now.items c.args.gate.now c.args.gate.now (g.met.G.Gate.leads_nowhere c.args.gate.now);
  waits = refl;
  long = omega (arith, c.len-at.ensures, c.args.members.now.ok.0);
}

pub loop-at-preserved : goal.loop-at-preserved
loop-at-preserved g c =
    let inv = c.loop-at.invariant in record {
      keyed = c.leave_if_ended-gone.ensures.keyed;
      swarm = on_trans g.D.Disk.conduct g.H.NodeHash.digest (ReadFailed g.G.R.WatchedReader.has_failed g.G.Gate.is_troubled) (OneFailed g.G.W.QueuedWriter.has_failed) g.G.Gate.gives g.G.R.Read.remaining g.G.W.QueuedWriter.contents g.G.Gate.leads g.met.G.Gate.leads_on _ _ _ _ _ _ _ _ _ inv.swarm c.leave_if_ended-gone.ensures.swarm;
      waits = c.leave_if_ended-gone.ensures.waits ∙ inv.waits;
      long = omega (arith, inv.long, c.leave_if_ended-gone.ensures.fewer, c.loop-at-test.true);
    }
