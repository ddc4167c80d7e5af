use Rattle.bt_swarm.specs.Causes.{IsFaultOf}
use Rattle.bt_swarm.proofs.Moving.{moves_both}
use Rattle.bt_swarm.proofs.member.tend.Goals as goal

pub returns : goal.returns
returns g c = moves_both g.G.R.Read.remaining g.G.W.QueuedWriter.contents (IsFaultOf g.G.R.WatchedReader.has_failed g.G.W.QueuedWriter.has_failed g.G.Gate.is_troubled) c.args.member.now c.keep.new.member c.pass_on_to.new.member c.keep.ensures c.pass_on_to.ensures
