use Rattle.bt_engine.specs.Leads.{none}
use Rattle.bt_session.proofs.Sessions.{flush_leads}
use Rattle.bt_session.proofs.peer.flush_behind.Goals as goal

pub returns-in-Never-clause-run : goal.returns-in-Never-clause-run
returns-in-Never-clause-run g c = none c.args.engine.now

pub returns-in-Each-clause-run : goal.returns-in-Each-clause-run
returns-in-Each-clause-run g c = flush_leads g.D.Disk.conduct g.H.NodeHash.digest c.args.engine.now _ _ c.flush.ensures.step
