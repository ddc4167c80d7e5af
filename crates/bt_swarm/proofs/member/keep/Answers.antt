use Rattle.std.proofs.Common.{[], refl}
use Rattle.bt_session.specs.Failures.{OneFailed}
use Rattle.bt_swarm.specs.Causes.{IsFaultOf, ReadFailed}
use Rattle.bt_swarm.proofs.Causing.{fault_more}
use Rattle.bt_swarm.proofs.Moving.{moves_none, moves_put, moves_fault}
use Rattle.bt_swarm.proofs.Putting.{put_alive}
use Rattle.bt_swarm.proofs.member.keep.Goals as goal

pub returns-in-Err : goal.returns-in-Err
returns-in-Err g c =
    moves_fault g.G.R.Read.remaining g.G.W.QueuedWriter.contents (IsFaultOf g.G.R.WatchedReader.has_failed g.G.W.QueuedWriter.has_failed g.G.Gate.is_troubled) [] c.in-Err.end c.args.member.now _ refl refl refl c.in-None.is refl (fault_more ⊥ (OneFailed g.G.W.QueuedWriter.has_failed) (ReadFailed g.G.R.WatchedReader.has_failed g.G.Gate.is_troubled) (OneFailed g.G.W.QueuedWriter.has_failed) (λ no. absurd no) (λ f. f) c.in-Err.end c.in-Err.ensures.fault) c.in-Err.ensures.kept

pub returns-then-waiting-gt0 : goal.returns-then-waiting-gt0
returns-then-waiting-gt0 g c = moves_none g.G.R.Read.remaining g.G.W.QueuedWriter.contents (IsFaultOf g.G.R.WatchedReader.has_failed g.G.W.QueuedWriter.has_failed g.G.Gate.is_troubled) c.args.member.now

pub returns-in_default-put : goal.returns-in_default-put
returns-in_default-put g c =
    moves_put g.G.R.Read.remaining g.G.W.QueuedWriter.contents (IsFaultOf g.G.R.WatchedReader.has_failed g.G.W.QueuedWriter.has_failed g.G.Gate.is_troubled) [] c.args.member.now _ refl refl refl c.in-None.is refl (put_alive _ _ c.in_default-put.ensures.put)
