use Rattle.std.proofs.Common.{refl}
use Rattle.bt_session.specs.Frames.{frames_to}
use Rattle.bt_session.specs.Failures.{OneFailed}
use Rattle.bt_swarm.specs.Causes.{IsFaultOf, ReadFailed}
use Rattle.bt_swarm.proofs.Causing.{fault_more}
use Rattle.bt_swarm.proofs.Moving.{moves_put, moves_fault}
use Rattle.bt_swarm.proofs.Putting.{put_all}
use Rattle.bt_swarm.proofs.member.deliver_to.Goals as goal

pub returns-in-Err : goal.returns-in-Err
returns-in-Err g c =
    moves_fault g.G.R.Read.remaining g.G.W.QueuedWriter.contents (IsFaultOf g.G.R.WatchedReader.has_failed g.G.W.QueuedWriter.has_failed g.G.Gate.is_troubled) (frames_to c.args.member.now.key c.args.send.now) c.in-Err.end c.args.member.now _ refl refl refl c.in-None.is refl
    (fault_more ⊥ (OneFailed g.G.W.QueuedWriter.has_failed) (ReadFailed g.G.R.WatchedReader.has_failed g.G.Gate.is_troubled) (OneFailed g.G.W.QueuedWriter.has_failed) (λ no. absurd no) (λ f. f) c.in-Err.end c.in-Err.ensures.fault) c.in-Err.ensures.kept

pub returns-in_default-put_frames : goal.returns-in_default-put_frames
returns-in_default-put_frames g c =
    moves_put g.G.R.Read.remaining g.G.W.QueuedWriter.contents (IsFaultOf g.G.R.WatchedReader.has_failed g.G.W.QueuedWriter.has_failed g.G.Gate.is_troubled) (frames_to c.args.member.now.key c.args.send.now) c.args.member.now _ refl refl refl c.in-None.is refl
    (put_all _ _ _ c.in_default-put_frames.ensures.put)
