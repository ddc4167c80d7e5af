use Rattle.std.proofs.Common.{[], take, refl}
use Rattle.std.proofs.KnownBytes.{Consumes-nil, Consumes-kept}
use Rattle.bt_swarm.specs.Causes.{IsFaultOf}
use Rattle.bt_swarm.proofs.Moving.{moves_read}
use Rattle.bt_swarm.proofs.member.read_of.Goals as goal

pub returns-in-Ok-clause-moves : goal.returns-in-Ok-clause-moves
returns-in-Ok-clause-moves g c =
    moves_read g.G.R.Read.remaining g.G.W.QueuedWriter.contents (IsFaultOf g.G.R.WatchedReader.has_failed g.G.W.QueuedWriter.has_failed g.G.Gate.is_troubled) (take c.in-Ok.count c.read_once.new.buffer) c.args.member.now _ refl refl refl refl c.in-Ok.ensures.bytes.0

pub returns-in-Err-clause-moves : goal.returns-in-Err-clause-moves
returns-in-Err-clause-moves g c =
    moves_read g.G.R.Read.remaining g.G.W.QueuedWriter.contents (IsFaultOf g.G.R.WatchedReader.has_failed g.G.W.QueuedWriter.has_failed g.G.Gate.is_troubled) [] c.args.member.now _ refl refl refl refl
    (Consumes-kept (g.G.R.Read.remaining c.args.member.now.reader) (g.G.R.Read.remaining c.args.member.now.reader) (g.G.R.Read.remaining c.read_once.new.self) []
    (Consumes-nil (g.G.R.Read.remaining c.args.member.now.reader)) c.in-Err.ensures.bytes)
