use Rattle.std.proofs.Common.{◌≡◌, refl}
use Rattle.std.proofs.KnownBytes.{Keeps-refl}
use Rattle.bt_swarm.proofs.Moving.{moves_fault, moves_none}
use Rattle.bt_swarm.proofs.member.put_end.Goals as goal

pub returns-in-None-clause-moves : goal.returns-in-None-clause-moves
returns-in-None-clause-moves g c =
    moves_fault g.G.R.Read.remaining g.G.W.QueuedWriter.contents (λ is. is ≡ c.args.end) _ c.args.end c.args.member.now _ refl refl refl c.in-None.is refl refl
    (Keeps-refl (g.G.W.QueuedWriter.contents c.args.member.now.writer))

pub returns-in-Some-clause-moves : goal.returns-in-Some-clause-moves
returns-in-Some-clause-moves g c = moves_none g.G.R.Read.remaining g.G.W.QueuedWriter.contents (λ is. is ≡ c.args.end) c.args.member.now
