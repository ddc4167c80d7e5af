use Rattle.std.proofs.Common.{refl}
use Rattle.std.proofs.KnownBytes.{Keeps-refl}
use Rattle.bt_swarm.proofs.Moving.{moves_kept}
use Rattle.bt_swarm.proofs.member.note_events.Goals as goal

pub returns : goal.returns
returns g c = moves_kept g.G.R.Read.remaining g.G.W.QueuedWriter.contents (λ is. ⊥) c.args.member.now _ refl refl refl refl (Keeps-refl (g.G.W.QueuedWriter.contents c.args.member.now.writer))
